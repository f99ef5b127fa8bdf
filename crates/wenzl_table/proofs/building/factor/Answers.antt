use Rattle.std.proofs.Common.{◌-◌, pos, ◌*ℤ◌, neg_ℤ, ap, ◌∙◌}
use Rattle.ring_identities.specs.Residues.{residue}
use Rattle.wenzl_table.proofs.Steps.{wenzl_factor_is}
use Rattle.wenzl_table.proofs.building.factor.Goals as goal

pub returns-clause-value : goal.returns-clause-value
returns-clause-value c =
    wenzl_factor_is c.args.params.now (c.args.n - 1) c.args.inverse c.delta.result c.mul.result c.neg.result c.delta.ensures.value
    (c.mul.ensures.product ∙ ap (λ k. residue k (pos c.delta.result *ℤ pos c.args.inverse)) c.ring-ring.ensures)
    (c.neg.ensures.negative ∙ ap (λ k. residue k (neg_ℤ (pos c.mul.result))) c.ring-ring.ensures)
