-- The value is the definition's, and of a Kirby sum it is the surgery value.
use Rattle.std.proofs.Common.{pos, ◌*ℤ◌, ap, ◌∙◌}
use Rattle.ring_identities.specs.Residues.{residue}
use Rattle.kirby_terms.proofs.Omegas.{value_is, surgery_is}
use Rattle.kirby_terms.proofs.normalisation.normalise.Goals as goal

pub returns-clause-normalised : goal.returns-clause-normalised
returns-clause-normalised c =
    value_is c.args.params.now c.args.value c.args.counts.now.positive c.args.counts.now.negative c.in_ok-plus.plus c.in_ok-minus.minus c.mul.result c.mul-2.result
    c.in_ok-plus.ensures.power c.in_ok-minus.ensures.power
    (c.mul.ensures.product ∙ ap (λ m. residue m (pos c.args.value *ℤ pos c.in_ok-plus.plus)) c.ring-ring.ensures)
    (c.mul-2.ensures.product ∙ ap (λ m. residue m (pos c.mul.result *ℤ pos c.in_ok-minus.minus)) c.ring-ring.ensures)

pub returns-clause-surgery : goal.returns-clause-surgery
returns-clause-surgery c = λ diagram k_is plus_is minus_is.
    (value_is c.args.params.now c.args.value c.args.counts.now.positive c.args.counts.now.negative c.in_ok-plus.plus c.in_ok-minus.minus c.mul.result c.mul-2.result
    c.in_ok-plus.ensures.power c.in_ok-minus.ensures.power
    (c.mul.ensures.product ∙ ap (λ m. residue m (pos c.args.value *ℤ pos c.in_ok-plus.plus)) c.ring-ring.ensures)
    (c.mul-2.ensures.product ∙ ap (λ m. residue m (pos c.mul.result *ℤ pos c.in_ok-minus.minus)) c.ring-ring.ensures))
    ∙ surgery_is c.args.params.now diagram c.args.value c.args.counts.now.positive c.args.counts.now.negative k_is plus_is minus_is
