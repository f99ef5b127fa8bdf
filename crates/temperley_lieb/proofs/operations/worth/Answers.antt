use Rattle.std.proofs.Common.{ap, ◌∙◌, pos}
use Rattle.ring_identities.specs.Residues.{residue}
use Rattle.ring_identities.specs.Powers.{power}
use Rattle.temperley_lieb.proofs.Rows.{worth_is}
use Rattle.temperley_lieb.proofs.operations.worth.Goals as goal

pub returns-clause-value : goal.returns-clause-value
returns-clause-value c =
    worth_is c.args.ring.now c.args.above c.args.below c.args.delta c.args.loops c.pow-of_loops.result c.mul.result c.mul-2.result
    (c.pow-of_loops.ensures.power ∙ ap (λ k. residue c.args.ring.now (power (pos c.args.delta) k)) c.from.ensures) c.mul.ensures.product c.mul-2.ensures.product
