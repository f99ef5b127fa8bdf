-- By how often the modulus is taken off.
use Rattle.std.proofs.Common.{arith}
use Rattle.residue_ring.specs.Reciprocal.{estimate}
use Rattle.residue_ring.proofs.BarrettBounds.{reduced_once, reduced_again, reduced_twice}
use Rattle.residue_ring.proofs.reduction.reduce.Goals as goal
use Rattle.residue_ring.proofs.reduction.reduce.Goals.{then-rest-modulus, else-rest-modulus}

pub returns-then-less-modulus : goal.returns-then-less-modulus
returns-then-less-modulus c =
    let q = estimate c.args.shift c.args.reciprocal c.args.product in
    elim c.if-rest-modulus.branch [
      | then-rest-modulus w ↦ reduced_once c.args.modulus q c.args.product c.rest_of-rest.result c.if-rest-modulus.less c.rest_of-rest.ensures.rest w.less-is c.if-less-modulus.true
      | else-rest-modulus w ↦ reduced_again c.args.modulus q c.args.product c.rest_of-rest.result c.if-rest-modulus.less c.rest_of-rest.ensures.rest w.if-rest-modulus.false w.less-is c.if-less-modulus.true
    ]

pub returns-else-less-modulus : goal.returns-else-less-modulus
returns-else-less-modulus c =
    let q = estimate c.args.shift c.args.reciprocal c.args.product in
    elim c.if-rest-modulus.branch [
      | then-rest-modulus w ↦ absurd (omega (arith, w.if-rest-modulus.true, w.less-is, c.if-less-modulus.false))
      | else-rest-modulus w ↦ reduced_twice c.args.modulus q c.args.product c.rest_of-rest.result c.if-rest-modulus.less c.rest_of-rest.ensures.rest w.if-rest-modulus.false w.less-is c.if-less-modulus.false c.rest_of-rest.ensures.below
    ]
