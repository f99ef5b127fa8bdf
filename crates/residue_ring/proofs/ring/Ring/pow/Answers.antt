-- An odd exponent moves one factor, and each step squares.
use Rattle.std.proofs.Common.{◌∙◌, sym, ap, arith}
use Rattle.residue_ring.proofs.PowerSteps.{remaining, remaining_first, remaining_even, remaining_odd, remaining_last}
use Rattle.residue_ring.proofs.ring.Ring.pow.Goals as goal
use Rattle.residue_ring.proofs.ring.Ring.pow.Goals.{then-left-eq1, else-left-eq1}

pub loop-left-init : goal.loop-left-init
loop-left-init c = record {
  product_below = c.one-product.ensures.below;
  square_below = c.requires;
  remaining_is = remaining_first c.args.self.now c.one-product.result c.args.base c.args.e c.one-product.ensures.one;
}

pub loop-left-preserved : goal.loop-left-preserved
loop-left-preserved c =
    let before = c.loop-left.invariant in
    elim c.if-left-eq1.branch [
      | then-left-eq1 w ↦ record {
        product_below = omega arith;
        square_below = c.mul-square.ensures.below;
        remaining_is = remaining_odd c.args.self.now c.loop-left.product c.loop-left.square c.loop-left.left c.if-left-eq1.product c.mul-square.result (omega arith) w.if-left-eq1.true (w.product-is ∙ w.mul-product.ensures.product) c.mul-square.ensures.product ∙ before.remaining_is;
      }
      | else-left-eq1 w ↦ record {
        product_below = omega arith;
        square_below = c.mul-square.ensures.below;
        remaining_is = remaining_even c.args.self.now c.if-left-eq1.product c.loop-left.square c.loop-left.left c.mul-square.result (omega arith) w.if-left-eq1.false c.mul-square.ensures.product ∙ ap (λ k. remaining c.args.self.now k c.loop-left.square c.loop-left.left) w.product-is ∙ before.remaining_is;
      }
    ]

pub returns-clause-power : goal.returns-clause-power
returns-clause-power c =
    sym (remaining_last c.args.self.now c.loop-left.product c.loop-left.square c.loop-left.left c.loop-left.invariant.product_below (omega arith)) ∙ c.loop-left.invariant.remaining_is
