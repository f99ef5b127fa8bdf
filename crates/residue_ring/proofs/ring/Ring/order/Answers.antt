-- A power that is 1 ends the walk; each one before it was not.
use Rattle.std.proofs.Common.{pos, sym, ap, ◌∙◌, arith}
use Rattle.ring_identities.specs.Residues.{residue}
use Rattle.ring_identities.specs.Powers.{power}
use Rattle.residue_ring.proofs.PowerSteps.{power_first, power_next, none_next}
use Rattle.residue_ring.proofs.ring.Ring.order.Goals as goal

pub loop-t-init : goal.loop-t-init
loop-t-init c = record {
  value_below = c.one-value.ensures.below;
  value_is = power_first c.args.self.now c.args.x c.one-value.result c.one-value.ensures.one c.one-value.ensures.below;
  none_before = λ s positive within. absurd (omega arith);
}

pub returns-then-value-eq1 : goal.returns-then-value-eq1
returns-then-value-eq1 c =
    let is_power = power_next c.args.self.now c.args.x c.loop-t.value c.mul-value.result c.loop-t.t (omega arith) c.loop-t.auto.t c.loop-t.invariant.value_is c.mul-value.ensures.product in (
      c.loop-t-test.true,
      record {
        positive = c.loop-t.auto.t;
        unity = sym is_power ∙ c.if-value-eq1.true;
        least = c.loop-t.invariant.none_before;
      },
    )

pub loop-t-preserved : goal.loop-t-preserved
loop-t-preserved c =
    let is_power = power_next c.args.self.now c.args.x c.loop-t.value c.mul-value.result c.loop-t.t (omega arith) c.loop-t.auto.t c.loop-t.invariant.value_is c.mul-value.ensures.product in
    record {
      value_below = c.mul-value.ensures.below;
      value_is = is_power ∙ ap (λ k. residue c.args.self.now (power (pos c.args.x) k)) (omega arith);
      none_before = none_next c.args.self.now c.args.x c.mul-value.result c.loop-t.t is_power c.if-value-eq1.false c.loop-t.invariant.none_before;
    }

pub returns-else-value-eq1 : goal.returns-else-value-eq1
returns-else-value-eq1 c =
    let is_power = power_next c.args.self.now c.args.x c.loop-t.value c.mul-value.result c.loop-t.t (omega arith) c.loop-t.auto.t c.loop-t.invariant.value_is c.mul-value.ensures.product in
    let none = none_next c.args.self.now c.args.x c.mul-value.result c.loop-t.t is_power c.if-value-eq1.false c.loop-t.invariant.none_before in
    λ t positive within. none t positive (omega arith)
