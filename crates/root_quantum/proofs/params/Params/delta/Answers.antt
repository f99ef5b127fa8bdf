-- One turn is one step of `Delta_(n+2)` = delta `Delta_(n+1)` - `Delta_n`.
use Rattle.std.proofs.Common.{◌≡◌, pos, ◌*ℤ◌, ap, ◌∙◌, arith}
use Rattle.ring_identities.specs.Residues.{residue}
use Rattle.root_quantum.specs.QuantumNumbers.{loop_value}
use Rattle.root_quantum.proofs.QuantumSteps.{delta_none, delta_first, delta_next}
use Rattle.root_quantum.proofs.params.Params.delta.Goals as goal

pub loop-init : goal.loop-init
loop-init c =
    let p = c.args.self.now in
    record {
      value_below = p.meets.modulus.0;
      next_below = c.loop_value-loop_value.ensures.below;
      value_is = delta_none p;
      next_is = delta_first p c.loop_value-loop_value.result c.loop_value-loop_value.ensures.value c.loop_value-loop_value.ensures.below;
    }

pub loop-preserved : goal.loop-preserved
loop-preserved c =
    let p = c.args.self.now in
    let before = c.loop.invariant in
    let same : c.self.inside.ring ≡ p.modulus = ap (λ q. q.modulus) c.self.view_is in
    let product_is : c.mul.result ≡ residue c.self.inside.ring (pos (loop_value p) *ℤ pos c.loop.next) = c.mul.ensures.product ∙ ap (λ k. residue c.self.inside.ring (pos k *ℤ pos c.loop.next)) c.loop_value-loop_value.ensures.value in
    record {
      value_below = before.next_below;
      next_below = omega (arith, same, c.sub-after.ensures.below);
      value_is = before.next_is;
      next_is = delta_next p c.self.inside.ring c.loop.counter c.loop.value c.loop.next c.mul.result c.sub-after.result same before.value_is before.next_is product_is c.sub-after.ensures.difference;
    }
