-- The value is the power before t, and no power from 1 up to there is 1.
use Rattle.std.proofs.Common.{◌≡◌, ◌<◌, ◌≤◌, ◌-◌, ℕ, pos}
use Rattle.ring_identities.specs.Residues.{residue}
use Rattle.ring_identities.specs.Powers.{power, IsUnity}
use Rattle.residue_ring.proofs.ring.Ring.order.Given as goal

abbrev pub invariant-loop-t : goal.invariant-loop-t
invariant-loop-t l = record {
  value_below : l.value < l.self;
  value_is : l.value ≡ residue l.self (power (pos l.x) (l.t - 1));
  none_before : (s : ℕ) → 1 ≤ s → s < l.t → ¬ IsUnity l.self l.x s;
}
