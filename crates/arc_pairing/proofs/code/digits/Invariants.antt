use Rattle.std.proofs.Common.{◌≡◌, ◌≤◌, drop, length}
use Rattle.arc_pairing.specs.Codes.{digits_of}
use Rattle.arc_pairing.proofs.code.digits.Given as goal

abbrev pub invariant-loop-at : goal.invariant-loop-at
invariant-loop-at l = record { within : l.at ≤ length l.partner; is : l.sum ≡ digits_of (drop l.at l.partner) }

abbrev pub decreases-loop-at : goal.decreases-loop-at
decreases-loop-at l = l.at
