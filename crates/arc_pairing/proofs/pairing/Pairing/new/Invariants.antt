use Rattle.std.proofs.Common.{◌≡◌, ℕ, ◌<◌, take}
use Rattle.arc_pairing.specs.Pairings.{IsPairedAt}
use Rattle.arc_pairing.proofs.pairing.Pairing.new.Given as goal

abbrev pub invariant-loop-at : goal.invariant-loop-at
invariant-loop-at l = (k : ℕ) → k < l.at → IsPairedAt l.partner k

abbrev pub invariant-loop-other : goal.invariant-loop-other
invariant-loop-other l = l.partners.items ≡ take l.other-index l.partner
