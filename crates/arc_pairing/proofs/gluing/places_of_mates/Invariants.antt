use Rattle.std.proofs.Common.{◌≡◌, map, take, slice_index}
use Rattle.arc_pairing.proofs.gluing.places_of_mates.Given as goal

abbrev pub invariant-loop-slot : goal.invariant-loop-slot
invariant-loop-slot l = l.partners.items ≡ map (λ x. slice_index l.places (slice_index l.mates x)) (take l.slot-index l.slots)
