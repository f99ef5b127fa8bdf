use Rattle.std.proofs.Common.{◌≡◌, map, take}
use Rattle.arc_gluing.specs.Seams.{place_in}
use Rattle.arc_pairing.proofs.seam.slots_of.Given as goal

abbrev pub invariant-loop-name : goal.invariant-loop-name
invariant-loop-name l = l.slots.items ≡ map (place_in l.all) (take l.name-index l.names)
