use Rattle.std.proofs.Common.{◌≡◌, take}
use Rattle.arc_pairing.specs.Pairings.{mirrored}
use Rattle.arc_pairing.proofs.pairing.Pairing.mirror.Given as goal

abbrev pub invariant-loop-at : goal.invariant-loop-at
invariant-loop-at l = l.partners.items ≡ take l.at (mirrored l.points)
