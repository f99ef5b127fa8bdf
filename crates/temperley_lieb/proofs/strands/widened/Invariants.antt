use Rattle.std.proofs.Common.{◌≡◌, ◌+◌, ◌∷◌, ◌++◌, map, take}
use Rattle.strand_algebra.specs.StrandPairings.{moved}
use Rattle.temperley_lieb.proofs.strands.widened.Given as goal

abbrev pub invariant-loop-point : goal.invariant-loop-point
invariant-loop-point l = l.wider.items ≡ map (moved l.strands) (take l.point-index l.bottom)

abbrev pub invariant-loop-point-2 : goal.invariant-loop-point-2
invariant-loop-point-2 l =
    l.wider.items ≡ map (moved l.strands) (take l.strands l.pairing) ++ ((l.strands + 1) ∷ l.strands ∷ map (moved l.strands) (take l.point-index l.top))
