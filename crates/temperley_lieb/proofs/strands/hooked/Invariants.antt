use Rattle.std.proofs.Common.{◌≡◌, map}
use Rattle.std.specs.List.{range_with_len}
use Rattle.strand_algebra.specs.StrandPairings.{hooked_point}
use Rattle.temperley_lieb.proofs.strands.hooked.Given as goal

abbrev pub invariant-loop-at : goal.invariant-loop-at
invariant-loop-at l = l.partners.items ≡ map (hooked_point l.strands l.i) (range_with_len 0 l.at)
