use Rattle.std.proofs.Common.{◌≡◌, map, take, slice_index}
use Rattle.planar_check.proofs.component.named.Given as goal

abbrev pub invariant-loop-rank : goal.invariant-loop-rank
invariant-loop-rank l = l.found.items ≡ map (slice_index l.names) (take l.rank-index l.ranks)
