use Rattle.std.proofs.Common.{◌≡◌}
use Rattle.std.specs.List.{flat_map, range_with_len}
use Rattle.temperley_lieb.proofs.NestedLists.{around}
use Rattle.temperley_lieb.proofs.noncrossing.+noncrossing.Given as goal

abbrev pub decreases-noncrossing : goal.decreases-noncrossing
decreases-noncrossing l = l.strands

abbrev pub invariant-loop-k : goal.invariant-loop-k
invariant-loop-k l = l.list.items ≡ flat_map (around l.strands) (range_with_len 0 l.k)
