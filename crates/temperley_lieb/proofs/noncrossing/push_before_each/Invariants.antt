use Rattle.std.proofs.Common.{◌≡◌, ◌++◌, map, take}
use Rattle.strand_algebra.specs.Noncrossing.{nested}
use Rattle.temperley_lieb.proofs.noncrossing.push_before_each.Given as goal

abbrev pub invariant-loop-outer : goal.invariant-loop-outer
invariant-loop-outer l = l.list.items ≡ l.initial.list.items ++ map (nested l.k l.inside) (take l.outer-index l.behind)
