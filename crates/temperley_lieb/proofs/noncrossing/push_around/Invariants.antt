use Rattle.std.proofs.Common.{◌≡◌, ◌++◌, map, take}
use Rattle.std.specs.List.{flat_map}
use Rattle.strand_algebra.specs.Noncrossing.{nested}
use Rattle.temperley_lieb.proofs.noncrossing.push_around.Given as goal

abbrev pub invariant-loop-inside : goal.invariant-loop-inside
invariant-loop-inside l = l.list.items ≡ l.initial.list.items ++ flat_map (λ inside. map (nested l.k inside) l.behind) (take l.inside-index l.inner)
