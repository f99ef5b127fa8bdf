use Rattle.std.proofs.Common.{◌≡◌, take}
use Rattle.frontier_sweep.proofs.places.increasing.Given as goal

abbrev pub invariant-loop-name : goal.invariant-loop-name
invariant-loop-name l = l.sorted.items ≡ take l.name-index l.names
