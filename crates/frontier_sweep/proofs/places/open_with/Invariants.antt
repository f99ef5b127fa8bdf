use Rattle.std.proofs.Common.{◌≡◌, ◌++◌, take}
use Rattle.frontier_sweep.proofs.KeptPlaces.{IsPlaced}
use Rattle.frontier_sweep.proofs.places.open_with.Given as goal

abbrev pub invariant-loop-name : goal.invariant-loop-name
invariant-loop-name l = IsPlaced l.names l.ends l.name-index l.open.items l.fresh.items

abbrev pub invariant-loop-end : goal.invariant-loop-end
invariant-loop-end l = l.open.items ≡ l.initial.open.items ++ take l.end-index l.end-items
