use Rattle.std.proofs.Common.{◌≡◌, ◌+◌, ◌≤◌, drop}
use Rattle.cables.specs.Cables.{count_placed}
use Rattle.skein_network.proofs.network.count_placed.Given as goal

abbrev pub invariant-loop-item : goal.invariant-loop-item
invariant-loop-item l = (l.count + count_placed (drop l.item-index l.items) ≡ count_placed l.items) × (l.count ≤ l.item-index)
