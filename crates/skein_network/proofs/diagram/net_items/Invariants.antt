use Rattle.std.proofs.Common.{◌≡◌, ◌++◌, drop}
use Rattle.cables.specs.Cables.{as_net}
use Rattle.skein_network.proofs.diagram.net_items.Given as goal

-- the items so far, and those that are left
abbrev pub invariant-loop-item : goal.invariant-loop-item
invariant-loop-item l = l.found.items ++ as_net (drop l.item-index l.items) ≡ as_net l.items
