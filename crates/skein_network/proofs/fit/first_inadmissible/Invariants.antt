use Rattle.std.proofs.Common.{◌≡◌, ◌≤◌, ◌+◌, drop}
use Rattle.cables.specs.Nets.{first_inadmissible}
use Rattle.skein_network.specs.Edges.{colour_at}
use Rattle.skein_network.proofs.fit.first_inadmissible.Given as goal

abbrev pub invariant-loop-item : goal.invariant-loop-item
invariant-loop-item l =
    (first_inadmissible (colour_at l.edges) 1 l.items ≡ first_inadmissible (colour_at l.edges) l.number (drop l.item-index l.items))
    × (l.number ≤ l.item-index + 1)
