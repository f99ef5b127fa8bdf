use Rattle.std.proofs.Common.{◌≡◌, ◌++◌, map, drop}
use Rattle.skein_network.specs.Edges.{diagram_edge}
use Rattle.skein_network.proofs.diagram.diagram_edges.Given as goal

-- the edges so far, and those that are left
abbrev pub invariant-loop-label : goal.invariant-loop-label
invariant-loop-label l = l.edges.items ++ map (diagram_edge l.diagram l.colours) (drop l.label-index l.label-items) ≡ map (diagram_edge l.diagram l.colours) l.label-items
