use Rattle.std.proofs.Common.{◌≡◌, map, take}
use Rattle.graph_parts.specs.Renaming.{renamed}
use Rattle.planar_check.specs.Components.{strand_edges, rank}
use Rattle.planar_check.proofs.component.strand_edges.Given as goal

abbrev pub invariant-loop-item : goal.invariant-loop-item
invariant-loop-item l = l.edges.items ≡ map (renamed (rank l.names)) (strand_edges (take l.item-index l.items))
