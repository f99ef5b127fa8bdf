use Rattle.std.proofs.Common.{◌≡◌, drop}
use Rattle.skein_network.specs.Edges.{colour_at}
use Rattle.skein_network.proofs.edge.colour_of.Given as goal

abbrev pub invariant-loop-edge : goal.invariant-loop-edge
invariant-loop-edge l = colour_at l.edges l.label ≡ colour_at (drop l.edge-index l.edges) l.label
