use Rattle.std.proofs.Common.{◌≡◌, drop}
use Rattle.skein_network.specs.Edges.{boxed_at}
use Rattle.skein_network.proofs.edge.is_boxed.Given as goal

abbrev pub invariant-loop-edge : goal.invariant-loop-edge
invariant-loop-edge l = boxed_at l.edges l.label ≡ boxed_at (drop l.edge-index l.edges) l.label
