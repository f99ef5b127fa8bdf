use Rattle.std.proofs.Common.{◌≡◌, ◌++◌, drop}
use Rattle.skein_network.specs.Edges.{edges_of}
use Rattle.skein_network.proofs.net.net_edges.Given as goal

-- the edges so far, and those that are left
abbrev pub invariant-loop-i : goal.invariant-loop-i
invariant-loop-i l = l.edges.items ++ edges_of (drop l.i l.names) (drop l.i l.colours) ≡ edges_of l.names l.colours
