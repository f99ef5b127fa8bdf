use Rattle.std.proofs.Common.{◌≡◌, ◌*◌, ◌≤◌, take, length, All}
use Rattle.state_sums.specs.Networks.{names_of}
use Rattle.arc_pairing.specs.Nodes.{IsShortNode}
use Rattle.arc_pairing.proofs.network.all_names.Given as goal

abbrev pub invariant-loop-node : goal.invariant-loop-node
invariant-loop-node l =
    (l.names.items ≡ names_of (take l.node-index l.nodes)) × All IsShortNode (take l.node-index l.nodes) × (length l.names.items ≤ 24 * l.node-index)
