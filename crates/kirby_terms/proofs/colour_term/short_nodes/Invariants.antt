use Rattle.std.proofs.Common.{take, All}
use Rattle.arc_pairing.specs.Nodes.{IsShortNode}
use Rattle.kirby_terms.proofs.colour_term.short_nodes.Given as goal

abbrev pub invariant-loop-node : goal.invariant-loop-node
invariant-loop-node l = All IsShortNode (take l.node-index l.nodes)
