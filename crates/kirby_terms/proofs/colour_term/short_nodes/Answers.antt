use Rattle.arc_pairing.specs.Nodes.{IsShortNode}
use Rattle.arc_pairing.proofs.Steps.{all_read}
use Rattle.kirby_terms.proofs.colour_term.short_nodes.Goals as goal

pub loop-node-preserved : goal.loop-node-preserved
loop-node-preserved c =
    all_read IsShortNode c.args.nodes.now c.loop-node.node-index c.node-item.result c.loop-node-test.true c.node-item.is c.loop-node.invariant c.ends-ends.ensures.node
