use Rattle.std.proofs.Common.{◌≡◌, ◌+◌, take, length, ap, ◌∙◌, length-append, arith}
use Rattle.std.proofs.lemmas.Grind.{common_steps}
use Rattle.state_sums.specs.Networks.{names_of}
use Rattle.arc_pairing.specs.Nodes.{IsShortNode}
use Rattle.arc_pairing.proofs.Steps.{all_read}
use Rattle.arc_pairing.proofs.network.all_names.Goals as goal

pub loop-node-preserved : goal.loop-node-preserved
loop-node-preserved c =
    let few = c.ends.ensures.node.few_ends in
    let same = ap length c.ends.ensures.value in
    let more = ap length c.in_ok-extend_from_slice.ensures.items ∙ length-append c.loop-node.names.items c.ends.result.now in
    let before = c.loop-node.invariant.2 in
    let first : c.extend_from_slice.new.self.items ≡ names_of (take (c.loop-node.node-index + 1) c.args.nodes.now) = grind (arith, common_steps, c.loop-node.invariant.0, c.node-item.is, c.ends.ensures.value, c.in_ok-extend_from_slice.ensures.items) in (
      first,
      all_read IsShortNode c.args.nodes.now c.loop-node.node-index c.node-item.result c.loop-node-test.true c.node-item.is c.loop-node.invariant.1 c.ends.ensures.node,
      omega (arith, few, same, more, before),
    )
