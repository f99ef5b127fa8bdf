use Rattle.planar_check.proofs.Strands.{strands_more}
use Rattle.planar_check.proofs.component.strand_edges.Goals as goal

pub loop-item-preserved : goal.loop-item-preserved
loop-item-preserved c = strands_more c.args.names.now c.args.items.now c.loop-item.item-index _ _ _ c.loop-item-test.true c.loop-item.invariant c.in_ok-push_strands.ensures
