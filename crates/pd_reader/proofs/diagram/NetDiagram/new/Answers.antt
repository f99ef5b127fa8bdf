use Rattle.pd_reader.specs.Items.{net_item_labels, HasItsEdges}
use Rattle.pd_reader.proofs.ItemLabels.{unrefused_is_paired}
use Rattle.pd_reader.proofs.diagram.NetDiagram.new.Goals as goal

pub invariant_of-result : goal.invariant_of-result
invariant_of-result c = rw c.in_ok-checked.ensures.made (unrefused_is_paired net_item_labels HasItsEdges _ c.in_ok-checked.ensures.ok c.in_ok-checked.ensures.sized c.requires)
