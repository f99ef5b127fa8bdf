use Rattle.pd_reader.specs.Items.{item_labels, HasItsSlots}
use Rattle.pd_reader.proofs.ItemLabels.{unrefused_is_paired}
use Rattle.pd_reader.proofs.diagram.Diagram.new.Goals as goal

pub invariant_of-result : goal.invariant_of-result
invariant_of-result c = rw c.in_ok-checked.ensures.made (unrefused_is_paired item_labels HasItsSlots _ c.in_ok-checked.ensures.ok c.in_ok-checked.ensures.sized c.requires)
