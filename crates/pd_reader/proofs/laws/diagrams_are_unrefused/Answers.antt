use Rattle.pd_reader.specs.Items.{item_labels, net_item_labels, HasItsSlots, HasItsEdges}
use Rattle.pd_reader.proofs.ItemLabels.{paired_is_unrefused}
use Rattle.pd_reader.proofs.laws.diagrams_are_unrefused.Goals as goal

pub returns : goal.returns
returns c = (λ items h. paired_is_unrefused item_labels HasItsSlots items h, λ items h. paired_is_unrefused net_item_labels HasItsEdges items h)
