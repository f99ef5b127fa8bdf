-- The labels that stand at an item, once for each standing: at each slot of a crossing and at each
-- edge of a vertex one, and at a loop its label twice, as if the loop were an edge with both ends.
--
--     item_labels item           the labels at an item of a diagram: X[1,4,2,5] has 1, 4, 2, 5, and
--                                Loop[3] has 3, 3
--     net_item_labels item       the same for an item of a net: Y[1,2,3] has 1, 2, 3
--     HasItsSlots item           a crossing has four slots; so for HasItsEdges, where a vertex has three
use Rattle.std.specs.Prelude.{◌≡◌, ℕ, List, [], ◌∷◌, length}
use Rattle.pd_reader.specs.declared.item.Item.{Item}
use Rattle.pd_reader.specs.declared.item.Item.TheVariants as items
use Rattle.pd_reader.specs.declared.item.NetItem.{NetItem}
use Rattle.pd_reader.specs.declared.item.NetItem.TheVariants as net_items

-- the labels at an item of a diagram
abbrev pub item_labels : Item → List ℕ
item_labels (items.X slots) = slots
item_labels (items.Loop label) = label ∷ label ∷ []

-- the labels at an item of a net
abbrev pub net_item_labels : NetItem → List ℕ
net_item_labels (net_items.X slots) = slots
net_item_labels (net_items.Y edges) = edges
net_item_labels (net_items.Loop label) = label ∷ label ∷ []

-- a crossing has four slots
abbrev pub HasItsSlots : Item → Type 0
HasItsSlots (items.X slots) = length slots ≡ 4
HasItsSlots (items.Loop label) = Unit {0}

-- a crossing has four slots, a vertex three edges
abbrev pub HasItsEdges : NetItem → Type 0
HasItsEdges (net_items.X slots) = length slots ≡ 4
HasItsEdges (net_items.Y edges) = length edges ≡ 3
HasItsEdges (net_items.Loop label) = Unit {0}
