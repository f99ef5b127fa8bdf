-- Places: the slots at which labels stand. Places are numbered from 0, one item with slots after the
-- other and slot by slot; a loop has none. An item with slots is a crossing or a vertex, and its slots
-- stand counterclockwise (KnotTheory's PD notation). What is said of items of either kind takes the
-- function that gives an item's slots.
--
--     item_slots item            the labels at an item's slots; net_item_slots the same for a net
--     slot_lists slots_of items   the labels at each item that has slots, item by item
--     labels_by_place crossings  for each place the label that stands there
--     slots_after n crossings  for each place the next one counterclockwise at its item, where the
--                                first place has the number n
--     owners n crossings         for each place the number of its item, where the first has n
--     other_places labels        for each place the other place of its label: across the edge
--
-- For X[1,4,2,5] X[3,6,4,1] X[5,2,6,3], the left-handed trefoil: the label 4 stands at the places 1
-- and 6, and counterclockwise from the place 6 comes the place 7, from 7 the place 4.
use Rattle.std.specs.Prelude.{ℕ, Bool, ◌+◌, ◌%◌, ◌==◌, ◌&&◌, not, nat_lt, if◌then◌else◌, List, [], ◌∷◌, ◌++◌, length, map, slice_index, Option}
use Rattle.std.specs.List.{filter, position, range_with_len}
use Rattle.pd_reader.specs.declared.item.Item.{Item}
use Rattle.pd_reader.specs.declared.item.Item.TheVariants as items
use Rattle.pd_reader.specs.declared.item.NetItem.{NetItem}
use Rattle.pd_reader.specs.declared.item.NetItem.TheVariants as net_items

-- the labels at the slots of an item of a diagram
abbrev pub item_slots : Item → List ℕ
item_slots (items.X slots) = slots
item_slots (items.Loop label) = []

-- the labels at the slots of an item of a net
abbrev pub net_item_slots : NetItem → List ℕ
net_item_slots (net_items.X slots) = slots
net_item_slots (net_items.Y edges) = edges
net_item_slots (net_items.Loop label) = []

-- the labels at each item that has slots
abbrev pub slot_lists : {I : Type 0} → (I → List ℕ) → List I → List (List ℕ)
slot_lists slots_of items = filter (λ slots. nat_lt 0 (length slots)) (map slots_of items)

-- for each place the label that stands there
abbrev pub labels_by_place : List (List ℕ) → List ℕ
labels_by_place [] = []
labels_by_place (slots ∷ lists) = slots ++ labels_by_place lists

-- the next place at an item of n slots whose first place is the given one
abbrev pub slot_after : ℕ → ℕ → ℕ → ℕ
slot_after start n slot = start + (slot + 1) % n

-- for each place the next one counterclockwise at its item
abbrev pub slots_after : ℕ → List (List ℕ) → List ℕ
slots_after start [] = []
slots_after start (slots ∷ lists) =
    map (slot_after start (length slots)) (range_with_len 0 (length slots)) ++ slots_after (start + length slots) lists

-- for each place the number of its item
abbrev pub owners : ℕ → List (List ℕ) → List ℕ
owners number [] = []
owners number (slots ∷ lists) = map (λ _. number) slots ++ owners (number + 1) lists

-- the first place of the label, if it stands at one
abbrev pub first_place : List ℕ → ℕ → Option ℕ
first_place labels label = position (λ other. other == label) labels

-- the first number of the list that passes the test, or the last argument
abbrev pub first_passing : (ℕ → Bool) → List ℕ → ℕ → ℕ
first_passing test [] none = none
first_passing test (n ∷ ns) none = if test n then n else first_passing test ns none

-- q is another place than p, and the same label stands there
abbrev pub is_across : List ℕ → ℕ → ℕ → Bool
is_across labels p q = not (q == p) && slice_index labels q == slice_index labels p

-- the other place at which p's label stands; p itself where there is none
unfoldable pub other_place : List ℕ → ℕ → ℕ
other_place labels p = first_passing (is_across labels p) (range_with_len 0 (length labels)) p

-- for each place the other place of its label
abbrev pub other_places : List ℕ → List ℕ
other_places labels = map (other_place labels) (range_with_len 0 (length labels))

-- the crossings of a diagram, by the labels at their slots
abbrev pub crossings_of : List Item → List (List ℕ)
crossings_of items = slot_lists item_slots items

-- for each place of a diagram the label that stands there
abbrev pub place_labels : List Item → List ℕ
place_labels items = labels_by_place (crossings_of items)
