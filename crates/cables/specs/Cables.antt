-- The cable of items (Lickorish, ch. 13; Kauffman and Lins): a network with the nodes of each crossing and vertex, and boxes.
-- One definition for diagrams and nets: a diagram is a net without vertices.
--
--     Standing                       where an item stands: the labels at the places before it, the latest first, its number from 0, and the
--                                    group that it has as an item with places, or as a loop
--     passed standing item           where the next item stands
--     box_nodes strands standing slots      the boxes whose edges have their first place at these slots, by increasing label
--     item_nodes p strands standing item    the nodes of an item, its boxes before it
--     cable_nodes p strands standing items  the nodes of the items
--     loop_count strands items       the free loops: the loops of colour 1
--     cable p strands items          the network
use Rattle.std.specs.Prelude.{◌≡◌, ℕ, suc, ◌+◌, ◌%◌, ◌<◌, ◌≤◌, ◌==◌, ◌&&◌, not, List, [], ◌∷◌, ◌++◌, length, map, max, reverse}
use Rattle.std.specs.List.{All, filter, range_with_len}
use Rattle.std.specs.Set.{is_member}
use Rattle.state_sums.specs.Networks.{Node, Network, Term, IsPairing}
use Rattle.root_quantum.specs.Parameters.{Parameters}
use Rattle.pd_reader.specs.declared.item.Item.{Item}
use Rattle.pd_reader.specs.declared.item.Item.TheVariants as items
use Rattle.pd_reader.specs.declared.item.NetItem.{NetItem}
use Rattle.pd_reader.specs.declared.item.NetItem.TheVariants.{X, Y, Loop}
use Rattle.cables.specs.Strands.{Strands, names_at}
use Rattle.cables.specs.CableNodes.{crossing_cable, vertex_cable, box_node}

-- What an item's nodes depend on beside the item.
pub record Standing : Type 0 where
  pub seen : List ℕ
  pub index : ℕ
  pub group : ℕ
  pub loop_group : ℕ

-- The next item's.
abbrev pub passed : Standing → NetItem → Standing
passed standing (X slots) = record { seen = reverse slots ++ standing.seen; index = standing.index + 1; group = standing.group + 1; loop_group = standing.loop_group }
passed standing (Y edges) = record { seen = reverse edges ++ standing.seen; index = standing.index + 1; group = standing.group + 1; loop_group = standing.loop_group }
passed standing (Loop label) = record { seen = standing.seen; index = standing.index + 1; group = standing.group; loop_group = standing.loop_group + 1 }

-- A number past all of the list.
abbrev pub past_all : List ℕ → ℕ
past_all [] = 0
past_all (n ∷ ns) = max (n + 1) (past_all ns)

-- The boxes of the edges that have their first place here.
abbrev pub box_nodes : Strands → Standing → List ℕ → List Node
box_nodes strands standing slots =
    map (λ label. box_node standing.group (strands.box (length (strands.first label))) (strands.first label) (strands.second label))
    (filter (λ label. is_member ◌==◌ slots label && (strands.boxed label && not (is_member ◌==◌ standing.seen label))) (range_with_len 0 (past_all slots)))

-- A loop's box, for the names at it; loops of fewer strands have no node.
abbrev pub loop_nodes : Strands → ℕ → List ℕ → List Node
loop_nodes strands group (x ∷ y ∷ names) = box_node group (strands.box (length (x ∷ y ∷ names))) (x ∷ y ∷ names) (reverse (x ∷ y ∷ names)) ∷ []
loop_nodes strands group names = []

abbrev pub item_nodes : Parameters → Strands → Standing → NetItem → List Node
item_nodes p strands standing (X (a ∷ b ∷ c ∷ d ∷ [])) =
    box_nodes strands standing (a ∷ b ∷ c ∷ d ∷ [])
    ++ crossing_cable p standing.group standing.index
    (names_at strands standing.seen a)
    (names_at strands (a ∷ standing.seen) b)
    (names_at strands (b ∷ a ∷ standing.seen) c)
    (names_at strands (c ∷ b ∷ a ∷ standing.seen) d)
item_nodes p strands standing (X slots) = []
item_nodes p strands standing (Y (x ∷ y ∷ z ∷ [])) =
    box_nodes strands standing (x ∷ y ∷ z ∷ [])
    ++ vertex_cable standing.group
    (names_at strands standing.seen x)
    (names_at strands (x ∷ standing.seen) y)
    (names_at strands (y ∷ x ∷ standing.seen) z)
item_nodes p strands standing (Y edges) = []
item_nodes p strands standing (Loop label) = loop_nodes strands standing.loop_group (strands.first label)

abbrev pub cable_nodes : Parameters → Strands → Standing → List NetItem → List Node
cable_nodes p strands standing [] = []
cable_nodes p strands standing (item ∷ items) = item_nodes p strands standing item ++ cable_nodes p strands (passed standing item) items

-- One free loop for each loop of one strand.
abbrev pub loops_at : List ℕ → ℕ
loops_at (x ∷ []) = 1
loops_at names = 0

abbrev pub loop_count : Strands → List NetItem → ℕ
loop_count strands [] = 0
loop_count strands (X slots ∷ items) = loop_count strands items
loop_count strands (Y edges ∷ items) = loop_count strands items
loop_count strands (Loop label ∷ items) = loops_at (strands.first label) + loop_count strands items

-- How many items have places.
abbrev pub count_placed : List NetItem → ℕ
count_placed [] = 0
count_placed (X slots ∷ items) = suc (count_placed items)
count_placed (Y edges ∷ items) = suc (count_placed items)
count_placed (Loop label ∷ items) = count_placed items

-- Before the first item.
abbrev pub start : List NetItem → Standing
start items = record { seen = []; index = 0; group = 1; loop_group = count_placed items + 1 }

abbrev pub cable : Parameters → Strands → List NetItem → Network
cable p strands items = record { nodes = cable_nodes p strands (start items) items; free_loops = loop_count strands items }

-- The colours of three edges can meet at a vertex.
pub record IsAdmissible (a b c : ℕ) : Type 0 where
  pub even : (a + b + c) % 2 ≡ 0
  pub first : a ≤ b + c
  pub second : b ≤ c + a
  pub third : c ≤ a + b

-- The colours fit the item: opposite slots of a crossing have one, and a vertex is admissible.
abbrev pub Fits : Strands → NetItem → Type 0
Fits strands (X (a ∷ b ∷ c ∷ d ∷ [])) = (length (strands.first a) ≡ length (strands.first c)) × (length (strands.first b) ≡ length (strands.first d))
Fits strands (X slots) = ⊥
Fits strands (Y (x ∷ y ∷ z ∷ [])) = IsAdmissible (length (strands.first x)) (length (strands.first y)) (length (strands.first z))
Fits strands (Y edges) = ⊥
Fits strands (Loop label) = Unit {0}

-- The labels at the places of the items.
abbrev pub places : List NetItem → List ℕ
places [] = []
places (X slots ∷ items) = slots ++ places items
places (Y edges ∷ items) = edges ++ places items
places (Loop label ∷ items) = places items

-- The terms of a box on n strands pair its ends, with weights below m.
pub record AreBoxes (m : ℕ) (box : ℕ → List Term) : Type 0 where
  pub pairings : (n : ℕ) → All (λ term. IsPairing term.partner × (length term.partner ≡ n + n)) (box n)
  pub below : (n : ℕ) → All (λ term. term.weight < m) (box n)

-- A diagram as a net.
abbrev pub net_item : Item → NetItem
net_item (items.X slots) = X slots
net_item (items.Loop label) = Loop label

abbrev pub as_net : List Item → List NetItem
as_net [] = []
as_net (item ∷ items) = net_item item ∷ as_net items
