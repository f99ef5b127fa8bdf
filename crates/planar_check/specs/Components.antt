-- The components of a link diagram: the classes of labels that are reached by walking straight on. A
-- strand that enters a crossing at one slot leaves it at the opposite one, so the first label of a
-- crossing is joined to its third, and the second to its fourth. A loop is a component of its own.
-- Components are numbered from 1 in the order of their least labels.
--
--     strand_edges items         the labels that a strand of a crossing joins
--     component_least items label    the least label of the label's component
--     is_least_of items label    the label is one of the diagram, and the least of its component
--     distinct labels            the different labels of a list, in increasing order
--     rank names label           the index of a label in a list
--     least_labels items         the least label of each component, in increasing order
--     number_of items label      how many components have a least label that is not above this one's:
--                                the number of the label's component
--     component_of items label   that number, or nothing where the label is not in the diagram
--
-- The Hopf link X[2,4,3,1] X[4,2,1,3] has the components 1,4 and 2,3, with the least labels 1 and 2.
use Rattle.std.specs.Prelude.{ℕ, ◌+◌, ◌==◌, ◌&&◌, Bool, nat_le, max, if◌then◌else◌, List, [], ◌∷◌, ◌++◌, slice_index, count_by, Option, Some, None}
use Rattle.std.specs.List.{filter, position_or_len, range_with_len}
use Rattle.std.specs.Set.{is_member}
use Rattle.graph_parts.specs.LeastNames.{least_name}
use Rattle.pd_reader.specs.declared.item.Item.{Item}
use Rattle.pd_reader.specs.declared.item.Item.TheVariants as items
use Rattle.pd_reader.specs.Items.{item_labels}
use Rattle.pd_reader.specs.Diagrams.{labels}

-- the labels that a strand of the item joins
abbrev pub item_strands : Item → List (ℕ × ℕ)
item_strands (items.X slots) = (slice_index slots 0, slice_index slots 2) ∷ (slice_index slots 1, slice_index slots 3) ∷ []
item_strands (items.Loop label) = []

abbrev pub strand_edges : List Item → List (ℕ × ℕ)
strand_edges [] = []
strand_edges (item ∷ items) = item_strands item ++ strand_edges items

-- the least label of the label's component
unfoldable pub component_least : List Item → ℕ → ℕ
component_least items label = least_name (labels item_labels items) (strand_edges items) label

-- the label is one of the diagram, and the least of its component
abbrev pub is_least_of : List Item → ℕ → Bool
is_least_of items label = is_member ◌==◌ (labels item_labels items) label && component_least items label == label

-- the greatest number of a list, or 0
abbrev pub greatest : List ℕ → ℕ
greatest [] = 0
greatest (n ∷ ns) = max n (greatest ns)

-- the different labels of a list, in increasing order
unfoldable pub distinct : List ℕ → List ℕ
distinct labels = filter (is_member ◌==◌ labels) (range_with_len 0 (greatest labels + 1))

-- the index at which a name stands in a list of names, or the length of the list
abbrev pub rank : List ℕ → ℕ → ℕ
rank names label = position_or_len (λ name. name == label) names

-- the least label of each component, in increasing order
unfoldable pub least_labels : List Item → List ℕ
least_labels items = filter (is_least_of items) (range_with_len 0 (greatest (labels item_labels items) + 1))

-- the number of the label's component
abbrev pub number_of : List Item → ℕ → ℕ
number_of items label = count_by (λ least. nat_le least (component_least items label)) (least_labels items)

-- that number, for a label of the diagram
abbrev pub component_of : List Item → ℕ → Option ℕ
component_of items label = if is_member ◌==◌ (labels item_labels items) label then Some (number_of items label) else None
