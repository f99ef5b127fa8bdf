-- Orders of the nodes of a network (this project's own). Nodes are taken one by one; what was taken is written as the list
-- of their places in the network, from 0, in the order in which they were taken.
--
--     node_at nodes place                the node at that place
--     taken nodes order                  the nodes at these places, in this order
--     left_after count order             the places below count that are not in the order, increasing
--     IsPartOrder count order            some of the places below count, each once
--     increasing names                   the names, increasing; `placed` puts one more in its place
--     open_names nodes                   the names that stand once in the nodes, increasing
--     View                               what a chooser sees: the network, the places left, and the open names
--     view_after network order           what it sees when the nodes at these places are taken
--     least_of numbers                   the least number
--     first_least measure places         the first of the places at which the measure is least
--     open_with view place               how many names are open when the node at that place is taken too
--     rank_in groups group               where a group stands in a list of groups
--     listed_of, greedy_of, given_of     the three orders: which place each of them takes next
--     order_by next network steps        the places that an order takes in so many steps
--     IsChosen answers network order     each place is an answer on the view of those before it
use Rattle.std.specs.Prelude.{ℕ, ◌+◌, ◌<◌, ◌≤◌, ◌==◌, nat_lt, not, if◌then◌else◌, List, [], ◌∷◌, ◌++◌, map, length, slice_index, take, get_or}
use Rattle.std.specs.List.{All, filter, fold, position, range_with_len}
use Rattle.std.specs.Option.{unwrap_or}
use Rattle.std.specs.Set.{is_member}
use Rattle.state_sums.specs.Networks.{Node, Network, names_of}
use Rattle.arc_pairing.specs.Gluing.{open_name_count}
use Rattle.list_lemmas.specs.Times.{times_in}

-- The node at that place; past the end, one with no end and no term.
abbrev pub node_at : List Node → ℕ → Node
node_at nodes place = get_or nodes place record { group = 0; ends = []; terms = [] }

-- The nodes at these places, in this order.
abbrev pub taken : List Node → List ℕ → List Node
taken nodes order = map (node_at nodes) order

-- The places below count that are not in the order, increasing.
abbrev pub left_after : ℕ → List ℕ → List ℕ
left_after count order = filter (λ place. not (is_member ◌==◌ order place)) (range_with_len 0 count)

-- Some of the places below count, each once.
pub record IsPartOrder (count : ℕ) (order : List ℕ) : Type 0 where
  pub below : All (λ place. place < count) order
  pub once : (place : ℕ) → times_in order place ≤ 1

-- The name before the first one that is not below it.
abbrev pub placed : ℕ → List ℕ → List ℕ
placed name [] = name ∷ []
placed name (other ∷ names) = if nat_lt other name then other ∷ placed name names else name ∷ other ∷ names

-- The names, increasing.
abbrev pub increasing : List ℕ → List ℕ
increasing [] = []
increasing (name ∷ names) = placed name (increasing names)

-- The names that stand once in the nodes, increasing.
abbrev pub open_names : List Node → List ℕ
open_names nodes = increasing (filter (λ name. times_in (names_of nodes) name == 1) (names_of nodes))

-- What a chooser sees: the network, the places of the nodes that are left, increasing, and the open names, increasing.
pub record View : Type 0 where
  pub network : Network
  pub left : List ℕ
  pub names : List ℕ

-- The view when the nodes at these places are taken.
abbrev pub view_after : Network → List ℕ → View
view_after network order = record {
  network = network;
  left = left_after (length network.nodes) order;
  names = open_names (taken network.nodes order);
}

-- The least number of a list, and 0 of none.
abbrev pub least_of : List ℕ → ℕ
least_of [] = 0
least_of (number ∷ []) = number
least_of (number ∷ next ∷ numbers) = let rest = least_of (next ∷ numbers) in if nat_lt rest number then rest else number

-- The first of the places at which the measure is least.
abbrev pub first_least : (ℕ → ℕ) → List ℕ → ℕ
first_least measure places = slice_index (filter (λ place. measure place == least_of (map measure places)) places) 0

-- Listed: the least place left.
abbrev pub listed_of : View → ℕ
listed_of view = slice_index view.left 0

-- How many names are open when the node at that place is taken too: of the open names and its ends together, those that
-- stand once. By the law `open_names_with` it is how many stand once in all nodes that are then taken.
abbrev pub open_with : View → ℕ → ℕ
open_with view place = open_name_count (view.names ++ (node_at view.network.nodes place).ends)

-- Greedy: the place after which the fewest names are open, and the least of these.
abbrev pub greedy_of : View → ℕ
greedy_of view = first_least (open_with view) view.left

-- Where a group stands in a list of groups; those that are not in it come behind, increasing.
abbrev pub rank_in : List ℕ → ℕ → ℕ
rank_in groups group = unwrap_or (position (λ other. group == other) groups) (length groups + group)

-- Given: the least place left of the group that stands first in the list.
abbrev pub given_of : List ℕ → View → ℕ
given_of groups view = first_least (λ place. rank_in groups (node_at view.network.nodes place).group) view.left

-- The places that an order takes in so many steps, where `next` tells the next place of a view.
abbrev pub order_by : (View → ℕ) → Network → ℕ → List ℕ
order_by next network steps = fold (λ order _. order ++ next (view_after network order) ∷ []) [] (range_with_len 0 steps)

-- Each place of the order is an answer on the view of those before it.
abbrev pub IsChosen : (View → ℕ → Type 0) → Network → List ℕ → Type 0
IsChosen answers network order = (k : ℕ) → k < length order → answers (view_after network (take k order)) (slice_index order k)
