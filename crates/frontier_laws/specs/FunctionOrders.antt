-- All nodes of a network in the order that a function of the view gives, and the first of them that meets a limit. (This project's
-- own.)
--
--     nodes_by next network    the nodes of the network, as `next` takes them
--     is_wide nodes k          after the first k nodes more than 24 names are open
--     is_full nodes k          after them there are more than 262,144 different pairings of the open names
--     first_limit nodes        the first k, from 1 on, of which one of the two holds
--
-- Of two nodes on the same 26 names the first meets a limit (proofs/Examples.antt).
use Rattle.std.specs.Prelude.{◌||◌, ℕ, nat_lt, Bool, List, length, take, find, Option}
use Rattle.std.specs.List.{range_with_len}
use Rattle.state_sums.specs.Networks.{Node, Network}
use Rattle.arc_pairing.specs.declared.limits.TheConstants.{MOST_POINTS}
use Rattle.frontier_laws.specs.Orders.{View, taken, order_by}
use Rattle.frontier_laws.specs.Turns.{open_count, pairing_count}
use Rattle.frontier_laws.specs.declared.limits.TheConstants.{MOST_PAIRINGS}

-- The nodes as the function takes them.
abbrev pub nodes_by : (View → ℕ) → Network → List Node
nodes_by next network = taken network.nodes (order_by next network (length network.nodes))

-- After the first k nodes too many names are open.
abbrev pub is_wide : List Node → ℕ → Bool
is_wide nodes k = nat_lt MOST_POINTS (open_count (take k nodes))

-- After the first k nodes there are too many pairings.
abbrev pub is_full : List Node → ℕ → Bool
is_full nodes k = nat_lt MOST_PAIRINGS (pairing_count (take k nodes))

-- The first step that meets a limit.
abbrev pub first_limit : List Node → Option ℕ
first_limit nodes = find (λ k. is_wide nodes k || is_full nodes k) (range_with_len 1 (length nodes))
