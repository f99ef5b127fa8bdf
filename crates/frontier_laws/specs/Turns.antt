-- How many turns it takes to sum the states of a network node by node, and where that meets a limit (this project's own).
-- The nodes stand in the order in which they are taken.
--
--     pairings nodes                 for each state of the nodes, how it pairs the names that are then open
--     pairing_count nodes            how many different pairings these are; for no node it is 1
--     turns_of nodes                 over the nodes, the number of pairings before it times the number of its terms:
--                                    10 for the trefoil, which is 2 + 4 + 4
--     turns network order            the same for the nodes of a network, in that order
--     open_count nodes               how many names are open
--     IsWithinAt nodes k             after the first k nodes no limit is met
--     IsWithin nodes                 after each node at most 24 names are open, with at most 262,144 pairings
--     IsWideAt nodes ends            after the last node more than 24 names are open, and no limit was met before
--     IsLimited nodes                one of the two
--     IsFullAt nodes                 after the last node there are more than 262,144 pairings of at most 24 open names, and no limit was met before
use Rattle.std.specs.Prelude.{◌≡◌, ◌⊎◌, ℕ, ◌*◌, ◌<◌, ◌≤◌, List, map, length, take}
use Rattle.std.specs.List.{sum_by, range_with_len}
use Rattle.std.specs.Set.{distinct_count}
use Rattle.std.specs.Str.{bytes_eq}
use Rattle.state_sums.specs.Networks.{Node, Network, names_of}
use Rattle.state_sums.specs.StateSums.{states, state_edges}
use Rattle.arc_gluing.specs.Pairings.{partners_of}
use Rattle.frontier_laws.specs.Orders.{node_at, taken, open_names}
use Rattle.arc_pairing.specs.declared.limits.TheConstants.{MOST_POINTS}
use Rattle.frontier_laws.specs.declared.limits.TheConstants.{MOST_PAIRINGS}

-- For each state, the pairing of the open names by its parts.
abbrev pub pairings : List Node → List (List ℕ)
pairings nodes = map (λ state. partners_of (names_of nodes) (state_edges nodes state) (open_names nodes)) (states nodes)

-- How many different ones these are.
abbrev pub pairing_count : List Node → ℕ
pairing_count nodes = distinct_count bytes_eq (pairings nodes)

-- Over the nodes, the number of pairings before each, times the number of its terms.
abbrev pub turns_of : List Node → ℕ
turns_of nodes = sum_by (λ k. pairing_count (take k nodes) * length (node_at nodes k).terms) (range_with_len 0 (length nodes))

abbrev pub turns : Network → List ℕ → ℕ
turns network order = turns_of (taken network.nodes order)

-- How many names are open.
abbrev pub open_count : List Node → ℕ
open_count nodes = length (open_names nodes)

-- After the first k nodes no limit is met.
pub record IsWithinAt (nodes : List Node) (k : ℕ) : Type 0 where
  pub narrow : open_count (take k nodes) ≤ MOST_POINTS
  pub few : pairing_count (take k nodes) ≤ MOST_PAIRINGS

-- No step meets a limit.
abbrev pub IsWithin : List Node → Type 0
IsWithin nodes = (k : ℕ) → k ≤ length nodes → IsWithinAt nodes k

-- After the last node this many names are open, more than 24, and no step before met a limit.
pub record IsWideAt (nodes : List Node) (ends : ℕ) : Type 0 where
  pub wide : MOST_POINTS < ends
  pub count : open_count nodes ≡ ends
  pub first : (k : ℕ) → k < length nodes → IsWithinAt nodes k

-- After the last node there are too many pairings, of at most 24 open names, and no step before met a limit.
pub record IsFullAt (nodes : List Node) : Type 0 where
  pub narrow : open_count nodes ≤ MOST_POINTS
  pub full : MOST_PAIRINGS < pairing_count nodes
  pub first : (k : ℕ) → k < length nodes → IsWithinAt nodes k

-- After the last node a limit is met, and no step before met one.
abbrev pub IsLimited : List Node → Type 0
IsLimited nodes = ((ends : ℕ) × IsWideAt nodes ends) ⊎ IsFullAt nodes
