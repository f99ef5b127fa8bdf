-- What a contraction keeps between two steps.
--
--     Frontier                                      the places left, the open names, increasing and in their places, the table of the
--                                                   pairings of the latter, the rises, and the groups
--     IsFirst network frontier                      the frontier before a node is taken
--     IsFrontier m delta network order frontier turns
--                                                   the frontier, and the turns so far, when the nodes of the order are taken
--     IsLimitAfter network order reason             the limit that the last place of the order meets
use Rattle.std.specs.Prelude.{◌≡◌, ℕ, ◌*◌, ◌<◌, ◌≤◌, List, [], ◌∷◌, length, ⊤}
use Rattle.std.specs.List.{All, range_with_len}
use Rattle.state_sums.specs.Networks.{Network, names_of}
use Rattle.arc_gluing.specs.Pairings.{AreOpen}
use Rattle.frontier_laws.specs.Orders.{taken, left_after, open_names, IsPartOrder}
use Rattle.kept_tables.specs.KeptTables.{IsTableBy}
use Rattle.frontier_laws.specs.Turns.{turns, IsWithin, IsWideAt, IsFullAt}
use Rattle.frontier_sweep.specs.Groups.{IsGroupIndex}
use Rattle.frontier_sweep.specs.Rises.{Rises, IsRises}
use Rattle.frontier_sweep.specs.declared.fault.NotGlued.{NotGlued}
use Rattle.frontier_sweep.specs.declared.fault.NotGlued.TheVariants.{Wide, Full, Memory}

-- The places left, the open names, increasing and in the places that they keep, the table of the pairings of the latter, by how much the
-- number of open names rises at each node, and where each group stands.
pub record Frontier : Type 0 where
  pub left : List ℕ
  pub names : List ℕ
  pub places : List ℕ
  pub table : List (ℕ × ℕ)
  pub rises : Rises
  pub groups : List ℕ

-- Before a node is taken all are left, no name is open, and the pairing of no points has the coefficient 1.
pub record IsFirst (network : Network) (frontier : Frontier) : Type 0 where
  pub left_are : frontier.left ≡ range_with_len 0 (length network.nodes)
  pub names_are : frontier.names ≡ []
  pub places_are : frontier.places ≡ []
  pub table_is : frontier.table ≡ (0, 1) ∷ []
  pub rises_are : (left : List ℕ) → IsRises network left [] frontier.rises
  pub groups_are : IsGroupIndex network.nodes frontier.groups

-- The nodes of the order are taken, and no limit was met; 2^38 is the most that a step adds to the turns.
pub record IsFrontier (m delta : ℕ) (network : Network) (order : List ℕ) (frontier : Frontier) (count : ℕ) : Type 0 where
  pub part : IsPartOrder (length network.nodes) order
  pub within : IsWithin (taken network.nodes order)
  pub left_are : frontier.left ≡ left_after (length network.nodes) order
  pub names_are : frontier.names ≡ open_names (taken network.nodes order)
  pub places_open : AreOpen (names_of (taken network.nodes order)) frontier.places
  pub rises_are : IsRises network frontier.left frontier.names frontier.rises
  pub groups_are : IsGroupIndex network.nodes frontier.groups
  pub table_by : IsTableBy m delta (taken network.nodes order) frontier.places frontier.table
  pub below : All (λ entry. entry.1 < m) frontier.table
  pub count_is : count ≡ turns network order
  pub few_turns : count ≤ length order * 274877906944

-- The last place meets that limit, and none before does.
abbrev pub IsLimitAfter : Network → List ℕ → NotGlued → Type 0
IsLimitAfter network order (Wide ends) = IsWideAt (taken network.nodes order) ends
IsLimitAfter network order Full = IsFullAt (taken network.nodes order)
IsLimitAfter network order Memory = ⊤
