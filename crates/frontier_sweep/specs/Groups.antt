-- Where each group stands in a network, and the first nodes left of some. (This project's own.)
--
--     IsGroupIndex nodes index               for each node the number of its group and its place, increasing
--     IsFirstLeft left index low high place  of the places that the index names from low on below high it is the first one left
--     IsFirstOf view group place             it is the least place left of that group
--     IsFirstOfAll view place                of the nodes left none has a lesser group, and none before it has its group
use Rattle.std.specs.Prelude.{◌≡◌, ℕ, ◌%◌, ◌<◌, ◌≤◌, ◌==◌, true, false, List, length, slice_index}
use Rattle.std.specs.List.{All}
use Rattle.std.specs.List.Sorted.{IsNonDecreasing}
use Rattle.std.specs.Set.{is_member}
use Rattle.state_sums.specs.Networks.{Node}
use Rattle.arc_pairing.specs.declared.limits.TheConstants.{MOST_NODES}
use Rattle.frontier_laws.specs.Orders.{View, node_at}
use Rattle.frontier_sweep.specs.Rises.{place_key}

-- For each node the number of its group and its place, increasing.
pub record IsGroupIndex (nodes : List Node) (index : List ℕ) : Type 0 where
  pub few : length nodes ≤ MOST_NODES
  pub increasing : IsNonDecreasing index
  pub has : (place : ℕ) → place < length nodes → is_member ◌==◌ index (place_key (node_at nodes place).group place) ≡ true
  pub only : All (λ key. key ≡ place_key (node_at nodes (key % MOST_NODES)).group (key % MOST_NODES)) index

-- The first place left of those that the index names from low on.
pub record IsFirstLeft (left index : List ℕ) (low high place : ℕ) : Type 0 where
  pub at : ℕ
  pub from : low ≤ at
  pub to : at < high
  pub place_is : place ≡ slice_index index at % MOST_NODES
  pub left_is : is_member ◌==◌ left place ≡ true
  pub before : (k : ℕ) → low ≤ k → k < at → is_member ◌==◌ left (slice_index index k % MOST_NODES) ≡ false

abbrev pub group_at : View → ℕ → ℕ
group_at view place = (node_at view.network.nodes place).group

pub record IsFirstOf (view : View) (group place : ℕ) : Type 0 where
  pub left_is : is_member ◌==◌ view.left place ≡ true
  pub group_is : group_at view place ≡ group
  pub first : (other : ℕ) → is_member ◌==◌ view.left other ≡ true → group_at view other ≡ group → place ≤ other

pub record IsFirstOfAll (view : View) (place : ℕ) : Type 0 where
  pub left_is : is_member ◌==◌ view.left place ≡ true
  pub least : (other : ℕ) → is_member ◌==◌ view.left other ≡ true → group_at view place ≤ group_at view other
  pub first : (other : ℕ) → is_member ◌==◌ view.left other ≡ true → group_at view other ≡ group_at view place → place ≤ other
