-- By how much the number of open names rises at each node, kept from step to step, and where each name stands in the network. (This
-- project's own.)
--
--     place_key number place         the number that stands for a name or a group at the node of that place
--     IsEndsIndex nodes index        the numbers of all ends, increasing
--     IsRight nodes names each place the rise that is kept at that place is the node's, where these names are open
--     AreRises nodes left names each so it is at each place left
--     IsAfter nodes taken ends names before left next
--                                    a node left was taken, the one at that place: what is left and what is open before and after
--     Rises, IsRises                 both lists, and that they are as they should be
--     HasRises view rises            at each node left, the rise is how many names more are open with it, plus 24
use Rattle.std.specs.Prelude.{◌≡◌, ◌≢◌, ℕ, ◌+◌, ◌*◌, ◌%◌, ◌<◌, ◌≤◌, ◌==◌, true, false, List, length, slice_index}
use Rattle.std.specs.List.{All}
use Rattle.std.specs.List.Sorted.{IsNonDecreasing}
use Rattle.std.specs.Set.{is_member}
use Rattle.state_sums.specs.Networks.{Node, Network}
use Rattle.arc_pairing.specs.declared.limits.TheConstants.{MOST_NODES, MOST_POINTS}
use Rattle.frontier_laws.specs.Orders.{View, node_at, open_with}
use Rattle.frontier_laws.specs.Rises.{rise}

-- The number times 65,536, plus the place.
abbrev pub place_key : ℕ → ℕ → ℕ
place_key number place = number * MOST_NODES + place

-- The numbers of all ends, increasing.
pub record IsEndsIndex (nodes : List Node) (index : List ℕ) : Type 0 where
  pub few : length nodes ≤ MOST_NODES
  pub increasing : IsNonDecreasing index
  pub has : (place name : ℕ) → place < length nodes → is_member ◌==◌ (node_at nodes place).ends name ≡ true → is_member ◌==◌ index (place_key name place) ≡ true
  pub below : All (λ key. key % MOST_NODES < length nodes) index

abbrev pub IsRight : List Node → List ℕ → List ℕ → ℕ → Type 0
IsRight nodes names each place = slice_index each place ≡ rise names (node_at nodes place).ends

pub record AreRises (nodes : List Node) (left names each : List ℕ) : Type 0 where
  pub whole : length each ≡ length nodes
  pub right : (place : ℕ) → place < length nodes → is_member ◌==◌ left place ≡ true → IsRight nodes names each place

-- A node with these ends was taken: names that are no ends are open as before, and an end that a node still left has is open.
pub record IsAfter (nodes : List Node) (taken : ℕ) (ends names before left next : List ℕ) : Type 0 where
  pub beside : (name : ℕ) → is_member ◌==◌ ends name ≡ false → is_member ◌==◌ names name ≡ is_member ◌==◌ before name
  pub kept : (place : ℕ) → is_member ◌==◌ next place ≡ true → (is_member ◌==◌ left place ≡ true) × (place ≢ taken)
  pub shared : (place : ℕ) → is_member ◌==◌ next place ≡ true → (name : ℕ) → is_member ◌==◌ (node_at nodes place).ends name ≡ true → is_member ◌==◌ ends name ≡ true → is_member ◌==◌ names name ≡ true

-- The rises of all nodes, and the numbers of all ends.
pub record Rises : Type 0 where
  pub each : List ℕ
  pub index : List ℕ

pub record IsRises (network : Network) (left names : List ℕ) (rises : Rises) : Type 0 where
  pub are : AreRises network.nodes left names rises.each
  pub index : IsEndsIndex network.nodes rises.index

-- What a view carries of them.
pub record HasRises (view : View) (rises : List ℕ) : Type 0 where
  pub whole : length rises ≡ length view.network.nodes
  pub each : (place : ℕ) → is_member ◌==◌ view.left place ≡ true → slice_index rises place + length view.names ≡ open_with view place + MOST_POINTS
