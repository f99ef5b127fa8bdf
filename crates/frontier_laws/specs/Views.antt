-- Views: what their type keeps, and choosers that one function of the view speaks for.
--
--     IsView view            each place left is one of the network's, and the names are those that stand once in the nodes not left
--     IsNext next answers    on each view with a node left, each answer is the place that `next` tells
use Rattle.std.specs.Prelude.{◌≡◌, ◌≢◌, ℕ, ◌<◌, [], length}
use Rattle.std.specs.List.{All}
use Rattle.std.specs.List.Sorted.{IsStrictlyIncreasing}
use Rattle.frontier_laws.specs.Orders.{View, left_after, taken, open_names}

pub record IsView (view : View) : Type 0 where
  pub below : All (λ place. place < length view.network.nodes) view.left
  pub increasing : IsStrictlyIncreasing view.left
  pub names_open : view.names ≡ open_names (taken view.network.nodes (left_after (length view.network.nodes) view.left))

-- On each view with a node left, each answer is the place that the function tells.
abbrev pub IsNext : (View → ℕ) → (View → ℕ → Type 0) → Type 0
IsNext next answers = (view : View) (place : ℕ) → IsView view → view.left ≢ [] → answers view place → place ≡ next view
