-- How a closure chooses the node that is taken next.
--
--     Answers closure f view node     node is an answer of f on the view
--     Chooses closure f               on each view with a node left f may be called, and each answer is a node that is left
use Rattle.std.specs.Prelude.{◌≡◌, ◌≢◌, ℕ, [], true, ◌==◌}
use Rattle.std.specs.Fn.{FnReturnsAt, Shared}
use Rattle.std.specs.Set.{is_member}
use denote.Ref.{Bor}
use Rattle.frontier_laws.specs.Orders.{View}
use Rattle.frontier_laws.specs.Views.{IsView}

-- The node is an answer of f on the view.
abbrev pub Answers : {F : Type 0} → Shared F (Bor View × Unit {0}) ℕ → F → View → ℕ → Type 0
Answers closure f view node = FnReturnsAt closure f view node

-- On each view with a node left f may be called, and each answer is a node that is left.
pub record Chooses {F : Type 0} (closure : Shared F (Bor View × Unit {0}) ℕ) (f : F) : Type 0 where
  pub callable : (view : Bor View) → IsView view.now → view.now.left ≢ [] → closure.pre f (view, tt)
  pub names_left : (view : View) (node : ℕ) → IsView view → view.left ≢ [] → Answers closure f view node → is_member ◌==◌ view.left node ≡ true
