-- Pieces of a network. Each name of a closed network stands twice; of a piece, the open names stand once. In a network a piece may stand
-- at any names, and its open names may then fall together: the ends of a curl, in the diagram X[1,1,2,2], are both called 2.
--
--     IsPiece nodes open_names      each open name stands once in the nodes, and each other name of theirs twice
--     ArePaired names all           each of the names stands twice in the whole list
use Rattle.std.specs.Prelude.{◌≡◌, ℕ, ◌==◌, if◌then◌else◌, true, List}
use Rattle.std.specs.List.{AllPass}
use Rattle.std.specs.Set.{is_member}
use Rattle.list_lemmas.specs.Times.{times_in}
use Rattle.state_sums.specs.Networks.{Node, names_of}

-- The open names stand once, the inner ones twice.
pub record IsPiece (nodes : List Node) (open_names : List ℕ) : Type 0 where
  pub has_open : AllPass (is_member ◌==◌ (names_of nodes)) open_names
  pub inner : AllPass (λ x. times_in (names_of nodes) x == (if is_member ◌==◌ open_names x then 1 else 2)) (names_of nodes)

-- Each of the names stands twice in the whole list.
abbrev pub ArePaired : List ℕ → List ℕ → Type 0
ArePaired names all = (x : ℕ) → is_member ◌==◌ names x ≡ true → times_in all x ≡ 2
