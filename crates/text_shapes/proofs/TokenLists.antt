-- Calls and lists are of tokens where their parts are: so that a shape need not say so of its own.
use Rattle.std.proofs.Common.{◌≡◌, ℕ, false, codes, List, [], ◌∷◌, refl}
use Rattle.std.specs.List.{AllByRecursion}
use Rattle.text_shapes.specs.Tokens.{is_space}
use Rattle.text_shapes.specs.Shapes.{arguments, items_behind, items_inside, listed}
use Rattle.text_shapes.specs.Reach.{IsToken, AreTokens}
use Rattle.text_shapes.proofs.Elements.{All-append}

pub arguments-tokens : {A : Type 0} (tokens : A → List (List ℕ)) (fits : A → Type 0) → ((a : A) → fits a → AreTokens (tokens a)) → (mark : List ℕ) (all : List A) → IsToken mark → AllByRecursion fits all → AreTokens (arguments tokens mark all)
unfolding is_space
arguments-tokens tokens fits good mark [] m h = (refl, tt)
arguments-tokens tokens fits good mark (a ∷ rest) m h = (m, All-append IsToken (tokens a) (arguments tokens (codes ",") rest) (good a h.0) (arguments-tokens tokens fits good (codes ",") rest refl h.1))

module _ {V : Type 0} (close : ℕ) (no_space : is_space close ≡ false) (fits : V → Type 0) (item : V → List (List ℕ)) (good : (v : V) → fits v → AreTokens (item v)) where
  behind-tokens : (all : List V) → AllByRecursion fits all → AreTokens (items_behind close item all)
  unfolding is_space
  behind-tokens [] h = (no_space, tt)
  behind-tokens (v ∷ rest) h = (refl, All-append IsToken (item v) (items_behind close item rest) (good v h.0) (behind-tokens rest h.1))

  pub inside-tokens : (all : List V) → AllByRecursion fits all → AreTokens (items_inside close item all)
  inside-tokens [] h = (no_space, tt)
  inside-tokens (v ∷ rest) h = All-append IsToken (item v) (items_behind close item rest) (good v h.0) (behind-tokens rest h.1)

-- a list behind a head
pub listed-tokens : {V : Type 0} (fits : V → Type 0) (item : V → List (List ℕ)) → ((v : V) → fits v → AreTokens (item v)) → (head : List ℕ) → IsToken head → (all : List V) → AllByRecursion fits all → AreTokens (listed item head all)
unfolding is_space
listed-tokens fits item good head h all k = (h, (refl, inside-tokens 93 refl fits item good all k))
