-- Ends of edges that are put together: they pass a test where the ends of each list do.
use Rattle.std.proofs.Common.{◌≡◌, ℕ, ◌<◌, Bool, true, ◌==◌, List, [], ◌∷◌, ◌++◌, length, slice_index, zip, refl}
use Rattle.std.specs.List.{AllPass}
use Rattle.std.specs.Set.{is_member}
use Rattle.std.proofs.lemmas.Bool.{eq-eqb}
use Rattle.std.proofs.lemmas.Cmp.{nat_eq_equiv}
use Rattle.std.proofs.lemmas.List.Elements.{All-head, All-tail}
use Rattle.std.proofs.lemmas.List.Folds.{list_any_at}
use Rattle.std.proofs.lemmas.Map.Made.{All-is_member}
use Rattle.graph_parts.specs.Ends.{EndsAre}

pub EndsAre-append : (p : ℕ → Bool) (es fs : List (ℕ × ℕ)) → EndsAre p es → EndsAre p fs → EndsAre p (es ++ fs)
EndsAre-append p [] fs h k = k
EndsAre-append p (e ∷ es) fs h k = (h.0, h.1, EndsAre-append p es fs h.2 k)

pub EndsAre-weaker : (p q : ℕ → Bool) → ((x : ℕ) → p x ≡ true → q x ≡ true) → (es : List (ℕ × ℕ)) → EndsAre p es → EndsAre q es
EndsAre-weaker p q w [] h = tt
EndsAre-weaker p q w (e ∷ es) h = (w e.0 h.0, w e.1 h.1, EndsAre-weaker p q w es h.2)

-- THE ENDS OF PAIRS ARE IN THE TWO LISTS
pub EndsAre-zip : (p : ℕ → Bool) (xs ys : List ℕ) → AllPass p xs → AllPass p ys → EndsAre p (zip xs ys)
EndsAre-zip p [] ys h k = tt
EndsAre-zip p (x ∷ xs) [] h k = tt
EndsAre-zip p (x ∷ xs) (y ∷ ys) h k = (
  All-head (λ z. p z ≡ true) x xs h,
  All-head (λ z. p z ≡ true) y ys k,
  EndsAre-zip p xs ys (All-tail (λ z. p z ≡ true) x xs h) (All-tail (λ z. p z ≡ true) y ys k),
)

pub is_member-itself : (xs : List ℕ) → AllPass (is_member ◌==◌ xs) xs
is_member-itself xs = All-is_member nat_eq_equiv xs

pub is_member-get_or : (xs : List ℕ) (i : ℕ) → i < length xs → is_member ◌==◌ xs (slice_index xs i) ≡ true
is_member-get_or xs i l = list_any_at (◌==◌ (slice_index xs i)) xs i 0 l (eq-eqb (slice_index xs i) (slice_index xs i) refl)
