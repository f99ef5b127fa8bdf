-- Members of lists of numbers by places, and lists with equal numbers at equal places.
use Rattle.std.proofs.Common.{◌≡◌, ℕ, zero, suc, ◌≤◌, ◌<◌, Bool, true, ◌==◌, ⊎_elim, List, [], ◌∷◌, ◌++◌, length, slice_index, refl, sym, arith}
use Rattle.std.specs.List.{All, AllPass}
use Rattle.std.specs.Set.{is_member}
use Rattle.std.proofs.lemmas.Bool.{eqb-true, or_cases}
use Rattle.std.proofs.lemmas.List.Elements.{All-cons, All-nil}

pub below_member : (bound : ℕ) (xs : List ℕ) → ((i : ℕ) → i < length xs → slice_index xs i < bound) → (x : ℕ) → is_member ◌==◌ xs x ≡ true → x < bound
below_member bound [] h x m = absurd (grind (arith, m))
below_member bound (y ∷ xs) h x m =
    ⊎_elim (λ e. let t : x ≡ y = eqb-true x y e in let k = h 0 (omega arith) in omega (arith, t, k))
    (λ n. below_member bound xs (λ i l. h (suc i) (omega arith)) x n) (or_cases (x == y) (is_member ◌==◌ xs x) m)

pub member_at : (xs : List ℕ) (x : ℕ) → is_member ◌==◌ xs x ≡ true → (i : ℕ) × (i < length xs) × (slice_index xs i ≡ x)
member_at [] x m = absurd (grind (arith, m))
member_at (y ∷ xs) x m =
    ⊎_elim (λ e. (0, omega arith, sym (eqb-true x y e)))
    (λ n. let k = member_at xs x n in (suc k.0, omega (arith, k.1), k.2)) (or_cases (x == y) (is_member ◌==◌ xs x) m)

pub all_below : (bound : ℕ) (xs : List ℕ) → ((i : ℕ) → i < length xs → slice_index xs i < bound) → All (λ place. place < bound) xs
all_below bound [] h = All-nil (λ place. place < bound)
all_below bound (x ∷ xs) h = All-cons (λ place. place < bound) x xs (h 0 (omega arith)) (all_below bound xs (λ i l. h (suc i) (omega arith)))

pub all_pass_at : (p : ℕ → Bool) (xs : List ℕ) → ((i : ℕ) → i < length xs → p (slice_index xs i) ≡ true) → AllPass p xs
all_pass_at p [] h = All-nil (λ x. p x ≡ true)
all_pass_at p (x ∷ xs) h = All-cons (λ x. p x ≡ true) x xs (h 0 (omega arith)) (all_pass_at p xs (λ i l. h (suc i) (omega arith)))

-- lists with equal numbers at equal places are one
pub same_items : (xs ys : List ℕ) → length xs ≡ length ys → ((i : ℕ) → i < length xs → slice_index xs i ≡ slice_index ys i) → xs ≡ ys
same_items [] [] e h = refl
same_items [] (y ∷ ys) e h = absurd (omega arith)
same_items (x ∷ xs) [] e h = absurd (omega arith)
same_items (x ∷ xs) (y ∷ ys) e h =
    let ih = same_items xs ys (omega arith) (λ i l. h (suc i) (omega arith)) in let a : x ≡ y = h 0 (omega arith) in cc

pub get_front : (xs ys : List ℕ) (i : ℕ) → i < length xs → slice_index (xs ++ ys) i ≡ slice_index xs i
get_front [] ys i l = absurd (omega arith)
get_front (x ∷ xs) ys zero l = refl
get_front (x ∷ xs) ys (suc i) l = get_front xs ys i (omega arith)

pub get_past : (xs : List ℕ) (i : ℕ) → length xs ≤ i → slice_index xs i ≡ 0
get_past [] i l = refl
get_past (x ∷ xs) zero l = absurd (omega arith)
get_past (x ∷ xs) (suc i) l = get_past xs i (omega arith)
