-- How often renamed names stand, and a number above all names.
--
--     bound names      a number above each of the names
use Rattle.std.proofs.Common.{◌≡◌, ◌≢◌, ℕ, ◌+◌, ◌<◌, ◌≤◌, true, cond, ◌==◌, List, [], ◌∷◌, map, refl, ap, arith, ⊎_elim}
use Rattle.std.specs.Set.{is_member}
use Rattle.std.proofs.lemmas.Bool.{or_left, or_right, eq-eqb, eqb-true, or_cases}
use Rattle.std.proofs.lemmas.Bool.Decides.{nat_tests}
use Rattle.std.proofs.lemmas.List.Sums.{sum_by-cons}
use Rattle.list_lemmas.specs.Times.{times_in}

pub times_one : (r : ℕ → ℕ) (xs : List ℕ) (u : ℕ) → times_in xs u ≤ times_in (map r xs) (r u)
times_one r [] u = omega arith
times_one r (y ∷ xs) u =
    let ih = times_one r xs u in
    let e = sum_by-cons (λ z. cond (u == z) 1 0) y xs in
    let f = sum_by-cons (λ z. cond (r u == z) 1 0) (r y) (map r xs) in
    let same = λ (t : u ≡ y). ap r t in
    grind (arith, nat_tests, ih, e, f, same)

pub times_both : (r : ℕ → ℕ) (xs : List ℕ) (u v : ℕ) → u ≢ v → r u ≡ r v → times_in xs u + times_in xs v ≤ times_in (map r xs) (r u)
times_both r [] u v d h = omega arith
times_both r (y ∷ xs) u v d h =
    let ih = times_both r xs u v d h in
    let e = sum_by-cons (λ z. cond (u == z) 1 0) y xs in
    let g = sum_by-cons (λ z. cond (v == z) 1 0) y xs in
    let f = sum_by-cons (λ z. cond (r u == z) 1 0) (r y) (map r xs) in
    let same = λ (t : u ≡ y). ap r t in
    let alike = λ (t : v ≡ y). ap r t in
    grind (arith, nat_tests, ih, e, f, g, same, alike, h, d)

pub member_mapped : (s : ℕ → ℕ) (xs : List ℕ) (x : ℕ) → is_member ◌==◌ (map s xs) x ≡ true → (u : ℕ) × (is_member ◌==◌ xs u ≡ true) × (x ≡ s u)
member_mapped s [] x m = absurd (grind (arith, m))
member_mapped s (y ∷ xs) x m =
    ⊎_elim
    (λ e. (y, or_left (y == y) (is_member ◌==◌ xs y) (eq-eqb y y refl), eqb-true x (s y) e))
    (λ n. let r = member_mapped s xs x n in (r.0, or_right (r.0 == y) (is_member ◌==◌ xs r.0) r.1, r.2))
    (or_cases (x == s y) (is_member ◌==◌ (map s xs) x) m)

-- ---- a number above all
abbrev pub bound : List ℕ → ℕ
bound [] = 1
bound (x ∷ xs) = x + bound xs

positive : (xs : List ℕ) → 1 ≤ bound xs
positive [] = omega arith
positive (x ∷ xs) = let ih = positive xs in omega (arith, ih)

pub below_bound : (x : ℕ) (xs : List ℕ) → is_member ◌==◌ xs x ≡ true → x < bound xs
below_bound x [] m = absurd (grind (arith, m))
below_bound x (y ∷ xs) m =
    ⊎_elim (λ e. let t : x ≡ y = eqb-true x y e in let p = positive xs in omega (arith, t, p)) (λ n. let ih = below_bound x xs n in omega (arith, ih)) (or_cases (x == y) (is_member ◌==◌ xs x) m)
