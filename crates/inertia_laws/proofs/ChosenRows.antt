-- The rows of Q at the places that pass a test, as linear equations: what solves them is 0 at each such place of Q x.
use Rattle.std.proofs.Common.{◌≡◌, ℕ, zero, suc, ◌+◌, ◌<◌, ◌≢◌, List, [], ◌∷◌, ◌++◌, length, ℤ, pos, Bool, true, false, cond, eqb, refl, sym, ap, subst, ◌∙◌, arith}
use Rattle.std.proofs.lemmas.Bool.{eqb-true, eqb-false}
use Rattle.inertia_laws.specs.Matrices.{count, dot}
use Rattle.inertia_laws.specs.Equations.{Solves}

abbrev pub chosen : (ℕ → Bool) → (ℕ → ℕ → ℤ) → ℕ → List (ℕ → ℤ)
chosen test q zero = []
chosen test q (suc n) = cond (test n) (q n ∷ chosen test q n) (chosen test q n)

pub chosen_length : (test : ℕ → Bool) (q : ℕ → ℕ → ℤ) (n : ℕ) → length (chosen test q n) ≡ count n test
chosen_length test q zero = refl
chosen_length test q (suc n) =
    elim (test n) as (λ v. length (cond v (q n ∷ chosen test q n) (chosen test q n)) ≡ count n test + cond v 1 0) [
      | true ↦ omega (arith, chosen_length test q n)
      | false ↦ omega (arith, chosen_length test q n)
    ]

chosen_last : (m : ℕ) (x : ℕ → ℤ) (test : ℕ → Bool) (q : ℕ → ℕ → ℤ) (n : ℕ) → Solves m x (chosen test q (suc n)) → (i : ℕ) → i ≡ n → test i ≡ true → dot m (q i) x ≡ pos 0
chosen_last m x test q n h i same e =
    let there : test n ≡ true = ap test (sym same) ∙ e in
    let whole : Solves m x (q n ∷ chosen test q n) = subst (λ b. Solves m x (cond b (q n ∷ chosen test q n) (chosen test q n))) there h in
    ap (λ k. dot m (q k) x) same ∙ whole.0

chosen_rest : (m : ℕ) (x : ℕ → ℤ) (test : ℕ → Bool) (q : ℕ → ℕ → ℤ) (n : ℕ) → Solves m x (chosen test q (suc n)) → Solves m x (chosen test q n)
chosen_rest m x test q n =
    elim (test n) as (λ b. Solves m x (cond b (q n ∷ chosen test q n) (chosen test q n)) → Solves m x (chosen test q n)) [ true ↦ λ h. h.1 | false ↦ λ h. h ]

pub chosen_solves : (m : ℕ) (x : ℕ → ℤ) (test : ℕ → Bool) (q : ℕ → ℕ → ℤ) (n : ℕ) → Solves m x (chosen test q n) → (i : ℕ) → i < n → test i ≡ true → dot m (q i) x ≡ pos 0
chosen_solves m x test q zero h i below e = absurd (omega arith)
chosen_solves m x test q (suc n) h i below e =
    elim (eqb i n) as (λ v. eqb i n ≡ v → dot m (q i) x ≡ pos 0) [
      | true ↦ λ same. chosen_last m x test q n h i (eqb-true i n same) e
      | false ↦ λ other.
          let apart : i ≢ n = eqb-false i n other in
          chosen_solves m x test q n (chosen_rest m x test q n h) i (omega arith) e
    ] refl

pub solves_left : (m : ℕ) (x : ℕ → ℤ) (xs ys : List (ℕ → ℤ)) → Solves m x (xs ++ ys) → Solves m x xs
solves_left m x [] ys h = tt
solves_left m x (row ∷ xs) ys h = (h.0, solves_left m x xs ys h.1)

pub solves_right : (m : ℕ) (x : ℕ → ℤ) (xs ys : List (ℕ → ℤ)) → Solves m x (xs ++ ys) → Solves m x ys
solves_right m x [] ys h = h
solves_right m x (row ∷ xs) ys h = solves_right m x xs ys h.1
