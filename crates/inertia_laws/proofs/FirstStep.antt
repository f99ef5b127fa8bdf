-- The first step that leaves 128 bits is the one at which a number doesn't fit after none before, and there is none where
-- each step fits.
use Rattle.std.proofs.Common.{◌≡◌, ℕ, zero, suc, pred, ◌≢◌, ℤ, ◌+◌, ◌&&◌, ◌<◌, ◌≤◌, Bool, true, false, not, Some, None, cond, eqb, refl, sym, ap, ap₂, ◌∙◌, arith}
use Rattle.std.proofs.lemmas.Bool.{eqb-true, eqb-false}
use Rattle.inertia_laws.specs.Elimination.{first_from, start, steps}
use Rattle.inertia_laws.specs.Range.{every, step_fits, first_leaving}
use Rattle.list_lemmas.proofs.Bools.{and_false}

pub first_from-some : (count i j : ℕ) (f : ℕ → Bool) → i ≤ j → j < i + count → f j ≡ true → ((a : ℕ) → i ≤ a → a < j → f a ≡ false) → first_from count i f ≡ Some j
first_from-some zero i j f low high e before = absurd (omega arith)
first_from-some (suc count) i j f low high e before =
    elim (eqb i j) as (λ v. eqb i j ≡ v → first_from (suc count) i f ≡ Some j) [
      | true ↦ λ same.
          let at : i ≡ j = eqb-true i j same in
          ap₂ (λ v a. cond v (Some a) (first_from count (suc i) f)) (ap f at ∙ e) at
      | false ↦ λ other.
          let apart : i ≢ j = eqb-false i j other in
          let self : i ≤ i = omega arith in
          ap (λ v. cond v (Some i) (first_from count (suc i) f)) (before i self (omega arith))
          ∙ first_from-some count (suc i) j f (omega arith) (omega arith) e (λ a above below. before a (omega arith) below)
    ] refl

pub first_from-none : (count i : ℕ) (f : ℕ → Bool) → ((a : ℕ) → i ≤ a → a < i + count → f a ≡ false) → first_from count i f ≡ None
first_from-none zero i f h = refl
first_from-none (suc count) i f h =
    let self : i ≤ i = omega arith in
    ap (λ v. cond v (Some i) (first_from count (suc i) f)) (h i self (omega arith))
    ∙ first_from-none count (suc i) f (λ a above below. h a (omega arith) (omega arith))

-- the test of the step before the place a
abbrev leaves : ℕ → (ℕ → ℕ → ℤ) → ℕ → Bool
leaves n l a = not (step_fits n (pred a) (steps n (pred a) (start l)))

module _ (n : ℕ) (l : ℕ → ℕ → ℤ) where
  -- the steps below k fit
  abbrev pub FitBelow : ℕ → Type 0
  FitBelow k = (j : ℕ) → j < k → step_fits n j (steps n j (start l)) ≡ true

  fits_before : (k a : ℕ) → FitBelow k → 1 ≤ a → a < suc k → leaves n l a ≡ false
  fits_before k zero h low high = absurd (omega arith)
  fits_before k (suc a) h low high = ap not (h a (omega arith))

  pub leaves_at : (k : ℕ) → k < n → FitBelow k → step_fits n k (steps n k (start l)) ≡ false → first_leaving n l ≡ Some (suc k)
  leaves_at k hk h e = first_from-some n 1 (suc k) (leaves n l) (omega arith) (omega arith) (ap not e) (λ a low high. fits_before k a h low high)

  pub leaves_nowhere : FitBelow n → first_leaving n l ≡ None
  leaves_nowhere h = first_from-none n 1 (leaves n l) (λ a low high. fits_before n a h low (omega arith))

  pub FitBelow-more : (k : ℕ) → FitBelow k → step_fits n k (steps n k (start l)) ≡ true → FitBelow (suc k)
  FitBelow-more k h e j hj =
      elim (eqb j k) as (λ v. eqb j k ≡ v → step_fits n j (steps n j (start l)) ≡ true) [
        | true ↦ λ same. ap (λ a. step_fits n a (steps n a (start l))) (eqb-true j k same) ∙ e
        | false ↦ λ other. let apart : j ≢ k = eqb-false j k other in h j (omega arith)
      ] refl

-- ---- tests of all places
pub every-false : (n c : ℕ) (test : ℕ → Bool) → c < n → test c ≡ false → every n test ≡ false
every-false zero c test h e = absurd (omega arith)
every-false (suc n) c test h e =
    elim (eqb c n) as (λ v. eqb c n ≡ v → every (suc n) test ≡ false) [
      | true ↦ λ same. ap (λ b. every n test && b) (ap test (sym (eqb-true c n same)) ∙ e) ∙ and_false (every n test)
      | false ↦ λ other. let apart : c ≢ n = eqb-false c n other in ap (λ b. b && test n) (every-false n c test (omega arith) e)
    ] refl
