-- Counts of the places below n that pass a test.
use Rattle.std.proofs.Common.{◌≡◌, ℕ, zero, suc, ◌+◌, ◌<◌, ℤ, pos, negsuc, Bool, true, false, not, cond, refl, ap₂, arith}
use Rattle.inertia_laws.specs.Matrices.{count, is_positive, is_negative, is_zero}
use Rattle.inertia_laws.specs.Inertia.{positive_count, negative_count, zero_count}

pub count_agree : (n : ℕ) (test other : ℕ → Bool) → ((i : ℕ) → i < n → test i ≡ other i) → count n test ≡ count n other
count_agree zero test other h = refl
count_agree (suc n) test other h =
    let last : n < suc n = omega arith in
    ap₂ (λ u b. u + cond b 1 0) (count_agree n test other (λ i below. h i (omega arith))) (h n last)

pub count_not : (n : ℕ) (test : ℕ → Bool) → count n (λ i. not (test i)) + count n test ≡ n
count_not zero test = refl
count_not (suc n) test =
    elim (test n) as (λ v. count n (λ i. not (test i)) + cond (not v) 1 0 + (count n test + cond v 1 0) ≡ suc n) [
      | true ↦ omega (arith, count_not n test)
      | false ↦ omega (arith, count_not n test)
    ]

pub three_counts : (n : ℕ) (d : ℕ → ℤ) → positive_count n d + negative_count n d + zero_count n d ≡ n
three_counts zero d = refl
three_counts (suc n) d =
    elim (d n) as (λ z. positive_count n d + cond (is_positive z) 1 0 + (negative_count n d + cond (is_negative z) 1 0) + (zero_count n d + cond (is_zero z) 1 0) ≡ suc n) [
      | pos k ↦ elim k as (λ k. positive_count n d + cond (is_positive (pos k)) 1 0 + (negative_count n d + cond (is_negative (pos k)) 1 0) + (zero_count n d + cond (is_zero (pos k)) 1 0) ≡ suc n) [
        | zero ↦ omega (arith, three_counts n d)
        | suc m ↦ omega (arith, three_counts n d)
      ]
      | negsuc k ↦ omega (arith, three_counts n d)
    ]
