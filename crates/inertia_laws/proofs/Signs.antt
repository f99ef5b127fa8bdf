-- The signs of whole numbers.
use Rattle.std.proofs.Common.{◌≡◌, ℕ, zero, suc, ◌+◌, ◌*◌, ◌<◌, ◌≢◌, ℤ, pos, negsuc, ◌+ℤ◌, ◌*ℤ◌, neg_ℤ, true, false, eqb, refl, sym, ap, ◌∙◌, arith}
use Rattle.std.proofs.lemmas.Int.{ints}
use Rattle.std.proofs.lemmas.Bool.{eqb-true, eqb-false}
use Rattle.ring_identities.proofs.Integers.{times_zero}
use Rattle.inertia_laws.specs.Matrices.{total, is_positive, is_negative, is_zero}

product_suc : (n k : ℕ) → suc n * suc k ≡ suc (n * k + n + k)
product_suc n k = omega arith

pub is_zero_means : (a : ℤ) → is_zero a ≡ true → a ≡ pos 0
is_zero_means (pos zero) e = refl
is_zero_means (pos (suc n)) e = cc
is_zero_means (negsuc n) e = cc

pub positive_times : (a b : ℤ) → is_positive a ≡ true → is_positive (a *ℤ b) ≡ is_positive b
positive_times (pos zero) b e = cc
positive_times (pos (suc n)) (pos zero) e = ap is_positive (times_zero (pos (suc n)))
positive_times (pos (suc n)) (pos (suc k)) e = ap (λ v. is_positive (pos v)) (product_suc n k)
positive_times (pos (suc n)) (negsuc k) e = ap (λ v. is_positive (neg_ℤ (pos v))) (product_suc n k)
positive_times (negsuc n) b e = cc

pub positive_times_negative : (a b : ℤ) → is_positive a ≡ true → is_negative (a *ℤ b) ≡ is_negative b
positive_times_negative (pos zero) b e = cc
positive_times_negative (pos (suc n)) (pos zero) e = ap is_negative (times_zero (pos (suc n)))
positive_times_negative (pos (suc n)) (pos (suc k)) e = ap (λ v. is_negative (pos v)) (product_suc n k)
positive_times_negative (pos (suc n)) (negsuc k) e = ap (λ v. is_negative (neg_ℤ (pos v))) (product_suc n k)
positive_times_negative (negsuc n) b e = cc

pub zero_of_times : (a b : ℤ) → is_zero a ≡ false → is_zero (a *ℤ b) ≡ is_zero b
zero_of_times (pos zero) b e = cc
zero_of_times (pos (suc n)) (pos zero) e = ap is_zero (times_zero (pos (suc n)))
zero_of_times (pos (suc n)) (pos (suc k)) e = ap (λ v. is_zero (pos v)) (product_suc n k)
zero_of_times (pos (suc n)) (negsuc k) e = ap (λ v. is_zero (neg_ℤ (pos v))) (product_suc n k)
zero_of_times (negsuc n) (pos zero) e = ap is_zero (times_zero (negsuc n))
zero_of_times (negsuc n) (pos (suc k)) e = ap (λ v. is_zero (neg_ℤ (pos v))) (product_suc n k)
zero_of_times (negsuc n) (negsuc k) e = ap (λ v. is_zero (pos v)) (product_suc n k)

pub square_positive : (a : ℤ) → is_zero a ≡ false → is_positive (a *ℤ a) ≡ true
square_positive (pos zero) e = cc
square_positive (pos (suc n)) e = ap (λ v. is_positive (pos v)) (product_suc n n)
square_positive (negsuc n) e = ap (λ v. is_positive (pos v)) (product_suc n n)

pub plus_not_positive : (a b : ℤ) → is_positive a ≡ false → is_positive b ≡ false → is_positive (a +ℤ b) ≡ false
plus_not_positive (pos zero) (pos zero) e g = refl
plus_not_positive (pos zero) (negsuc k) e g = ap is_positive (let same : pos 0 +ℤ negsuc k ≡ negsuc k = omega (arith, ints) in same)
plus_not_positive (pos zero) (pos (suc k)) e g = cc
plus_not_positive (pos (suc n)) b e g = cc
plus_not_positive (negsuc n) (pos zero) e g = ap is_positive (let same : negsuc n +ℤ pos 0 ≡ negsuc n = omega (arith, ints) in same)
plus_not_positive (negsuc n) (pos (suc k)) e g = cc
plus_not_positive (negsuc n) (negsuc k) e g = refl

pub plus_not_negative : (a b : ℤ) → is_negative a ≡ false → is_negative b ≡ false → is_negative (a +ℤ b) ≡ false
plus_not_negative (pos n) (pos k) e g = refl
plus_not_negative (pos n) (negsuc k) e g = cc
plus_not_negative (negsuc n) b e g = cc

pub plus_positive_first : (a b : ℤ) → is_positive a ≡ true → is_negative b ≡ false → is_positive (a +ℤ b) ≡ true
plus_positive_first (pos zero) b e g = cc
plus_positive_first (pos (suc n)) (pos k) e g = ap (λ v. is_positive (pos v)) (let same : suc n + k ≡ suc (n + k) = omega arith in same)
plus_positive_first (pos (suc n)) (negsuc k) e g = cc
plus_positive_first (negsuc n) b e g = cc

pub plus_positive_second : (a b : ℤ) → is_negative a ≡ false → is_positive b ≡ true → is_positive (a +ℤ b) ≡ true
plus_positive_second (pos n) (pos zero) e g = cc
plus_positive_second (pos n) (pos (suc k)) e g = ap (λ v. is_positive (pos v)) (let same : n + suc k ≡ suc (n + k) = omega arith in same)
plus_positive_second (pos n) (negsuc k) e g = cc
plus_positive_second (negsuc n) b e g = cc

-- ---- sums
pub total_not_positive : (n : ℕ) (f : ℕ → ℤ) → ((i : ℕ) → i < n → is_positive (f i) ≡ false) → is_positive (total n f) ≡ false
total_not_positive zero f h = refl
total_not_positive (suc n) f h =
    let last : n < suc n = omega arith in
    plus_not_positive (total n f) (f n) (total_not_positive n f (λ i below. h i (omega arith))) (h n last)

pub total_not_negative : (n : ℕ) (f : ℕ → ℤ) → ((i : ℕ) → i < n → is_negative (f i) ≡ false) → is_negative (total n f) ≡ false
total_not_negative zero f h = refl
total_not_negative (suc n) f h =
    let last : n < suc n = omega arith in
    plus_not_negative (total n f) (f n) (total_not_negative n f (λ i below. h i (omega arith))) (h n last)

pub total_positive : (n : ℕ) (f : ℕ → ℤ) (p : ℕ) → ((i : ℕ) → i < n → is_negative (f i) ≡ false) → p < n → is_positive (f p) ≡ true → is_positive (total n f) ≡ true
total_positive zero f p h within e = absurd (omega arith)
total_positive (suc n) f p h within e =
    elim (eqb p n) as (λ v. eqb p n ≡ v → is_positive (total n f +ℤ f n) ≡ true) [
      | true ↦ λ same.
          plus_positive_second (total n f) (f n) (total_not_negative n f (λ i below. h i (omega arith))) (ap (λ k. is_positive (f k)) (sym (eqb-true p n same)) ∙ e)
      | false ↦ λ other.
          let apart : p ≢ n = eqb-false p n other in
          let last : n < suc n = omega arith in
          plus_positive_first (total n f) (f n) (total_positive n f p (λ i below. h i (omega arith)) (omega arith) e) (h n last)
    ] refl
