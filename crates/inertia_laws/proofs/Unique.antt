-- Two fractions in lowest terms that have one value are the same: both denominators are the greatest common divisor of one
-- pair of numbers, the products of each numerator and denominator with the other's denominator.
use Rattle.std.proofs.Common.{◌≡◌, ℕ, zero, suc, ◌*◌, ◌/◌, ◌<◌, ℤ, pos, negsuc, ◌*ℤ◌, true, unsigned_abs, refl, sym, subst, ap, ap₂, ◌∙◌, arith}
use Rattle.std.proofs.Math.Nat.{div-mul_cancel, dvd_of_mul-dvd-mul_right, mul-dvd-mul_right, one-dvd, mul_comm}
use Rattle.std.proofs.lemmas.Nat.Gcd.{dvd_antisymm}
use Rattle.std.specs.Int.{IsGcd, ◌∣◌}
use Rattle.ring_identities.proofs.Integers.{times_comm}
use Rattle.inertia_laws.specs.Matrices.{is_positive}
use Rattle.inertia_laws.specs.Fractions.{Fraction, AreEqual, gcd}
use Rattle.inertia_laws.proofs.Values.{gcd_is, cancel, not_zero, abs_positive}
use Rattle.list_lemmas.proofs.Integers.{abs_negative}

divides_multiple : (k a : ℕ) → k ∣ a * k
divides_multiple k a = subst (λ t. t ∣ a * k) (let e : 1 * k ≡ k = omega arith in e) (mul-dvd-mul_right 1 (one-dvd a) k)

scaled_gcd : (k a b : ℕ) → 0 < k → gcd a b ≡ 1 → gcd (a * k) (b * k) ≡ k
scaled_gcd k a b h e =
    let g : ℕ = gcd (a * k) (b * k) in
    let is_gcd : IsGcd (a * k) (b * k) g = gcd_is (a * k) (b * k) in
    let multiple : k ∣ g = is_gcd.2 k (divides_multiple k a) (divides_multiple k b) in
    let quotient_is : g / k * k ≡ g = div-mul_cancel k multiple in
    let left : g / k ∣ a = dvd_of_mul-dvd-mul_right (g / k) h (subst (λ t. t ∣ a * k) (sym quotient_is) is_gcd.0) in
    let right : g / k ∣ b = dvd_of_mul-dvd-mul_right (g / k) h (subst (λ t. t ∣ b * k) (sym quotient_is) is_gcd.1) in
    let one : g / k ∣ 1 = subst (λ t. g / k ∣ t) e ((gcd_is a b).2 (g / k) left right) in
    let is_one : g / k ≡ 1 = dvd_antisymm one (one-dvd (g / k)) in
    sym quotient_is ∙ ap (λ t. t * k) is_one ∙ (let same : 1 * k ≡ k = omega arith in same)

-- the size of a product with a number above 0
abs_times : (a d : ℤ) → is_positive d ≡ true → unsigned_abs (a *ℤ d) ≡ unsigned_abs a * unsigned_abs d
abs_times a (pos zero) e = cc
abs_times (pos n) (pos (suc d)) e = refl
abs_times (negsuc n) (pos (suc d)) e = abs_negative (suc n * suc d)
abs_times a (negsuc d) e = cc

abs_is : (z : ℤ) → is_positive z ≡ true → pos (unsigned_abs z) ≡ z
abs_is (pos n) e = refl
abs_is (negsuc n) e = cc

module _ (x y : Fraction) (x_positive : is_positive x.den ≡ true) (y_positive : is_positive y.den ≡ true) (x_lowest : gcd (unsigned_abs x.num) (unsigned_abs x.den) ≡ 1)
    (y_lowest : gcd (unsigned_abs y.num) (unsigned_abs y.den) ≡ 1) (e : AreEqual x y) where
  same_size : unsigned_abs x.num * unsigned_abs y.den ≡ unsigned_abs y.num * unsigned_abs x.den
  same_size = sym (abs_times x.num y.den y_positive) ∙ ap unsigned_abs e ∙ abs_times y.num x.den x_positive

  same_den : x.den ≡ y.den
  same_den =
      let first = scaled_gcd (unsigned_abs y.den) (unsigned_abs x.num) (unsigned_abs x.den) (abs_positive y.den y_positive) x_lowest in
      let second = scaled_gcd (unsigned_abs x.den) (unsigned_abs y.num) (unsigned_abs y.den) (abs_positive x.den x_positive) y_lowest in
      let sizes : unsigned_abs x.den ≡ unsigned_abs y.den = sym second ∙ ap₂ gcd (sym same_size) (mul_comm (unsigned_abs y.den) (unsigned_abs x.den)) ∙ first in
      sym (abs_is x.den x_positive) ∙ ap pos sizes ∙ abs_is y.den y_positive

  same_num : x.num ≡ y.num
  same_num = cancel y.den x.num y.num (not_zero y.den y_positive) (times_comm y.den x.num ∙ e ∙ ap (λ d. y.num *ℤ d) same_den ∙ times_comm y.num y.den)

  pub lowest_unique : x ≡ y
  lowest_unique = ap₂ {C = Fraction} (λ a b. record { num = a; den = b }) same_num same_den
