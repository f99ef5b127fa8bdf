-- Differences and quotients as sums and products: with the fraction of the other sign, and with one over the fraction.
use Rattle.std.proofs.Common.{◌≡◌, ℕ, zero, suc, ◌^◌, nat_lt, ◌&&◌, ℤ, pos, negsuc, ◌+ℤ◌, ◌-ℤ◌, ◌*ℤ◌, neg_ℤ, true, false, not, cond, unsigned_abs, FitsSigned, IsTrue, ◌<ℤ◌, arith, refl, ap, ap₂, ◌∙◌}
use Rattle.std.proofs.lemmas.Int.{ints}
use Rattle.std.specs.Int.{w128}
use Rattle.std.proofs.lemmas.Nat.Gcd.{IsGcd-swap, same_from_IsGcd}
use Rattle.ring_identities.proofs.Integers.{times_negative, times_comm}
use Rattle.inertia_laws.specs.Matrices.{is_positive, is_negative, is_zero}
use Rattle.inertia_laws.specs.Fractions.{Fraction, gcd, reduce, multiply, plus, minus, times, ratio}
use Rattle.inertia_laws.specs.Range.{fits, add_fits, subtract_fits, multiply_fits, divide_fits}
use Rattle.inertia_laws.proofs.Values.{gcd_is}
use Rattle.inertia_cert.proofs.Bounds.{means_fits, positive_below}
use Rattle.inertia_cert.specs.Values.{opposite, reciprocal}

pub abs_negative : (z : ℤ) → unsigned_abs (neg_ℤ z) ≡ unsigned_abs z
abs_negative (pos zero) = refl
abs_negative (pos (suc n)) = refl
abs_negative (negsuc n) = refl

pub fits_negative : (z : ℤ) → fits (neg_ℤ z) ≡ fits z
fits_negative z = ap (λ n. nat_lt n (2 ^ 127)) (abs_negative z)

negative_times : (a b : ℤ) → neg_ℤ a *ℤ b ≡ neg_ℤ (a *ℤ b)
negative_times a b = times_comm (neg_ℤ a) b ∙ times_negative b a ∙ ap neg_ℤ (times_comm b a)

pub gcd_swap : (a b : ℕ) → gcd a b ≡ gcd b a
gcd_swap a b = same_from_IsGcd a b (gcd a b) (gcd b a) (gcd_is a b) (IsGcd-swap b a (gcd b a) (gcd_is b a))

pub add_opposite : (x y : Fraction) → plus x (opposite y) ≡ minus x y
add_opposite x y = ap (λ u. reduce record { num = x.num *ℤ y.den +ℤ u; den = x.den *ℤ y.den }) (negative_times y.num x.den)

pub add_opposite_fits : (x y : Fraction) → add_fits x (opposite y) ≡ subtract_fits x y
add_opposite_fits x y =
    ap (λ u. fits (x.num *ℤ y.den) && fits u && fits (x.num *ℤ y.den +ℤ u) && fits (x.den *ℤ y.den)) (negative_times y.num x.den)
    ∙ ap (λ b. fits (x.num *ℤ y.den) && b && fits (x.num *ℤ y.den -ℤ y.num *ℤ x.den) && fits (x.den *ℤ y.den)) (fits_negative (y.num *ℤ x.den))

pub multiply_reciprocal : (x y : Fraction) → times x (reciprocal y) ≡ ratio x y
multiply_reciprocal x y =
    elim (is_negative y.num) as (λ v. reduce (multiply x (cond v record { num = neg_ℤ y.den; den = neg_ℤ y.num } record { num = y.den; den = y.num })) ≡ reduce (cond v record { num = neg_ℤ (x.num *ℤ y.den); den = neg_ℤ (x.den *ℤ y.num) } record { num = x.num *ℤ y.den; den = x.den *ℤ y.num })) [
      | true ↦ ap₂ (λ u w. reduce record { num = u; den = w }) (times_negative x.num y.den) (times_negative x.den y.num)
      | false ↦ refl
    ]

pub multiply_reciprocal_fits : (x y : Fraction) → multiply_fits x (reciprocal y) ≡ divide_fits x y
multiply_reciprocal_fits x y =
    elim (is_negative y.num) as (λ v. multiply_fits x (cond v record { num = neg_ℤ y.den; den = neg_ℤ y.num } record { num = y.den; den = y.num }) ≡ divide_fits x y) [
      | true ↦ ap₂ (λ u w. u && w) (ap fits (times_negative x.num y.den) ∙ fits_negative (x.num *ℤ y.den)) (ap fits (times_negative x.den y.num) ∙ fits_negative (x.den *ℤ y.num))
      | false ↦ refl
    ]

pub positive_of_negative : (z : ℤ) → z <ℤ pos 0 → is_positive (neg_ℤ z) ≡ true
positive_of_negative (pos n) h = absurd (omega (arith, ints))
positive_of_negative (negsuc n) h = refl

pub positive_fits : (z : ℤ) → is_positive z ≡ true → FitsSigned w128 z → IsTrue (fits z)
positive_fits z e h = means_fits z (positive_below z e h)

pub gcd_one : (a : ℕ) → gcd a 1 ≡ 1
unfolding gcd
gcd_one a = refl

pub not_zero_test : (z : ℤ) → (z ≡ pos 0 → ⊥) → not (is_zero z) ≡ true
not_zero_test (pos zero) h = absurd (h refl)
not_zero_test (pos (suc n)) h = refl
not_zero_test (negsuc n) h = refl
