-- A reduced fraction is in lowest terms.
use Rattle.std.proofs.Common.{◌≡◌, ℕ, suc, ◌*◌, ◌/◌, ◌<◌, ℤ, pos, negsuc, true, unsigned_abs, refl, sym, subst, arith}
use Rattle.std.proofs.Math.Nat.{div-mul_cancel, dvd_of_mul-dvd-mul_right, mul-dvd-mul_right, one-dvd}
use Rattle.std.specs.Int.{IsGcd, ◌∣◌}
use Rattle.inertia_laws.specs.Matrices.{is_positive}
use Rattle.inertia_laws.specs.Fractions.{Fraction, AreEqual, gcd, quotient, reduce}
use Rattle.inertia_laws.proofs.Values.{abs_positive, gcd_is, Means, Means-reduce, equal_by_value}
use Rattle.list_lemmas.proofs.Integers.{abs_negative, factor_positive}

divided_gcd : (a b : ℕ) → 0 < b → IsGcd (a / gcd a b) (b / gcd a b) 1
divided_gcd a b h =
    let g : ℕ = gcd a b in
    let is_gcd : IsGcd a b g = gcd_is a b in
    let left : a / g * g ≡ a = div-mul_cancel g is_gcd.0 in
    let right : b / g * g ≡ b = div-mul_cancel g is_gcd.1 in (
      one-dvd (a / g),
      one-dvd (b / g),
      λ d p q. dvd_of_mul-dvd-mul_right d (factor_positive (b / g) g b right h)
          (subst (λ t. d * g ∣ t) (let e : g ≡ 1 * g = omega arith in e)
          (is_gcd.2 (d * g) (subst (λ t. d * g ∣ t) left (mul-dvd-mul_right d p g)) (subst (λ t. d * g ∣ t) right (mul-dvd-mul_right d q g)))),
    )

quotient_size : (z : ℤ) (g : ℕ) → unsigned_abs (quotient z g) ≡ unsigned_abs z / g
quotient_size (pos n) g = refl
quotient_size (negsuc n) g = abs_negative (suc n / g)

pub lowest_terms : (x : Fraction) → is_positive x.den ≡ true → IsGcd (unsigned_abs (reduce x).num) (unsigned_abs (reduce x).den) 1
unfolding reduce
lowest_terms x e =
    let g : ℕ = gcd (unsigned_abs x.num) (unsigned_abs x.den) in
    subst (λ u. IsGcd u (unsigned_abs (quotient x.den g)) 1) (sym (quotient_size x.num g))
    (subst (λ v. IsGcd (unsigned_abs x.num / g) v 1) (sym (quotient_size x.den g)) (divided_gcd (unsigned_abs x.num) (unsigned_abs x.den) (abs_positive x.den e)))

pub lowest_terms_law : (x : Fraction) → is_positive x.den ≡ true → IsGcd (unsigned_abs (reduce x).num) (unsigned_abs (reduce x).den) 1 × AreEqual (reduce x) x
lowest_terms_law x e =
    let self : Means x x.num x.den = record { den_positive = e; over_positive = e; is = refl } in
    (lowest_terms x e, equal_by_value (Means-reduce self) self)
