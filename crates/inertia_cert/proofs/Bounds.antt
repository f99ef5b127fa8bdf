-- Bounds on what a fraction in lowest terms is computed from.
use Rattle.std.proofs.Common.{◌≡◌, Bool, ◌&&◌, ◌+ℤ◌, Option, SomeIff, MatchOption, ℕ, suc, ◌/◌, ◌<◌, ◌≤◌, ◌^◌, ℤ, pos, negsuc, true, false, unsigned_abs, FitsSigned, IsTrue, refl, sym, ap, ap₂, subst, ◌∙◌, arith, to_z, of_z}
use Rattle.std.proofs.lemmas.Nat.Gcd.{le_of_dvd, same_from_IsGcd}
use Rattle.std.proofs.lemmas.Int.{to_z_pos, to_z-of_z}
use Rattle.std.proofs.Math.Nat.{div-mul_cancel, div-le_self}
use Rattle.std.specs.Int.{w128}
use lib.Signed.{quot_z}
use mir.Val.{SFits}
use Rattle.inertia_laws.specs.Matrices.{is_positive}
use Rattle.inertia_laws.specs.Fractions.{Fraction, gcd, quotient, reduce}
use Rattle.inertia_laws.specs.Range.{fits}
use Rattle.std.proofs.lemmas.Bool.Decides.{nat_tests}
use Rattle.std.proofs.lemmas.Bool.{true≢false}
use Rattle.inertia_laws.proofs.Values.{gcd_is, abs_positive, Means-itself, Means-reduce}
use Rattle.inertia_laws.proofs.Terms.{lowest_terms}
use Rattle.list_lemmas.proofs.Integers.{abs_negative, factor_positive}

pub quot_is : (z : ℤ) (g : ℕ) → quot_z z (pos g) ≡ quotient z g
quot_is (pos n) g = refl
quot_is (negsuc n) g = refl

pub gcd_positive : (a b : ℕ) → 0 < b → 0 < gcd a b
gcd_positive a b h = factor_positive (b / gcd a b) (gcd a b) b (div-mul_cancel (gcd a b) (gcd_is a b).1) h

pub gcd_below : (a b : ℕ) → 0 < b → gcd a b ≤ b
gcd_below a b h = le_of_dvd h (gcd_is a b).1

pub quotient_below : (z : ℤ) (g : ℕ) → unsigned_abs (quotient z g) ≤ unsigned_abs z
quotient_below (pos n) g = div-le_self n g
quotient_below (negsuc n) g = rw abs_negative (div-le_self (suc n) g)

pub positive_below : (z : ℤ) → is_positive z ≡ true → FitsSigned w128 z → unsigned_abs z < 2 ^ 127
positive_below (pos n) e h = h.sfits
positive_below (negsuc n) e h = cc

pub fits_signed : (z : ℤ) → unsigned_abs z < 2 ^ 127 → FitsSigned w128 z
fits_signed (pos n) h = record { sfits = h }
fits_signed (negsuc n) h = record { sfits = omega arith }

fits_means : (z : ℤ) → IsTrue (fits z) → unsigned_abs z < 2 ^ 127
fits_means z h = grind (arith, nat_tests)

pub means_fits : (z : ℤ) → unsigned_abs z < 2 ^ 127 → IsTrue (fits z)
means_fits z h = grind (arith, nat_tests)

module _ (num den : ℤ) (u v g : ℕ) (range : SFits w128 num) (den_range : SFits w128 den) (u_is : u ≡ unsigned_abs (to_z w128 (of_z w128 num))) (v_is : v ≡ unsigned_abs (to_z w128 (of_z w128 den)))
    (g_made : g ≡ gcd u v) (positive : is_positive den ≡ true) (fit : IsTrue (fits num)) where
  g_is : g ≡ gcd (unsigned_abs num) (unsigned_abs den)
  g_is = g_made ∙ ap₂ gcd (u_is ∙ ap unsigned_abs (to_z-of_z w128 num range)) (v_is ∙ ap unsigned_abs (to_z-of_z w128 den den_range))

  g_positive : 0 < g
  g_positive = subst (λ t. 0 < t) (sym g_is) (gcd_positive (unsigned_abs num) (unsigned_abs den) (abs_positive den positive))

  g_small : g < 2 ^ 127
  g_small = omega (arith, g_is, gcd_below (unsigned_abs num) (unsigned_abs den) (abs_positive den positive), positive_below den positive den_range)

  pub cast_fits : FitsSigned w128 (pos g)
  cast_fits = record { sfits = g_small }

  quotient_num : quot_z (to_z w128 (of_z w128 num)) (to_z w128 g) ≡ quotient num g
  quotient_num = ap₂ quot_z (to_z-of_z w128 num range) (to_z_pos w128 g g_small) ∙ quot_is num g

  quotient_den : quot_z (to_z w128 (of_z w128 den)) (to_z w128 g) ≡ quotient den g
  quotient_den = ap₂ quot_z (to_z-of_z w128 den den_range) (to_z_pos w128 g g_small) ∙ quot_is den g

  pub num_fits : FitsSigned w128 (quot_z (to_z w128 (of_z w128 num)) (to_z w128 g))
  num_fits = subst (FitsSigned w128) (sym quotient_num) (fits_signed (quotient num g) (omega (arith, quotient_below num g, fits_means num fit)))

  pub den_fits : FitsSigned w128 (quot_z (to_z w128 (of_z w128 den)) (to_z w128 g))
  den_fits = subst (FitsSigned w128) (sym quotient_den) (fits_signed (quotient den g) (omega (arith, quotient_below den g, positive_below den positive den_range)))

  pub is_nonzero : 0 < g
  is_nonzero = g_positive

  pub is_reduced : ◌≡◌ {A = Fraction} record { num = to_z w128 (of_z w128 (quot_z (to_z w128 (of_z w128 num)) (to_z w128 g))); den = to_z w128 (of_z w128 (quot_z (to_z w128 (of_z w128 den)) (to_z w128 g))) } (reduce record { num = num; den = den })
  unfolding reduce
  is_reduced =
      ap₂ {C = Fraction} (λ a b. record { num = a; den = b })
      (to_z-of_z w128 (quot_z (to_z w128 (of_z w128 num)) (to_z w128 g)) num_fits ∙ quotient_num ∙ ap (quotient num) g_is)
      (to_z-of_z w128 (quot_z (to_z w128 (of_z w128 den)) (to_z w128 g)) den_fits ∙ quotient_den ∙ ap (quotient den) g_is)

  pub made_positive : is_positive (to_z w128 (of_z w128 (quot_z (to_z w128 (of_z w128 den)) (to_z w128 g)))) ≡ true
  made_positive =
      ap (λ x. is_positive x.den) is_reduced ∙ (Means-reduce (Means-itself record { num = num; den = den } positive)).den_positive

  pub made_lowest : gcd (unsigned_abs (to_z w128 (of_z w128 (quot_z (to_z w128 (of_z w128 num)) (to_z w128 g))))) (unsigned_abs (to_z w128 (of_z w128 (quot_z (to_z w128 (of_z w128 den)) (to_z w128 g))))) ≡ 1
  made_lowest =
      let x : Fraction = reduce record { num = num; den = den } in
      ap (λ y. gcd (unsigned_abs y.num) (unsigned_abs y.den)) is_reduced
      ∙ same_from_IsGcd (unsigned_abs x.num) (unsigned_abs x.den) (gcd (unsigned_abs x.num) (unsigned_abs x.den)) 1 (gcd_is (unsigned_abs x.num) (unsigned_abs x.den)) (lowest_terms record { num = num; den = den } positive)

  pub made_fits : IsTrue (fits (to_z w128 (of_z w128 (quot_z (to_z w128 (of_z w128 num)) (to_z w128 g)))))
  made_fits =
      let small : unsigned_abs (quotient num g) < 2 ^ 127 = omega (arith, quotient_below num g, fits_means num fit) in
      subst (λ z. IsTrue (fits z)) (sym (to_z-of_z w128 (quot_z (to_z w128 (of_z w128 num)) (to_z w128 g)) num_fits ∙ quotient_num)) (means_fits (quotient num g) small)

pub is_true_is : (b : Bool) → IsTrue b → b ≡ true
is_true_is b h = grind (arith, nat_tests)

-- the result of a sum of two products that fit
pub sum_result : (r : Option ℤ) (left right a b : ℤ) → FitsSigned w128 left → FitsSigned w128 right → left ≡ a → right ≡ b → fits a ≡ true → fits b ≡ true →
    SomeIff r (IsTrue (fits (to_z w128 (of_z w128 left) +ℤ to_z w128 (of_z w128 right)))) (to_z w128 (of_z w128 left) +ℤ to_z w128 (of_z w128 right)) →
    MatchOption r (fits a && (fits b && fits (a +ℤ b)) ≡ false) (λ z. (fits a && (fits b && fits (a +ℤ b)) ≡ true) × (z ≡ a +ℤ b))
sum_result r left right a b left_fits right_fits p q f g h =
    let whole : to_z w128 (of_z w128 left) +ℤ to_z w128 (of_z w128 right) ≡ a +ℤ b = ap₂ (λ u w. u +ℤ w) (to_z-of_z w128 left left_fits ∙ p) (to_z-of_z w128 right right_fits ∙ q) in
    let told : SomeIff r (IsTrue (fits (a +ℤ b))) (a +ℤ b) = subst (λ t. SomeIff r (IsTrue (fits t)) t) whole h in
    let both : fits a && (fits b && fits (a +ℤ b)) ≡ fits (a +ℤ b) = ap₂ (λ u w. u && (w && fits (a +ℤ b))) f g in
    rw both (grind (arith, nat_tests, told))

pub all_fit : (a b c d : Bool) → a && (b && c) ≡ true → d ≡ true → a && b && c && d ≡ true
all_fit true true true d h g = g
all_fit true true false d h g = absurd (true≢false (sym h))
all_fit true false c d h g = absurd (true≢false (sym h))
all_fit false b c d h g = absurd (true≢false (sym h))
