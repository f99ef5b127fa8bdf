-- What fractions mean, over a denominator of one's choice.
use Rattle.std.proofs.Common.{◌≡◌, ℕ, zero, suc, ◌/◌, ◌%◌, ◌<◌, ◌≤◌, [], ◌∷◌, ℤ, pos, negsuc, ◌+ℤ◌, ◌-ℤ◌, ◌*ℤ◌, neg_ℤ, Bool, true, false, cond, refl, sym, ap, ap₂, subst, ◌∙◌, arith}
use Rattle.std.proofs.lemmas.Nat.Gcd.{IsGcd-from_zero, IsGcd-from_mod}
use Rattle.std.proofs.Math.Nat.{div-mul_cancel}
use Rattle.std.specs.Int.{IsGcd, ◌∣◌}
use Rattle.std.specs.Int.RustNames.{unsigned_abs}
use Rattle.std.proofs.lemmas.Bool.{true≢false}
use Rattle.ring_identities.proofs.Identities.{reads, by_ring}
use Rattle.ring_identities.proofs.Integers.{zero_times, times_comm, times_assoc, times_negative, no_difference}
use Rattle.inertia_laws.specs.Matrices.{total, is_positive, is_negative, is_zero}
use Rattle.inertia_laws.specs.Fractions.{Fraction, whole, AreEqual, add, subtract, multiply, divide, gcd_within, gcd, quotient, reduce, plus, minus, times, ratio, total_fraction}
use Rattle.inertia_laws.proofs.Totals.{rearranged}
use Rattle.inertia_laws.proofs.Signs.{is_zero_means, zero_of_times, positive_times, positive_times_negative}

opposite : (a : ℤ) → a +ℤ neg_ℤ a ≡ pos 0
opposite a = by_ring (a ∷ []) (search reads depth 30) (search reads depth 30) refl

first : (xn yn xd yd d : ℤ) → (xn *ℤ yd +ℤ yn *ℤ xd) *ℤ d ≡ xn *ℤ d *ℤ yd +ℤ yn *ℤ d *ℤ xd
first xn yn xd yd d = by_ring (xn ∷ yn ∷ xd ∷ yd ∷ d ∷ []) (search reads depth 30) (search reads depth 30) refl

second : (a b xd yd : ℤ) → a *ℤ xd *ℤ yd +ℤ b *ℤ yd *ℤ xd ≡ (a +ℤ b) *ℤ (xd *ℤ yd)
second a b xd yd = by_ring (a ∷ b ∷ xd ∷ yd ∷ []) (search reads depth 30) (search reads depth 30) refl

third : (xn yn xd yd d : ℤ) → (xn *ℤ yd -ℤ yn *ℤ xd) *ℤ d ≡ xn *ℤ d *ℤ yd -ℤ yn *ℤ d *ℤ xd
third xn yn xd yd d = by_ring (xn ∷ yn ∷ xd ∷ yd ∷ d ∷ []) (search reads depth 30) (search reads depth 30) refl

fourth : (a b xd yd : ℤ) → a *ℤ xd *ℤ yd -ℤ b *ℤ yd *ℤ xd ≡ (a -ℤ b) *ℤ (xd *ℤ yd)
fourth a b xd yd = by_ring (a ∷ b ∷ xd ∷ yd ∷ []) (search reads depth 30) (search reads depth 30) refl

four : (x y d e : ℤ) → x *ℤ y *ℤ (d *ℤ e) ≡ x *ℤ d *ℤ (y *ℤ e)
four x y d e = by_ring (x ∷ y ∷ d ∷ e ∷ []) (search reads depth 30) (search reads depth 30) refl

pub swapped : (x y z : ℤ) → x *ℤ (y *ℤ z) ≡ y *ℤ (x *ℤ z)
swapped x y z = by_ring (x ∷ y ∷ z ∷ []) (search reads depth 30) (search reads depth 30) refl

arrange : (xd yd a : ℤ) → xd *ℤ yd *ℤ a ≡ a *ℤ xd *ℤ yd
arrange xd yd a = by_ring (xd ∷ yd ∷ a ∷ []) (search reads depth 30) (search reads depth 30) refl

arrange_back : (d yn xd : ℤ) → d *ℤ (yn *ℤ xd) ≡ yn *ℤ d *ℤ xd
arrange_back d yn xd = by_ring (d ∷ yn ∷ xd ∷ []) (search reads depth 30) (search reads depth 30) refl

arrange_last : (b yd xd : ℤ) → b *ℤ yd *ℤ xd ≡ xd *ℤ yd *ℤ b
arrange_last b yd xd = by_ring (b ∷ yd ∷ xd ∷ []) (search reads depth 30) (search reads depth 30) refl

swap_last : (a x y : ℤ) → a *ℤ x *ℤ y ≡ a *ℤ y *ℤ x
swap_last a x y = by_ring (a ∷ x ∷ y ∷ []) (search reads depth 30) (search reads depth 30) refl

crossed : (d xn yd b : ℤ) → d *ℤ (xn *ℤ yd *ℤ b) ≡ xn *ℤ d *ℤ (b *ℤ yd)
crossed d xn yd b = by_ring (d ∷ xn ∷ yd ∷ b ∷ []) (search reads depth 30) (search reads depth 30) refl

crossed_back : (a xd yn d : ℤ) → a *ℤ xd *ℤ (yn *ℤ d) ≡ d *ℤ (a *ℤ (xd *ℤ yn))
crossed_back a xd yn d = by_ring (a ∷ xd ∷ yn ∷ d ∷ []) (search reads depth 30) (search reads depth 30) refl

two_negatives : (a b : ℤ) → neg_ℤ a *ℤ neg_ℤ b ≡ a *ℤ b
two_negatives a b = by_ring (a ∷ b ∷ []) (search reads depth 30) (search reads depth 30) refl

-- x is a / d
pub record Means (x : Fraction) (a d : ℤ) : Type 0 where
  pub den_positive : is_positive x.den ≡ true
  pub over_positive : is_positive d ≡ true
  pub is : x.num *ℤ d ≡ a *ℤ x.den

pub not_zero : (a : ℤ) → is_positive a ≡ true → is_zero a ≡ false
not_zero (pos zero) e = cc
not_zero (pos (suc n)) e = refl
not_zero (negsuc n) e = cc

pub abs_positive : (z : ℤ) → is_positive z ≡ true → 0 < unsigned_abs z
abs_positive (pos zero) e = cc
abs_positive (pos (suc n)) e = omega arith
abs_positive (negsuc n) e = cc

pub cancel : (c x y : ℤ) → is_zero c ≡ false → c *ℤ x ≡ c *ℤ y → x ≡ y
cancel c x y h e =
    let difference : c *ℤ (x +ℤ neg_ℤ y) ≡ pos 0 =
    by_ring (c ∷ x ∷ y ∷ []) (search reads depth 30) (search reads depth 30) refl ∙ ap (λ u. u +ℤ neg_ℤ (c *ℤ y)) e ∙ opposite (c *ℤ y) in
    no_difference x y (is_zero_means (x +ℤ neg_ℤ y) (sym (zero_of_times c (x +ℤ neg_ℤ y) h) ∙ ap is_zero difference))

pub both_positive : (a b : ℤ) → is_positive a ≡ true → is_positive b ≡ true → is_positive (a *ℤ b) ≡ true
both_positive a b h g = positive_times a b h ∙ g

pub Means-itself : (x : Fraction) → is_positive x.den ≡ true → Means x x.num x.den
Means-itself x e = record { den_positive = e; over_positive = e; is = refl }

pub Means-whole : (z : ℤ) → Means (whole z) z (pos 1)
Means-whole z = record { den_positive = refl; over_positive = refl; is = refl }

pub Means-add : {x y : Fraction} {a b d : ℤ} → Means x a d → Means y b d → Means (add x y) (a +ℤ b) d
Means-add {x} {y} {a} {b} {d} h g = record {
  den_positive = both_positive x.den y.den h.den_positive g.den_positive;
  over_positive = h.over_positive;
  is =
      first x.num y.num x.den y.den d
      ∙ ap₂ (λ u v. u *ℤ y.den +ℤ v *ℤ x.den) h.is g.is
      ∙ second a b x.den y.den;
}

pub Means-subtract : {x y : Fraction} {a b d : ℤ} → Means x a d → Means y b d → Means (subtract x y) (a -ℤ b) d
Means-subtract {x} {y} {a} {b} {d} h g = record {
  den_positive = both_positive x.den y.den h.den_positive g.den_positive;
  over_positive = h.over_positive;
  is =
      third x.num y.num x.den y.den d
      ∙ ap₂ (λ u v. u *ℤ y.den -ℤ v *ℤ x.den) h.is g.is
      ∙ fourth a b x.den y.den;
}

pub Means-multiply : {x y : Fraction} {a b d e : ℤ} → Means x a d → Means y b e → Means (multiply x y) (a *ℤ b) (d *ℤ e)
Means-multiply {x} {y} {a} {b} {d} {e} h g = record {
  den_positive = both_positive x.den y.den h.den_positive g.den_positive;
  over_positive = both_positive d e h.over_positive g.over_positive;
  is = four x.num y.num d e ∙ ap₂ (λ u v. u *ℤ v) h.is g.is ∙ four a x.den b y.den;
}

pub Means-scaled : {x : Fraction} {a d : ℤ} (c : ℤ) → is_positive c ≡ true → Means x a d → Means x (c *ℤ a) (c *ℤ d)
Means-scaled {x} {a} {d} c e h = record {
  den_positive = h.den_positive;
  over_positive = both_positive c d e h.over_positive;
  is = swapped x.num c d ∙ ap (λ u. c *ℤ u) h.is ∙ sym (times_assoc c a x.den);
}

pub Means-eq : {x : Fraction} {a b d e : ℤ} → a ≡ b → d ≡ e → Means x a d → Means x b e
Means-eq {x} {a} {b} {d} {e} p q h = subst (λ u. Means x b u) q (subst (λ u. Means x u d) p h)

-- ---- the sign of a fraction
pub zero_by_value : {x : Fraction} {a d : ℤ} → Means x a d → is_zero x.num ≡ is_zero a
zero_by_value {x} {a} {d} h =
    sym (zero_of_times d x.num (not_zero d h.over_positive))
    ∙ ap is_zero (times_comm d x.num ∙ h.is ∙ times_comm a x.den)
    ∙ zero_of_times x.den a (not_zero x.den h.den_positive)

pub positive_by_value : {x : Fraction} {a d : ℤ} → Means x a d → is_positive x.num ≡ is_positive a
positive_by_value {x} {a} {d} h =
    sym (positive_times d x.num h.over_positive)
    ∙ ap is_positive (times_comm d x.num ∙ h.is ∙ times_comm a x.den)
    ∙ positive_times x.den a h.den_positive

pub negative_by_value : {x : Fraction} {a d : ℤ} → Means x a d → is_negative x.num ≡ is_negative a
negative_by_value {x} {a} {d} h =
    sym (positive_times_negative d x.num h.over_positive)
    ∙ ap is_negative (times_comm d x.num ∙ h.is ∙ times_comm a x.den)
    ∙ positive_times_negative x.den a h.den_positive

-- equal fractions over one denominator
pub same_value : {x y : Fraction} {a b d : ℤ} → Means x a d → Means y b d → AreEqual x y → a ≡ b
same_value {x} {y} {a} {b} {d} h g e =
    cancel (x.den *ℤ y.den) a b (not_zero (x.den *ℤ y.den) (both_positive x.den y.den h.den_positive g.den_positive))
    (arrange x.den y.den a ∙ ap (λ u. u *ℤ y.den) (sym h.is) ∙ rearranged x.num d y.den ∙ ap (λ u. d *ℤ u) e ∙ arrange_back d y.num x.den ∙ ap (λ u. u *ℤ x.den) g.is ∙ arrange_last b y.den x.den)

pub equal_by_value : {x y : Fraction} {a d : ℤ} → Means x a d → Means y a d → AreEqual x y
equal_by_value {x} {y} {a} {d} h g =
    cancel d (x.num *ℤ y.den) (y.num *ℤ x.den) (not_zero d h.over_positive)
    (sym (rearranged x.num d y.den) ∙ ap (λ u. u *ℤ y.den) h.is ∙ swap_last a x.den y.den ∙ ap (λ u. u *ℤ x.den) (sym g.is) ∙ rearranged y.num d x.den)

-- ---- reduced fractions
gcd_within_is : (rounds a b : ℕ) → b ≤ rounds → IsGcd a b (gcd_within rounds a b)
gcd_within_is zero a b h = IsGcd-from_zero a b (omega arith)
gcd_within_is (suc rounds) a zero h = IsGcd-from_zero a zero refl
gcd_within_is (suc rounds) a (suc b) h = IsGcd-from_mod a (suc b) (gcd_within rounds (suc b) (a % suc b)) (gcd_within_is rounds (suc b) (a % suc b) (omega arith))

pub gcd_is : (a b : ℕ) → IsGcd a b (gcd a b)
unfolding gcd
gcd_is a b = gcd_within_is b a b (omega arith)

quotient_exact : (z : ℤ) (g : ℕ) → g ∣ unsigned_abs z → pos g *ℤ quotient z g ≡ z
quotient_exact (pos n) g h = times_comm (pos g) (pos (n / g)) ∙ ap pos (div-mul_cancel g h)
quotient_exact (negsuc n) g h = times_negative (pos g) (pos (suc n / g)) ∙ ap neg_ℤ (times_comm (pos g) (pos (suc n / g)) ∙ ap pos (div-mul_cancel g h))

positive_factors : (g : ℕ) (z w : ℤ) → pos g *ℤ z ≡ w → is_positive w ≡ true → (is_positive (pos g) ≡ true) × (is_positive z ≡ true)
positive_factors zero z w e h = absurd (true≢false (sym h ∙ ap is_positive (sym e ∙ zero_times z)))
positive_factors (suc g) z w e h = (refl, sym (positive_times (pos (suc g)) z refl) ∙ ap is_positive e ∙ h)

pub Means-reduce : {x : Fraction} {a d : ℤ} → Means x a d → Means (reduce x) a d
unfolding reduce
Means-reduce {x} {a} {d} h =
    let g : ℕ = gcd (unsigned_abs x.num) (unsigned_abs x.den) in
    let is_gcd : IsGcd (unsigned_abs x.num) (unsigned_abs x.den) g = gcd_is (unsigned_abs x.num) (unsigned_abs x.den) in
    let num_is : pos g *ℤ quotient x.num g ≡ x.num = quotient_exact x.num g is_gcd.0 in
    let den_is : pos g *ℤ quotient x.den g ≡ x.den = quotient_exact x.den g is_gcd.1 in
    let positive = positive_factors g (quotient x.den g) x.den den_is h.den_positive in
    record {
      den_positive = positive.1;
      over_positive = h.over_positive;
      is = cancel (pos g) (quotient x.num g *ℤ d) (a *ℤ quotient x.den g) (not_zero (pos g) positive.0)
          (sym (times_assoc (pos g) (quotient x.num g) d) ∙ ap (λ u. u *ℤ d) num_is ∙ h.is ∙ ap (λ u. a *ℤ u) (sym den_is) ∙ swapped a (pos g) (quotient x.den g));
    }

pub Means-plus : {x y : Fraction} {a b d : ℤ} → Means x a d → Means y b d → Means (plus x y) (a +ℤ b) d
Means-plus h g = Means-reduce (Means-add h g)

pub Means-minus : {x y : Fraction} {a b d : ℤ} → Means x a d → Means y b d → Means (minus x y) (a -ℤ b) d
Means-minus h g = Means-reduce (Means-subtract h g)

pub Means-times : {x y : Fraction} {a b d e : ℤ} → Means x a d → Means y b e → Means (times x y) (a *ℤ b) (d *ℤ e)
Means-times h g = Means-reduce (Means-multiply h g)

-- ---- quotients
abbrev pub signed : Bool → ℤ → ℤ
signed negative z = cond negative (neg_ℤ z) z

positive_of_negative : (z : ℤ) → is_positive (neg_ℤ z) ≡ is_negative z
positive_of_negative (pos zero) = refl
positive_of_negative (pos (suc n)) = refl
positive_of_negative (negsuc n) = refl

pub signed_positive : (z : ℤ) → is_zero z ≡ false → is_positive (signed (is_negative z) z) ≡ true
signed_positive (pos zero) e = cc
signed_positive (pos (suc n)) e = refl
signed_positive (negsuc n) e = refl

quotient_equation : {x y : Fraction} {a b d : ℤ} → Means x a d → Means y b d → x.num *ℤ y.den *ℤ b ≡ a *ℤ (x.den *ℤ y.num)
quotient_equation {x} {y} {a} {b} {d} h g =
    cancel d (x.num *ℤ y.den *ℤ b) (a *ℤ (x.den *ℤ y.num)) (not_zero d h.over_positive)
    (crossed d x.num y.den b ∙ ap (λ u. u *ℤ (b *ℤ y.den)) h.is ∙ ap (λ u. a *ℤ x.den *ℤ u) (sym g.is) ∙ crossed_back a x.den y.num d)

pub Means-divide : {x y : Fraction} {a b d : ℤ} → Means x a d → Means y b d → is_zero b ≡ false → Means (divide x y) (signed (is_negative b) a) (signed (is_negative b) b)
Means-divide {x} {y} {a} {b} {d} h g apart =
    elim (is_negative b) as (λ v. is_negative b ≡ v → is_positive (signed v b) ≡ true →
    Means (cond (is_negative y.num) record { num = neg_ℤ (x.num *ℤ y.den); den = neg_ℤ (x.den *ℤ y.num) } record { num = x.num *ℤ y.den; den = x.den *ℤ y.num }) (signed v a) (signed v b)) [
      | true ↦ λ e k.
          let at_num : is_negative y.num ≡ true = negative_by_value g ∙ e in
          let proved : Means record { num = neg_ℤ (x.num *ℤ y.den); den = neg_ℤ (x.den *ℤ y.num) } (neg_ℤ a) (neg_ℤ b) = record {
            den_positive = positive_of_negative (x.den *ℤ y.num) ∙ positive_times_negative x.den y.num h.den_positive ∙ at_num;
            over_positive = k;
            is = two_negatives (x.num *ℤ y.den) b ∙ quotient_equation h g ∙ sym (two_negatives a (x.den *ℤ y.num));
          } in
          subst (λ v. Means (cond v record { num = neg_ℤ (x.num *ℤ y.den); den = neg_ℤ (x.den *ℤ y.num) } record { num = x.num *ℤ y.den; den = x.den *ℤ y.num }) (neg_ℤ a) (neg_ℤ b)) (sym at_num) proved
      | false ↦ λ e k.
          let at_num : is_negative y.num ≡ false = negative_by_value g ∙ e in
          let proved : Means record { num = x.num *ℤ y.den; den = x.den *ℤ y.num } a b = record {
            den_positive = positive_times x.den y.num h.den_positive ∙ positive_by_value g ∙ k;
            over_positive = k;
            is = quotient_equation h g;
          } in
          subst (λ v. Means (cond v record { num = neg_ℤ (x.num *ℤ y.den); den = neg_ℤ (x.den *ℤ y.num) } record { num = x.num *ℤ y.den; den = x.den *ℤ y.num }) a b) (sym at_num) proved
    ] refl (signed_positive b apart)

pub Means-ratio : {x y : Fraction} {a b d : ℤ} → Means x a d → Means y b d → is_zero b ≡ false → Means (ratio x y) (signed (is_negative b) a) (signed (is_negative b) b)
Means-ratio h g apart = Means-reduce (Means-divide h g apart)

pub Means-zero : (d : ℤ) → is_positive d ≡ true → Means (whole (pos 0)) (pos 0) d
Means-zero d e = record { den_positive = refl; over_positive = e; is = zero_times d }

pub Means-total : (n : ℕ) (f : ℕ → Fraction) (a : ℕ → ℤ) (d : ℤ) → is_positive d ≡ true → ((i : ℕ) → i < n → Means (f i) (a i) d) → Means (total_fraction n f) (total n a) d
Means-total zero f a d e h = Means-zero d e
Means-total (suc n) f a d e h =
    let last : n < suc n = omega arith in
    Means-add (Means-total n f a d e (λ i below. h i (omega arith))) (h n last)
