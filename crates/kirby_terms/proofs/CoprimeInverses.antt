-- A number has an inverse modulo m exactly where it shares no factor with m: Euclid's algorithm writes the greatest common divisor of two
-- numbers as a sum of their multiples.
use Rattle.std.proofs.Common.{◌≡◌, ◌∙◌, ℕ, zero, suc, ◌*◌, ◌/◌, ◌%◌, ◌<◌, ℤ, pos, ◌+ℤ◌, ◌-ℤ◌, ◌*ℤ◌, [], ◌∷◌, refl, sym, ap, arith, subst}
use Rattle.std.specs.Int.{IsGcd, ◌∣◌}
use Rattle.std.proofs.Math.Nat.{div-add-mod, dvd-mod_iff, dvd-mul_right_of_dvd, eq-one_of_dvd-one}
use Rattle.std.proofs.lemmas.Nat.Gcd.{same_from_IsGcd}
use Rattle.ring_identities.specs.Residues.{residue, Congruent}
use Rattle.ring_identities.specs.Powers.{IsInverse}
use Rattle.ring_identities.proofs.Congruences.{congruent_eq, congruent_sym, congruent_trans, congruent_times, residue_below, residue_congruent}
use Rattle.ring_identities.proofs.Identities.{reads, by_ring}
use Rattle.ring_identities.proofs.Unities.{congruent_unity}
use Rattle.inertia_laws.specs.Fractions.{gcd_within, gcd}
use Rattle.inertia_laws.proofs.Values.{gcd_is}
use Rattle.strand_algebra.specs.Projectors.{inverse_of}
use Rattle.kirby_terms.specs.Laws.{OmegaInverseLaw}
use Rattle.kirby_terms.specs.Normalisations.{omega_of}
use Rattle.kirby_terms.proofs.Omegas.{same_inverse}

-- ---- a greatest common divisor as a sum of multiples
step : (n q r u v : ℤ) → (n *ℤ q +ℤ r) *ℤ v +ℤ n *ℤ (u -ℤ q *ℤ v) ≡ n *ℤ u +ℤ r *ℤ v
step n q r u v = by_ring (n ∷ q ∷ r ∷ u ∷ v ∷ []) (search reads depth 30) (search reads depth 30) refl

at_end : (a b : ℤ) → a *ℤ pos 1 +ℤ b *ℤ pos 0 ≡ a
at_end a b = by_ring (a ∷ b ∷ []) (search reads depth 30) (search reads depth 30) refl

divided : (a n : ℕ) → pos n *ℤ pos (a / n) +ℤ pos (a % n) ≡ pos a
divided a n = ap pos (div-add-mod a n)

combined : (rounds a b : ℕ) → (u : ℤ) × (v : ℤ) × (pos a *ℤ u +ℤ pos b *ℤ v ≡ pos (gcd_within rounds a b))
combined zero a b = (pos 1, pos 0, at_end (pos a) (pos b))
combined (suc rounds) a zero = (pos 1, pos 0, at_end (pos a) (pos 0))
combined (suc rounds) a (suc b) =
    let n = suc b in
    let rest = combined rounds n (a % n) in
    let u = rest.0 in
    let v = rest.1 in
    let q = pos (a / n) in
    (v, u -ℤ q *ℤ v, ap (λ x. x *ℤ v +ℤ pos n *ℤ (u -ℤ q *ℤ v)) (sym (divided a n)) ∙ step (pos n) q (pos (a % n)) u v ∙ rest.2)

-- ---- where a number shares no factor with m it has an inverse
moved_over : (x u m v : ℤ) → x *ℤ u ≡ x *ℤ u +ℤ m *ℤ v +ℤ (pos 0 -ℤ v) *ℤ m
moved_over x u m v = by_ring (x ∷ u ∷ m ∷ v ∷ []) (search reads depth 30) (search reads depth 30) refl

of_sum : (m x : ℕ) (u v : ℤ) → 1 < m → pos x *ℤ u +ℤ pos m *ℤ v ≡ pos 1 → IsInverse m x (residue m u)
of_sum m x u v many e =
    let some : 0 < m = omega (arith, many) in
    let one : Congruent m (pos x *ℤ u) (pos 1) = record { factor = pos 0 -ℤ v; is = moved_over (pos x) u (pos m) v ∙ ap (λ z. z +ℤ (pos 0 -ℤ v) *ℤ pos m) e } in
    congruent_unity many (congruent_trans (congruent_times (congruent_eq {x = pos x} refl) (congruent_sym (residue_congruent m u some))) one)

pub coprime_inverse : (m x : ℕ) → 1 < m → gcd x m ≡ 1 → IsInverse m x (inverse_of m x)
unfolding gcd
coprime_inverse m x many e =
    let sum = combined m x m in
    let y = residue m sum.0 in
    let is = of_sum m x sum.0 sum.1 many (sum.2 ∙ ap pos e) in
    subst (λ (z : ℕ). IsInverse m x z) (same_inverse m x y (residue_below m sum.0 (omega (arith, many))) is) is

-- ---- and only there
pub inverse_coprime : (m x y : ℕ) → IsInverse m x y → gcd x m ≡ 1
unfolding residue
inverse_coprime m x y is =
    let g = gcd x m in
    let both : IsGcd x m g = gcd_is x m in
    let one : g ∣ x * y % m = (dvd-mod_iff g both.1).1 (dvd-mul_right_of_dvd g both.0 y) in
    eq-one_of_dvd-one (subst (λ (n : ℕ). g ∣ n) is one)

pub gcd_one : (x m : ℕ) → IsGcd x m 1 → gcd x m ≡ 1
gcd_one x m is = same_from_IsGcd x m (gcd x m) 1 (gcd_is x m) is

pub one_gcd : (x m : ℕ) → gcd x m ≡ 1 → IsGcd x m 1
one_gcd x m e = subst (λ (g : ℕ). IsGcd x m g) e (gcd_is x m)

-- EXACTLY WHERE AN OMEGA SHARES NO FACTOR WITH M IT HAS AN INVERSE
pub omega_inverse_law : OmegaInverseLaw
omega_inverse_law p sign =
    let m = p.modulus in
    let x = omega_of p sign in
    let low = p.meets.modulus.0 in
    let many : 1 < m = omega (arith, low) in
    let found = λ (is : IsGcd x m 1). coprime_inverse m x many (gcd_one x m is) in
    record {
      exists = (λ h. one_gcd x m (inverse_coprime m x h.0 h.1), λ is. (inverse_of m x, found is));
      found = found;
    }
