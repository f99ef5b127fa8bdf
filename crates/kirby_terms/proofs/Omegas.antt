-- The inverse of an Omega that is computed is the one of the definition, and an Omega has an inverse exactly where it shares no factor with m.
use Rattle.std.proofs.Common.{length, take, take_all, ◌≡◌, ℕ, zero, suc, ◌<◌, ◌≤◌, ◌==◌, pos, ◌*ℤ◌, true, false, if◌then◌else◌, refl, sym, ap, ap₂, ◌∙◌, arith}
use Rattle.std.proofs.lemmas.Bool.Decides.{nat_tests}
use Rattle.std.specs.Int.{IsGcd}
use Rattle.std.proofs.lemmas.Nat.Gcd.{same_from_IsGcd}
use Rattle.ring_identities.specs.Residues.{residue, Congruent}
use Rattle.ring_identities.specs.Powers.{power, IsInverse}
use Rattle.ring_identities.proofs.Congruences.{congruent_eq, congruent_sym, congruent_trans, congruent_times, residue_congruent, same_residue, residue_small}
use Rattle.ring_identities.proofs.Unities.{inverse_unique}
use Rattle.strand_algebra.specs.Projectors.{inverse_below, inverse_of}
use Rattle.root_quantum.specs.Parameters.{Parameters}
use Rattle.planar_check.specs.declared.sign.Sign.{Sign}
use Rattle.planar_check.specs.declared.sign.Sign.TheVariants.{Plus, Minus}
use Rattle.planar_check.specs.Tables.{sign_value}
use Rattle.planar_check.specs.Framings.{FramedDiagram}
use Rattle.root_quantum.specs.Colours.{form_colours}
use Rattle.root_quantum.specs.QuantumNumbers.{delta, twist}
use Rattle.coloured_values.specs.Surgery.{sum_over, omega_sum, omega_inverse, kirby, surgery, plus_count, minus_count}
use Rattle.kirby_terms.specs.Normalisations.{omega_of, omega_term, inverse_power, normalised, IsMissing}

-- ---- trying each residue finds the inverse
tried : (m x y limit : ℕ) → y < limit → IsInverse m x y → (IsInverse m x (inverse_below m x limit)) × (inverse_below m x limit < limit)
tried m x y zero b e = absurd (omega arith)
tried m x y (suc z) b e =
    elim (residue m (pos x *ℤ pos z) == 1)
    as (λ t. (residue m (pos x *ℤ pos z) == 1) ≡ t → (residue m (pos x *ℤ pos (if t then z else inverse_below m x z)) ≡ 1) × ((if t then z else inverse_below m x z) < suc z)) [
      | true ↦ λ t. (let is : residue m (pos x *ℤ pos z) ≡ 1 = grind (arith, nat_tests, t) in (is, omega arith))
      | false ↦ λ t. (let before = tried m x y z (not_last m x y z b e t) e in (before.0, (let l = before.1 in omega (arith, l))))
    ] refl
  where
    not_last : (m x y z : ℕ) → y < suc z → residue m (pos x *ℤ pos y) ≡ 1 → (residue m (pos x *ℤ pos z) == 1) ≡ false → y < z
    not_last m x y z b e t = let same = λ (s : y ≡ z). ap (λ k. residue m (pos x *ℤ pos k)) s in grind (arith, nat_tests, b, e, t, same)

pub same_inverse : (m x y : ℕ) → y < m → IsInverse m x y → y ≡ inverse_of m x
unfolding inverse_of
same_inverse m x y b e = let found = tried m x y m b e in inverse_unique m x y (inverse_below m x m) b found.1 e found.0

-- ---- powers of it
pub no_power : (p : Parameters) (sign : Sign) (count : ℕ) → count ≡ 0 → 1 ≡ inverse_power p sign count
unfolding power
no_power p sign count e =
    let some = p.meets.modulus.0 in
    sym (ap (λ k. residue p.modulus (power (pos (omega_inverse p (sign_value sign))) k)) e ∙ residue_small p.modulus 1 (omega (arith, some)))

pub powers_are : (p : Parameters) (sign : Sign) (count inverse result : ℕ) → inverse < p.modulus → IsInverse p.modulus (omega_of p sign) inverse →
    result ≡ residue p.modulus (power (pos inverse) count) → result ≡ inverse_power p sign count
powers_are p sign count inverse result below is power_is =
    power_is ∙ ap (λ y. residue p.modulus (power (pos y) count)) (same_inverse p.modulus (omega_of p sign) inverse below is)

pub not_counted : (p : Parameters) (sign : Sign) (count common : ℕ) → count ≡ 0 → IsMissing p sign count common → ⊥
not_counted p sign count common e missing = let h = missing.counted in absurd (omega (arith, e, h))

pub not_missing : (p : Parameters) (sign : Sign) (count common : ℕ) → IsGcd (omega_of p sign) p.modulus 1 → IsMissing p sign count common → ⊥
not_missing p sign count common coprime missing = missing.shared (same_from_IsGcd (omega_of p sign) p.modulus common 1 missing.divisor coprime)

-- ---- the value
pub value_is : (p : Parameters) (k plus minus first second product result : ℕ) → first ≡ inverse_power p Plus plus → second ≡ inverse_power p Minus minus →
    product ≡ residue p.modulus (pos k *ℤ pos first) → result ≡ residue p.modulus (pos product *ℤ pos second) → result ≡ normalised p k plus minus
value_is p k plus minus first second product result first_is second_is product_is result_is =
    let m = p.modulus in
    let low = p.meets.modulus.0 in
    let some : 0 < m = omega (arith, low) in
    let a = power (pos (omega_inverse p (sign_value Plus))) plus in
    let b = power (pos (omega_inverse p (sign_value Minus))) minus in
    let one : Congruent m (pos first) a = congruent_trans (congruent_eq (ap pos first_is)) (congruent_sym (residue_congruent m a some)) in
    let two : Congruent m (pos second) b = congruent_trans (congruent_eq (ap pos second_is)) (congruent_sym (residue_congruent m b some)) in
    let both : Congruent m (pos product) (pos k *ℤ a) =
    congruent_trans (congruent_eq (ap pos product_is)) (congruent_trans (congruent_sym (residue_congruent m (pos k *ℤ pos first) some)) (congruent_times (congruent_eq {x = pos k} refl) one)) in
    result_is ∙ same_residue some (congruent_times both two)

-- OF A KIRBY SUM IT IS THE SURGERY VALUE
pub surgery_is : (p : Parameters) (diagram : FramedDiagram) (k plus minus : ℕ) → k ≡ kirby p diagram.items diagram.framings → plus ≡ plus_count diagram → minus ≡ minus_count diagram →
    normalised p k plus minus ≡ surgery p diagram
unfolding surgery
surgery_is p diagram k plus minus k_is plus_is minus_is =
    ap (λ x. normalised p x plus minus) k_is ∙ ap₂ (λ x y. normalised p (kirby p diagram.items diagram.framings) x y) plus_is minus_is

-- ---- what a ring of modulus m computes
pub term_is : (p : Parameters) (sign : Sign) (m n d turned square result : ℕ) → m ≡ p.modulus → d ≡ delta p n → turned ≡ twist p n (sign_value sign) → square ≡ residue m (pos d *ℤ pos d) →
    result ≡ residue m (pos square *ℤ pos turned) → result ≡ residue p.modulus (omega_term p sign n)
term_is p sign m n d turned square result m_is d_is turned_is square_is result_is =
    let low = p.meets.modulus.0 in
    let some : 0 < m = omega (arith, low, m_is) in
    let both : Congruent m (pos square) (pos d *ℤ pos d) = congruent_trans (congruent_eq (ap pos square_is)) (congruent_sym (residue_congruent m (pos d *ℤ pos d) some)) in
    result_is
    ∙ same_residue some (congruent_times both (congruent_eq {x = pos turned} refl))
    ∙ ap₂ (λ x y. residue m (pos x *ℤ pos x *ℤ pos y)) d_is turned_is
    ∙ ap (λ k. residue k (omega_term p sign n)) m_is

pub omega_is : (p : Parameters) (sign : Sign) (k sum : ℕ) → length (form_colours p) ≤ k → sum ≡ residue p.modulus (sum_over (omega_term p sign) (take k (form_colours p))) → sum ≡ omega_of p sign
unfolding omega_sum
omega_is p sign k sum h e = e ∙ ap (λ xs. residue p.modulus (sum_over (omega_term p sign) xs)) (take_all k (form_colours p) h)
