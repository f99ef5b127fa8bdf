-- What the code computes of `mu_n` is its residue: the sign by the parity of n, and the power by the sign
-- of the exponent.
use Rattle.std.proofs.Common.{◌≡◌, ◌≢◌, ◌+◌, ◌*◌, ◌/◌, ◌%◌, ◌<◌, ℕ, suc, ℤ, pos, negsuc, neg_ℤ, ◌*ℤ◌, ◌≤ℤ◌, ◌<ℤ◌, nat_abs, [], ◌∷◌, refl, sym, ap, ◌∙◌, arith}
use Rattle.std.proofs.lemmas.Int.{ints}
use Rattle.ring_identities.specs.Residues.{residue}
use Rattle.ring_identities.specs.Powers.{power, sign, signed_power}
use Rattle.ring_identities.proofs.Congruences.{congruent_eq, congruent_trans, congruent_negative, from_residue, same_residue}
use Rattle.ring_identities.proofs.Identities.{reads, by_ring}
use Rattle.ring_identities.proofs.PowerLemmas.{power-add, sign_square, congruent_power}
use Rattle.root_quantum.specs.Parameters.{Parameters}
use Rattle.root_quantum.specs.QuantumNumbers.{inverse_root, twist_factor, twist}
use Rattle.root_quantum.proofs.QuantumSteps.{modulus_positive}

sign-even : (n : ℕ) → n % 2 ≡ 0 → sign n ≡ pos 1
sign-even n even =
    let halves : n ≡ n / 2 + n / 2 = omega arith in
    ap sign halves ∙ power-add (neg_ℤ (pos 1)) (n / 2) (n / 2) ∙ sign_square (n / 2)

sign-odd : (n : ℕ) → n % 2 ≢ 0 → sign n ≡ neg_ℤ (pos 1)
unfolding power
sign-odd n odd =
    let halves : n ≡ suc (n / 2 + n / 2) = omega arith in
    ap sign halves ∙ ap (λ k. neg_ℤ (pos 1) *ℤ k) (power-add (neg_ℤ (pos 1)) (n / 2) (n / 2) ∙ sign_square (n / 2))

pub factor_even : (m a n value : ℕ) → n % 2 ≡ 0 → value ≡ residue m (power (pos a) (n * n + 2 * n)) → value ≡ residue m (twist_factor (pos a) n)
unfolding twist_factor
factor_even m a n value even is =
    let whole = power (pos a) (n * n + 2 * n) in
    let signed : whole ≡ sign n *ℤ whole = by_ring (whole ∷ []) (search reads depth 30) (search reads depth 30) refl ∙ ap (λ k. k *ℤ whole) (sym (sign-even n even)) in
    is ∙ ap (residue m) signed

pub factor_odd : (m a n value negative : ℕ) → 0 < m → n % 2 ≢ 0 → value ≡ residue m (power (pos a) (n * n + 2 * n)) → negative ≡ residue m (neg_ℤ (pos value)) → negative ≡ residue m (twist_factor (pos a) n)
unfolding twist_factor
factor_odd m a n value negative positive odd value_is negative_is =
    let whole = power (pos a) (n * n + 2 * n) in
    let signed : neg_ℤ whole ≡ sign n *ℤ whole = by_ring (whole ∷ []) (search reads depth 30) (search reads depth 30) refl ∙ ap (λ k. k *ℤ whole) (sym (sign-odd n odd)) in
    negative_is ∙ same_residue positive (congruent_trans (congruent_negative (from_residue m value whole positive value_is)) (congruent_eq signed))

pub twist_inverse : (p : Parameters) (n : ℕ) (t : ℤ) (m root factor exponent value : ℕ) → m ≡ p.modulus → t <ℤ pos 0 → root ≡ inverse_root p → exponent ≡ nat_abs t
    → factor ≡ residue p.modulus (twist_factor (pos root) n)
    → value ≡ residue m (power (pos factor) exponent)
    → value ≡ twist p n t
unfolding twist signed_power
twist_inverse p n (pos t) m root factor exponent value same negative root_is exponent_is factor_is value_is = absurd (omega (arith, ints))
twist_inverse p n (negsuc t) m root factor exponent value same negative root_is exponent_is factor_is value_is =
    value_is
    ∙ ap (λ k. residue k (power (pos factor) exponent)) same
    ∙ ap (λ k. residue p.modulus (power (pos factor) k)) exponent_is
    ∙ same_residue (modulus_positive p) (congruent_power (from_residue p.modulus factor (twist_factor (pos root) n) (modulus_positive p) factor_is) (suc t))
    ∙ ap (λ k. residue p.modulus (power (twist_factor (pos k) n) (suc t))) root_is

pub twist_power : (p : Parameters) (n : ℕ) (t : ℤ) (m root factor exponent value : ℕ) → m ≡ p.modulus → pos 0 ≤ℤ t → root ≡ p.root → exponent ≡ nat_abs t
    → factor ≡ residue p.modulus (twist_factor (pos root) n)
    → value ≡ residue m (power (pos factor) exponent)
    → value ≡ twist p n t
unfolding twist signed_power
twist_power p n (negsuc t) m root factor exponent value same positive root_is exponent_is factor_is value_is = absurd (omega (arith, ints))
twist_power p n (pos t) m root factor exponent value same positive root_is exponent_is factor_is value_is =
    value_is
    ∙ ap (λ k. residue k (power (pos factor) exponent)) same
    ∙ ap (λ k. residue p.modulus (power (pos factor) k)) exponent_is
    ∙ same_residue (modulus_positive p) (congruent_power (from_residue p.modulus factor (twist_factor (pos root) n) (modulus_positive p) factor_is) t)
    ∙ ap (λ k. residue p.modulus (power (twist_factor (pos k) n) t)) root_is
