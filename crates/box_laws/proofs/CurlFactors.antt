-- The factor of the curl of n strands beside a projector is mu_n: -A^3 for each strand, and A for each crossing of the twist that is left.
use Rattle.std.proofs.Common.{◌≡◌, ◌+◌, ◌*◌, ◌%◌, ◌^◌, ◌<◌, ℕ, ℤ, pos, negsuc, ◌*ℤ◌, neg_ℤ, sym, ap, ap₂, ◌∙◌, arith}
use Rattle.ring_identities.specs.Residues.{Congruent}
use Rattle.ring_identities.specs.Powers.{power, sign, signed_power}
use Rattle.ring_identities.proofs.Congruences.{congruent_eq, congruent_trans, congruent_sym, congruent_times}
use Rattle.ring_identities.proofs.PowerLemmas.{power-one, power-add, power-times, power-mul, power-pos, congruent_power}
use Rattle.root_quantum.specs.QuantumNumbers.{inverse_root, twist, twist_factor}
use Rattle.root_quantum.proofs.LawProofs.{twist_congruent}
use Rattle.box_laws.specs.Laws.{CurlFactorLaw}
use Rattle.piece_laws.proofs.ParameterNumbers.{to_naturals}
use Rattle.ring_identities.proofs.Integers.{times_assoc}

-- mu_1^k a^(k (k-1)) is mu_k
factors : (a : ℤ) (n : ℕ) → power (twist_factor a 1) (n + 1) *ℤ power a ((n + 1) * n) ≡ twist_factor a (n + 1)
unfolding twist_factor
factors a n =
    let k = n + 1 in
    let first : power (sign 1 *ℤ power a 3) k ≡ sign k *ℤ power a (3 * k) =
    power-times (sign 1) (power a 3) k ∙ ap₂ (λ x y. x *ℤ y) (ap (λ z. power z k) (power-one (neg_ℤ (pos 1)))) (sym (power-mul a 3 k)) in
    ap (λ z. z *ℤ power a (k * n)) first
    ∙ times_assoc (sign k) (power a (3 * k)) (power a (k * n))
    ∙ ap (λ z. sign k *ℤ z) (sym (power-add a (3 * k) (k * n)))
    ∙ ap (λ e. sign k *ℤ power a e) (let e : 3 * (n + 1) + (n + 1) * n ≡ (n + 1) * (n + 1) + 2 * (n + 1) = omega arith in e)

-- the same as residues
as_residues : (m a w v n : ℕ) → 0 < m → Congruent m (pos w) (twist_factor (pos a) 1) → Congruent m (pos v) (twist_factor (pos a) (n + 1)) →
    (w ^ (n + 1) * a ^ ((n + 1) * n)) % m ≡ v % m
as_residues m a w v n some h g =
    to_naturals (w ^ (n + 1) * a ^ ((n + 1) * n)) v some
    (congruent_trans
    (congruent_times (congruent_trans (congruent_eq (sym (power-pos w (n + 1)))) (congruent_power h (n + 1))) (congruent_eq (sym (power-pos a ((n + 1) * n)))))
    (congruent_trans (congruent_eq (factors (pos a) n)) (congruent_sym g)))

-- MU_N
pub curl_factor : CurlFactorLaw
unfolding signed_power
curl_factor p n =
    let some : 0 < p.modulus = omega (arith, p.meets.modulus.0) in
    let positive : (k : ℕ) → Congruent p.modulus (pos (twist p k (pos 1))) (twist_factor (pos p.root) k) =
    λ k. congruent_trans (twist_congruent p k (pos 1)) (congruent_eq (power-one (twist_factor (pos p.root) k))) in
    let negative : (k : ℕ) → Congruent p.modulus (pos (twist p k (negsuc 0))) (twist_factor (pos (inverse_root p)) k) =
    λ k. congruent_trans (twist_congruent p k (negsuc 0)) (congruent_eq (power-one (twist_factor (pos (inverse_root p)) k))) in
    record {
      positive = as_residues p.modulus p.root (twist p 1 (pos 1)) (twist p (n + 1) (pos 1)) n some (positive 1) (positive (n + 1));
      negative = as_residues p.modulus (inverse_root p) (twist p 1 (negsuc 0)) (twist p (n + 1) (negsuc 0)) n some (negative 1) (negative (n + 1));
    }
