-- The laws of specs/Laws.antt. A^-1 is A^(4r-1), and A^(4r) is 1; each of the others is an identity of
-- polynomials, or an induction whose step is one.
--
--     root_times_inverse, loop_value_law, delta_first_law, delta_next_law, delta_square_law,
--     twist_none_law, twist_one_law, twist_sum_law
--     delta_congruent              Delta_n as the polynomial in delta that it is the residue of
--     twist_congruent              mu_n to the power t as the power that it is the residue of
use Rattle.std.proofs.Common.{◌≡◌, ◌+◌, ◌-◌, ◌*◌, ◌<◌, ℕ, zero, suc, ℤ, pos, ◌+ℤ◌, ◌-ℤ◌, ◌*ℤ◌, [], ◌∷◌, refl, ap, ◌∙◌, arith}
use Rattle.ring_identities.specs.Residues.{Congruent}
use Rattle.ring_identities.specs.Powers.{power, sign, signed_power}
use Rattle.ring_identities.proofs.Congruences.{congruent_refl, congruent_eq, congruent_sym, congruent_trans, congruent_minus, congruent_times, residue_congruent, residue_below, residue_small}
use Rattle.ring_identities.proofs.Identities.{reads, by_ring}
use Rattle.ring_identities.proofs.Modulo.{modulos, by_congruences}
use Rattle.ring_identities.proofs.SignedPowers.{signed_power-plus, inverse_powers}
use Rattle.ring_identities.proofs.PowerLemmas.{sign_square}
use Rattle.ring_identities.proofs.Unities.{unity_congruent}
use Rattle.root_quantum.specs.Parameters.{Parameters}
use Rattle.root_quantum.specs.QuantumNumbers.{inverse_root, loop_value, quantum_number, delta, twist_factor, twist}
use Rattle.root_quantum.specs.Laws.{RootTimesInverse, LoopValueOfSquares, DeltaFirst, DeltaNext, DeltaSquare, TwistNone, TwistOne, TwistSum}
use Rattle.root_quantum.proofs.QuantumSteps.{modulus_positive, whole_unity}

pub root_times_inverse : RootTimesInverse
unfolding inverse_root power
root_times_inverse p =
    let whole : suc (4 * p.level - 1) ≡ 4 * p.level = omega (arith, p.meets.level.0) in
    let last = power (pos p.root) (4 * p.level - 1) in
    let unity : Congruent p.modulus (pos p.root *ℤ last) (pos 1) = congruent_trans (congruent_eq (ap (power (pos p.root)) whole)) (unity_congruent (power (pos p.root) (4 * p.level)) (modulus_positive p) (whole_unity p)) in
    congruent_trans (congruent_times (congruent_refl p.modulus (pos p.root)) (congruent_sym (residue_congruent p.modulus last (modulus_positive p)))) unity

pub loop_value_law : LoopValueOfSquares
unfolding loop_value
loop_value_law p = congruent_sym (residue_congruent p.modulus _ (modulus_positive p))

pub delta_congruent : (p : Parameters) (n : ℕ) → Congruent p.modulus (pos (delta p n)) (quantum_number (pos (loop_value p)) n)
unfolding delta
delta_congruent p n = congruent_sym (residue_congruent p.modulus (quantum_number (pos (loop_value p)) n) (modulus_positive p))

loop_value_below : (p : Parameters) → loop_value p < p.modulus
unfolding loop_value
loop_value_below p = residue_below p.modulus _ (modulus_positive p)

pub delta_first_law : DeltaFirst
unfolding delta quantum_number
delta_first_law p = (residue_small p.modulus 1 p.meets.modulus.0, residue_small p.modulus (loop_value p) (loop_value_below p))

pub delta_next_law : DeltaNext
unfolding quantum_number
delta_next_law p n =
    let d = pos (loop_value p) in
    congruent_trans (delta_congruent p (suc (suc n))) (congruent_sym (congruent_minus (congruent_times (congruent_refl p.modulus d) (delta_congruent p (suc n))) (delta_congruent p n)))

-- the difference of two neighbours' products does not depend on n
quantum_square : (d : ℤ) (n : ℕ) → quantum_number d (suc n) *ℤ quantum_number d (suc n) -ℤ quantum_number d (suc (suc n)) *ℤ quantum_number d n ≡ pos 1
unfolding quantum_number
quantum_square d zero = by_ring (d ∷ []) (search reads depth 30) (search reads depth 30) refl
quantum_square d (suc n) =
    by_ring (d ∷ quantum_number d n ∷ quantum_number d (suc n) ∷ []) (search reads depth 30) (search reads depth 30) refl ∙ quantum_square d n

pub delta_square_law : DeltaSquare
delta_square_law p n =
    let next = delta_congruent p (suc n) in
    congruent_trans (congruent_minus (congruent_times next next) (congruent_times (delta_congruent p (suc (suc n))) (delta_congruent p n))) (congruent_eq (quantum_square (pos (loop_value p)) n))

product_of_inverses : (m : ℕ) (s t a b : ℤ) → Congruent m (s *ℤ t) (pos 1) → Congruent m (a *ℤ b) (pos 1) → Congruent m (s *ℤ a *ℤ (t *ℤ b)) (pos 1)
product_of_inverses m s t a b st ab =
    by_congruences 2 (s ∷ t ∷ a ∷ b ∷ []) (search modulos depth 30) (search modulos depth 30) (st, (ab, tt)) refl

-- mu_n and its inverse
pub factors_inverse : (p : Parameters) (n : ℕ) → Congruent p.modulus (twist_factor (pos p.root) n *ℤ twist_factor (pos (inverse_root p)) n) (pos 1)
unfolding twist_factor
factors_inverse p n =
    let k = n * n + 2 * n in
    product_of_inverses p.modulus (sign n) (sign n) (power (pos p.root) k) (power (pos (inverse_root p)) k) (congruent_eq (sign_square n)) (inverse_powers p.modulus (pos p.root) (pos (inverse_root p)) (root_times_inverse p) k)

pub twist_congruent : (p : Parameters) (n : ℕ) (t : ℤ) → Congruent p.modulus (pos (twist p n t)) (signed_power (twist_factor (pos p.root) n) (twist_factor (pos (inverse_root p)) n) t)
unfolding twist
twist_congruent p n t = congruent_sym (residue_congruent p.modulus _ (modulus_positive p))

pub twist_none_law : TwistNone
unfolding twist signed_power power
twist_none_law p n = residue_small p.modulus 1 p.meets.modulus.0

pub twist_one_law : TwistOne
unfolding twist_factor signed_power power
twist_one_law p =
    congruent_trans (twist_congruent p 1 (pos 1)) (congruent_eq (by_ring (pos p.root ∷ []) (search reads depth 30) (search reads depth 30) refl))

pub twist_sum_law : TwistSum
twist_sum_law p n s t =
    congruent_trans (congruent_times (twist_congruent p n s) (twist_congruent p n t)) (congruent_trans (signed_power-plus p.modulus (twist_factor (pos p.root) n) (twist_factor (pos (inverse_root p)) n) (factors_inverse p n) s t) (congruent_sym (twist_congruent p n (s +ℤ t))))
