-- What the calls on a ring give, step by step, are the residues of the definitions.
use Rattle.std.proofs.Common.{◌≡◌, ◌+◌, ◌*◌, ◌%◌, ◌<◌, ℕ, ℤ, pos, ◌+ℤ◌, ◌-ℤ◌, ◌*ℤ◌, neg_ℤ, [], ◌∷◌, refl, sym, ap, ◌∙◌, arith, add-one, inl, inr, mod-eq_of_lt}
use Rattle.std.proofs.Math.Nat.{add-mul-mod_self_right}
use Rattle.ring_identities.specs.Residues.{residue}
use Rattle.ring_identities.specs.Powers.{IsUnity}
use Rattle.ring_identities.proofs.Congruences.{residue_small}
use Rattle.ring_identities.proofs.LawProofs.{unity_at_multiples}
use Rattle.ring_identities.proofs.Modulo.{modulos, by_residues}
use Rattle.root_quantum.specs.Forms.{HasOrder}
use Rattle.root_quantum.specs.Parameters.{Parameters}
use Rattle.root_quantum.specs.declared.form.Form.{Form}
use Rattle.root_quantum.specs.declared.form.Form.TheVariants.{All, Even}
use Rattle.root_quantum.specs.QuantumNumbers.{inverse_root, loop_value, quantum_number, delta}

pub modulus_positive : (p : Parameters) → 0 < p.modulus
modulus_positive p = omega (arith, p.meets.modulus)

-- A^(4r) is 1 in either form: where the order is 2r, 4r is a multiple of it
unity_of : (form : Form) (m a r : ℕ) → 1 < m → HasOrder form m a r → IsUnity m a (4 * r)
unity_of All m a r many order = order.unity
unity_of Even m a r many (inl order) = order.unity
unity_of Even m a r many (inr order) =
    let twice : 4 * r ≡ 0 + 2 * (2 * r) = omega arith in
    let divides : (4 * r) % (2 * r) ≡ 0 = ap (λ k. k % (2 * r)) twice ∙ add-mul-mod_self_right 0 2 (2 * r) ∙ mod-eq_of_lt (order.positive) in
    (unity_at_multiples m a (2 * r) (4 * r) many order).1 divides

pub whole_unity : (p : Parameters) → IsUnity p.modulus p.root (4 * p.level)
whole_unity p = unity_of p.form p.modulus p.root p.level (omega (arith, p.meets.modulus)) p.meets.order

-- delta from A^2 and A^-2
pub loop_value_steps : (p : Parameters) (inverse square inverse_square sum value : ℕ)
    → inverse ≡ inverse_root p
    → square ≡ residue p.modulus (pos p.root *ℤ pos p.root)
    → inverse_square ≡ residue p.modulus (pos inverse *ℤ pos inverse)
    → sum ≡ residue p.modulus (pos square +ℤ pos inverse_square)
    → value ≡ residue p.modulus (neg_ℤ (pos sum))
    → value ≡ loop_value p
unfolding loop_value
loop_value_steps p inverse square inverse_square sum value i s t u v =
    let positive = modulus_positive p in
    v ∙ by_residues 0 (pos p.root ∷ pos inverse ∷ []) (search (modulos, positive, s, t, u) depth 30) (search modulos depth 30) positive tt refl
    ∙ ap (λ b. residue p.modulus (neg_ℤ (pos p.root *ℤ pos p.root) -ℤ pos b *ℤ pos b)) i

pub delta_none : (p : Parameters) → 1 ≡ delta p 0
unfolding delta quantum_number
delta_none p = sym (residue_small p.modulus 1 p.meets.modulus.0)

pub delta_first : (p : Parameters) (value : ℕ) → value ≡ loop_value p → value < p.modulus → value ≡ delta p 1
unfolding delta quantum_number
delta_first p value is below = sym (residue_small p.modulus value below) ∙ ap (λ k. residue p.modulus (pos k)) is

-- Delta_(n+2) = d Delta_(n+1) - Delta_n
pub quantum_next : (d : ℤ) (n : ℕ) → quantum_number d (n + 1 + 1) ≡ d *ℤ quantum_number d (n + 1) -ℤ quantum_number d n
unfolding quantum_number
quantum_next d n = simp add-one

pub delta_next : (p : Parameters) (m i value next product after : ℕ) → m ≡ p.modulus
    → value ≡ delta p i
    → next ≡ delta p (i + 1)
    → product ≡ residue m (pos (loop_value p) *ℤ pos next)
    → after ≡ residue m (pos product -ℤ pos value)
    → after ≡ delta p (i + 1 + 1)
unfolding delta
delta_next p m i value next product after same value_is next_is product_at after_at =
    let d = pos (loop_value p) in
    let positive = modulus_positive p in
    let value_at : value ≡ residue p.modulus (quantum_number d i) = value_is in
    let next_at : next ≡ residue p.modulus (quantum_number d (i + 1)) = next_is in
    let product_is : product ≡ residue p.modulus (d *ℤ pos next) = product_at ∙ ap (λ k. residue k (d *ℤ pos next)) same in
    let after_is : after ≡ residue p.modulus (pos product -ℤ pos value) = after_at ∙ ap (λ k. residue k (pos product -ℤ pos value)) same in
    after_is ∙ by_residues 0 (d ∷ quantum_number d i ∷ quantum_number d (i + 1) ∷ []) (search (modulos, positive, product_is, value_at, next_at) depth 30) (search modulos depth 30) positive tt refl ∙ ap (residue p.modulus) (sym (quantum_next d i))
