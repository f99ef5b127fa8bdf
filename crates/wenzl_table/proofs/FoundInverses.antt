-- The loop over the inverses: what holds of each index before, and of this one, holds of all up to it.
use Rattle.std.proofs.Common.{◌≡◌, ◌≢◌, ℕ, ◌+◌, ◌<◌, List, length, slice_index, slice_set, sym, subst, arith, get_or-set_other, get_or-set_same}
use Rattle.ring_identities.specs.Powers.{IsInverse}
use Rattle.root_quantum.specs.Parameters.{Parameters}
use Rattle.root_quantum.specs.QuantumNumbers.{loop_value, delta}
use Rattle.strand_algebra.specs.Projectors.{quantum_residue, AreInverses}
use Rattle.arc_gluing.proofs.OneEdge.{same_or_not}
use Rattle.wenzl_table.proofs.Steps.{delta_is}

pub up_to : (P : ℕ → Type 0) (i : ℕ) → ((k : ℕ) → 0 < k → k < i → P k) → P i → (k : ℕ) → 0 < k → k < i + 1 → P k
up_to P i before here k a b = same_or_not k i (λ e. subst P (sym e) here) (λ d. before k a (omega (arith, b, d)))

at_other : (xs : List ℕ) (i y k : ℕ) → k < i → slice_index (slice_set xs i y) k ≡ slice_index xs k
at_other xs i y k l = let d : k ≢ i = (λ e. absurd (omega (arith, e, l))) in get_or-set_other xs i k y 0 d

pub put_inverse : (p : Parameters) (xs : List ℕ) (i y : ℕ) → i < length xs → IsInverse p.modulus (delta p i) y → AreInverses p.modulus (loop_value p) (slice_index xs) i →
    AreInverses p.modulus (loop_value p) (slice_index (slice_set xs i y)) (i + 1)
put_inverse p xs i y l is before =
    let m = p.modulus in
    let P : ℕ → Type 0 = λ k. IsInverse m (quantum_residue m (loop_value p) k) (slice_index (slice_set xs i y) k) in
    up_to P i
    (λ k a b. subst (λ (z : ℕ). IsInverse m (quantum_residue m (loop_value p) k) z) (sym (at_other xs i y k b)) (before k a b))
    (subst (λ (z : ℕ). IsInverse m (quantum_residue m (loop_value p) i) z) (sym (get_or-set_same xs i y 0 l)) (subst (λ (z : ℕ). IsInverse m z y) (delta_is p i) is))

pub put_below : (m : ℕ) (xs : List ℕ) (i y : ℕ) → i < length xs → y < m → ((k : ℕ) → 0 < k → k < i → slice_index xs k < m) → (k : ℕ) → 0 < k → k < i + 1 → slice_index (slice_set xs i y) k < m
put_below m xs i y l is before =
    up_to (λ k. slice_index (slice_set xs i y) k < m) i
    (λ k a b. let e = at_other xs i y k b in let h = before k a b in omega (arith, e, h))
    (let e = get_or-set_same xs i y 0 l in omega (arith, e, is))
