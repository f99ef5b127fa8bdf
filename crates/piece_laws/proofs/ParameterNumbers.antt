-- The numbers of parameters are such as the moves ask for: the laws of root_quantum on whole numbers, read modulo m.
use Rattle.std.proofs.Common.{◌≡◌, ◌+◌, ◌*◌, ◌%◌, ◌<◌, ℕ, ℤ, pos, negsuc, ◌+ℤ◌, ◌-ℤ◌, ◌*ℤ◌, neg_ℤ, [], ◌∷◌, refl, ap, arith}
use Rattle.ring_identities.specs.Residues.{Congruent, residue}
use Rattle.ring_identities.specs.Powers.{power, signed_power}
use Rattle.ring_identities.proofs.Congruences.{congruent_refl, congruent_eq, congruent_trans, congruent_plus, same_residue}
use Rattle.ring_identities.proofs.Identities.{reads, by_ring}
use Rattle.root_quantum.specs.Parameters.{Parameters}
use Rattle.root_quantum.specs.QuantumNumbers.{inverse_root, loop_value, twist_factor, twist}
use Rattle.root_quantum.proofs.LawProofs.{root_times_inverse, loop_value_law, twist_one_law, twist_congruent, twist_sum_law, twist_none_law}
use Rattle.state_sums.specs.LocalSums.{AreSkeinNumbers}
use Rattle.piece_laws.specs.Laws.{SkeinNumbersLaw}
use Rattle.root_quantum.proofs.QuantumSteps.{modulus_positive}

-- congruent natural numbers have one remainder
pub to_naturals : {m : ℕ} (x y : ℕ) → 0 < m → Congruent m (pos x) (pos y) → x % m ≡ y % m
unfolding residue
to_naturals x y h c = same_residue h c

opposite_sum : (x y : ℤ) → (neg_ℤ x -ℤ y) +ℤ (x +ℤ y) ≡ pos 0
opposite_sum x y = by_ring (x ∷ y ∷ []) (search reads depth 30) (search reads depth 30) refl

no_sum : (x : ℤ) → neg_ℤ x +ℤ x ≡ pos 0
no_sum x = by_ring (x ∷ []) (search reads depth 30) (search reads depth 30) refl

numbers_of : (p : Parameters) → AreSkeinNumbers p.modulus p.root (inverse_root p) (loop_value p)
numbers_of p =
    let m = p.modulus in let a = p.root in let b = inverse_root p in let d = loop_value p in
    let split : pos (d + a * a + b * b) ≡ pos d +ℤ (pos a *ℤ pos a +ℤ pos b *ℤ pos b) = ap pos (let e : d + a * a + b * b ≡ d + (a * a + b * b) = omega arith in e) in
    let sum : Congruent m (pos d +ℤ (pos a *ℤ pos a +ℤ pos b *ℤ pos b)) ((neg_ℤ (pos a *ℤ pos a) -ℤ pos b *ℤ pos b) +ℤ (pos a *ℤ pos a +ℤ pos b *ℤ pos b)) =
    congruent_plus (loop_value_law p) (congruent_refl m (pos a *ℤ pos a +ℤ pos b *ℤ pos b)) in
    record {
      inverse = to_naturals (a * b) 1 (modulus_positive p) (root_times_inverse p);
      loop = to_naturals (d + a * a + b * b) 0 (modulus_positive p) (congruent_trans (congruent_eq split) (congruent_trans sum (congruent_eq (opposite_sum (pos a *ℤ pos a) (pos b *ℤ pos b)))));
    }

-- w is -x^3
cubed_away : (m w x : ℕ) → 0 < m → Congruent m (pos w) (neg_ℤ (pos x *ℤ pos x *ℤ pos x)) → (w + x * x * x) % m ≡ 0 % m
cubed_away m w x h c =
    to_naturals (w + x * x * x) 0 h
    (congruent_trans (congruent_plus c (congruent_refl m (pos x *ℤ pos x *ℤ pos x))) (congruent_eq (no_sum (pos x *ℤ pos x *ℤ pos x))))

positive_curl : (p : Parameters) → (twist p 1 (pos 1) + p.root * p.root * p.root) % p.modulus ≡ 0 % p.modulus
positive_curl p = cubed_away p.modulus (twist p 1 (pos 1)) p.root (modulus_positive p) (twist_one_law p)

negative_curl : (p : Parameters) → (twist p 1 (negsuc 0) + inverse_root p * inverse_root p * inverse_root p) % p.modulus ≡ 0 % p.modulus
unfolding twist_factor signed_power power
negative_curl p =
    cubed_away p.modulus (twist p 1 (negsuc 0)) (inverse_root p) (modulus_positive p)
    (congruent_trans (twist_congruent p 1 (negsuc 0)) (congruent_eq (by_ring (pos (inverse_root p) ∷ []) (search reads depth 30) (search reads depth 30) refl)))

curl_inverse : (p : Parameters) → twist p 1 (pos 1) * twist p 1 (negsuc 0) % p.modulus ≡ 1 % p.modulus
curl_inverse p =
    to_naturals (twist p 1 (pos 1) * twist p 1 (negsuc 0)) 1 (modulus_positive p)
    (congruent_trans (twist_sum_law p 1 (pos 1) (negsuc 0)) (congruent_eq (ap pos (twist_none_law p 1))))

-- THE NUMBERS OF PARAMETERS
pub skein_numbers : SkeinNumbersLaw
skein_numbers p = record { skein = numbers_of p; positive_curl = positive_curl p; negative_curl = negative_curl p; inverse_curls = curl_inverse p }
