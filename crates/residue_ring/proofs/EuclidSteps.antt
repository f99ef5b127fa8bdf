-- Euclid's algorithm on m and x: each remainder is a multiple of x modulo m, and the factor is kept.
--
--     zero_multiple, one_multiple      where it begins: 0 x is m, and 1 x is x
--     next_multiple                    one division
--     divisor_of_zero                  where it ends
--     inverse_of_one                   a factor that gives 1 is the inverse
use Rattle.std.proofs.Common.{◌≡◌, ◌/◌, ◌%◌, ◌<◌, ◌≤◌, ℕ, pos, ◌-ℤ◌, ◌*ℤ◌, [], ◌∷◌, refl, ap, subst, ◌∙◌, arith}
use Rattle.std.proofs.lemmas.Int.{ints}
use Rattle.std.proofs.lemmas.Nat.Gcd.{IsGcd-from_zero, IsGcd-swap}
use Rattle.std.proofs.Math.Nat.{div-add-mod'}
use Rattle.std.specs.Int.{IsGcd}
use Rattle.ring_identities.specs.Residues.{residue, Congruent}
use Rattle.ring_identities.specs.Powers.{IsInverse}
use Rattle.ring_identities.proofs.Congruences.{congruent_refl, congruent_eq, congruent_trans, congruent_plus, congruent_times, congruent_negative}
use Rattle.ring_identities.proofs.Modulo.{modulos, by_congruences}
use Rattle.ring_identities.proofs.Unities.{congruent_unity}

pub zero_multiple : (m x : ℕ) → Congruent m (pos 0 *ℤ pos x) (pos m)
zero_multiple m x = by_congruences 0 (pos x ∷ []) (search modulos depth 30) (search modulos depth 30) tt refl

pub one_multiple : (m x : ℕ) → Congruent m (pos 1 *ℤ pos x) (pos x)
one_multiple m x = by_congruences 0 (pos x ∷ []) (search modulos depth 30) (search modulos depth 30) tt refl

-- n is the modulus m by another name
pub next_multiple : (m n x divisor rest of_divisor of_rest product next : ℕ) → 0 < m → n ≡ m
    → Congruent m (pos of_divisor *ℤ pos x) (pos divisor)
    → Congruent m (pos of_rest *ℤ pos x) (pos rest)
    → product ≡ residue n (pos (divisor / rest % m) *ℤ pos of_rest)
    → next ≡ residue n (pos of_divisor -ℤ pos product)
    → Congruent m (pos next *ℤ pos x) (pos (divisor % rest))
next_multiple m n x divisor rest of_divisor of_rest product next positive same divisor_is rest_is product_at next_at =
    let product_is : product ≡ residue m (pos (divisor / rest % m) *ℤ pos of_rest) = product_at ∙ ap (λ k. residue k (pos (divisor / rest % m) *ℤ pos of_rest)) same in
    let next_is : next ≡ residue m (pos of_divisor -ℤ pos product) = next_at ∙ ap (λ k. residue k (pos of_divisor -ℤ pos product)) same in
    let quotient = pos (divisor / rest) in
    let step : Congruent m (pos next *ℤ pos x) (pos of_divisor *ℤ pos x -ℤ quotient *ℤ (pos of_rest *ℤ pos x)) = by_congruences 0 (pos of_divisor ∷ pos of_rest ∷ quotient ∷ pos x ∷ []) (search (modulos, positive, product_is, next_is) depth 30) (search modulos depth 30) tt refl in
    let division : pos divisor -ℤ quotient *ℤ pos rest ≡ pos (divisor % rest) = omega (arith, ints, div-add-mod' divisor rest) in
    congruent_trans step (congruent_trans (congruent_plus divisor_is (congruent_negative (congruent_times (congruent_refl m quotient) rest_is))) (congruent_eq division))

pub divisor_of_zero : (m n x divisor rest : ℕ) → rest ≤ 0 → m ≡ n → ((g : ℕ) → IsGcd divisor rest g → IsGcd m x g) → IsGcd x n divisor
divisor_of_zero m n x divisor rest none same all =
    let zero_rest : rest ≡ 0 = omega arith in
    rw (← same) (IsGcd-swap m x divisor (all divisor (IsGcd-from_zero divisor rest zero_rest)))

pub inverse_of_one : (m x gcd factor one : ℕ) → one ≡ 1 → one < m → gcd ≡ one → Congruent m (pos factor *ℤ pos x) (pos gcd) → IsInverse m x factor
inverse_of_one m x gcd factor one one_is many gcd_is multiple =
    let swapped : Congruent m (pos x *ℤ pos factor) (pos factor *ℤ pos x) = by_congruences 0 (pos x ∷ pos factor ∷ []) (search modulos depth 30) (search modulos depth 30) tt refl in
    congruent_unity (omega arith) (congruent_trans swapped (congruent_trans multiple (congruent_eq (ap pos (gcd_is ∙ one_is)))))

pub gcd_is_one : (x m gcd : ℕ) → gcd ≡ 1 → IsGcd x m gcd → IsGcd x m 1
gcd_is_one x m gcd one divides = let P : ℕ → Type 0 = IsGcd x m in subst P one divides
