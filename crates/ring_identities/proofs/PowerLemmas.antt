-- Powers: sums and products of exponents, products of bases, congruent bases; and exponents modulo an
-- exponent that gives 1. Each is an induction on the exponent whose step the normaliser proves.
--
--     power-add, power-mul, power-times, power-one, power-pos      equations of whole numbers
--     congruent_power              congruent bases have congruent powers
--     power-mod                    where x^t is 1, x^n is x to the power n modulo t
--     sign_square                  (-1)^n is its own inverse
use Rattle.std.proofs.Common.{◌≡◌, ℕ, zero, suc, ◌+◌, ◌*◌, ◌/◌, ◌%◌, ◌^◌, ℤ, pos, ◌*ℤ◌, neg_ℤ, [], ◌∷◌, refl, sym, ap, ◌∙◌, arith, zero-add}
use Rattle.std.proofs.Math.Nat.{pow-zero, pow-suc, mul_comm, zero-mul, div-add-mod}
use Rattle.ring_identities.specs.Residues.{Congruent}
use Rattle.ring_identities.specs.Powers.{power, sign}
use Rattle.ring_identities.proofs.Congruences.{congruent_refl, congruent_eq, congruent_trans, congruent_times}
use Rattle.ring_identities.proofs.Identities.{reads, by_ring}

pub power-one : (z : ℤ) → power z 1 ≡ z
unfolding power
power-one z = by_ring (z ∷ []) (search reads depth 30) (search reads depth 30) refl

pub power-add : (z : ℤ) (i j : ℕ) → power z (i + j) ≡ power z i *ℤ power z j
unfolding power
power-add z zero j = ap (λ k. power z k) (zero-add j) ∙ by_ring (power z j ∷ []) (search reads depth 30) (search reads depth 30) refl
power-add z (suc i) j =
    let next : suc i + j ≡ suc (i + j) = omega arith in
    ap (λ k. power z k) next ∙ ap (λ k. z *ℤ k) (power-add z i j) ∙ by_ring (z ∷ power z i ∷ power z j ∷ []) (search reads depth 30) (search reads depth 30) refl

pub power-times : (x y : ℤ) (n : ℕ) → power (x *ℤ y) n ≡ power x n *ℤ power y n
unfolding power
power-times x y zero = refl
power-times x y (suc n) =
    ap (λ k. x *ℤ y *ℤ k) (power-times x y n) ∙ by_ring (x ∷ y ∷ power x n ∷ power y n ∷ []) (search reads depth 30) (search reads depth 30) refl

pub power_of_one : (n : ℕ) → power (pos 1) n ≡ pos 1
unfolding power
power_of_one zero = refl
power_of_one (suc n) = ap (λ k. pos 1 *ℤ k) (power_of_one n)

-- the power with exponent i * j is a power of a power
pub power-mul : (z : ℤ) (i j : ℕ) → power z (i * j) ≡ power (power z i) j
unfolding power
power-mul z zero j = ap (λ k. power z k) (zero-mul j) ∙ sym (power_of_one j)
power-mul z (suc i) j =
    let split : power z (j + i * j) ≡ power z j *ℤ power z (i * j) = power-add z j (i * j) in
    let here : suc i * j ≡ j + i * j = omega arith in
    ap (λ k. power z k) here ∙ split ∙ ap (λ k. power z j *ℤ k) (power-mul z i j) ∙ sym (power-times z (power z i) j)

pub power-pos : (a n : ℕ) → power (pos a) n ≡ pos (a ^ n)
unfolding power
power-pos a zero = ap pos (sym (pow-zero a))
power-pos a (suc n) = ap (λ k. pos a *ℤ k) (power-pos a n) ∙ ap pos (mul_comm a (a ^ n) ∙ sym (pow-suc a n))

pub congruent_power : {m : ℕ} {x y : ℤ} → Congruent m x y → (n : ℕ) → Congruent m (power x n) (power y n)
unfolding power
congruent_power {m} h zero = congruent_refl m (pos 1)
congruent_power h (suc n) = congruent_times h (congruent_power h n)

-- where the power with exponent t is 1, the exponent counts modulo t
pub power-mod : {m : ℕ} (x : ℤ) (t n : ℕ) → Congruent m (power x t) (pos 1) → Congruent m (power x n) (power x (n % t))
power-mod {m} x t n h =
    let whole : n ≡ t * (n / t) + n % t = omega (arith, div-add-mod n t) in
    let parts : power x n ≡ power x (t * (n / t)) *ℤ power x (n % t) = ap (λ k. power x k) whole ∙ power-add x (t * (n / t)) (n % t) in
    let unity : Congruent m (power x (t * (n / t))) (pos 1) = congruent_trans (congruent_eq (power-mul x t (n / t))) (congruent_trans (congruent_power h (n / t)) (congruent_eq (power_of_one (n / t)))) in
    congruent_trans (congruent_eq parts) (congruent_trans (congruent_times unity (congruent_refl m (power x (n % t)))) (congruent_eq (by_ring (power x (n % t) ∷ []) (search reads depth 30) (search reads depth 30) refl)))

pub sign_square : (n : ℕ) → sign n *ℤ sign n ≡ pos 1
sign_square n = sym (power-times (neg_ℤ (pos 1)) (neg_ℤ (pos 1)) n) ∙ power_of_one n
