-- The definitions at worked values, and identities of skein theory as they are proved with the normaliser:
-- docs/identities.md goes through them.
use Rattle.std.proofs.Common.{◌≡◌, ℕ, ◌*◌, ◌+◌, ◌-◌, ◌%◌, ◌<◌, ℤ, pos, negsuc, ◌+ℤ◌, ◌-ℤ◌, ◌*ℤ◌, neg_ℤ, [], ◌∷◌, Some, None, refl}
use Rattle.ring_identities.specs.Residues.{residue, Congruent}
use Rattle.ring_identities.specs.Powers.{power, signed_power, order_up_to}
use Rattle.ring_identities.proofs.Congruences.{congruent_refl, congruent_times}
use Rattle.ring_identities.proofs.Identities.{reads, by_ring}
use Rattle.ring_identities.proofs.Modulo.{modulos, by_congruences, by_consequence, by_modulo, by_residue}

minus_one : residue 41 (negsuc 0) ≡ 40
unfolding residue
minus_one = refl

a_multiple : residue 41 (negsuc 81) ≡ 0
unfolding residue
a_multiple = refl

a_power : power (negsuc 1) 5 ≡ negsuc 31
unfolding power
a_power = refl

negative_exponent : residue 41 (signed_power (pos 2) (pos 21) (negsuc 1)) ≡ 31
unfolding signed_power power residue
negative_exponent = refl

order_of_two : order_up_to 41 2 30 ≡ Some 20
unfolding order_up_to power residue
order_of_two = refl

no_order_of_six : order_up_to 41 6 20 ≡ None
unfolding order_up_to power residue
no_order_of_six = refl

-- ---- the value of a loop, where b is the inverse of a
abbrev loop_value : ℤ → ℤ → ℤ
loop_value a b = neg_ℤ (a *ℤ a) -ℤ b *ℤ b

-- an equation of whole numbers
difference_of_squares : (x y : ℤ) → (x +ℤ y) *ℤ (x -ℤ y) ≡ x *ℤ x -ℤ y *ℤ y
difference_of_squares x y = by_ring (x ∷ y ∷ []) (search reads depth 30) (search reads depth 30) refl

-- Reidemeister II: the coefficient of the cup and cap is 0
reidemeister_two : (m : ℕ) (a b : ℤ) → Congruent m (a *ℤ b) (pos 1) → Congruent m (a *ℤ a +ℤ b *ℤ b +ℤ a *ℤ b *ℤ loop_value a b) (pos 0)
reidemeister_two m a b inverse =
    by_congruences 1 (a ∷ b ∷ []) (search modulos depth 30) (search modulos depth 30) (inverse, tt) refl

-- Reidemeister III: the coefficient of the first cup and cap
reidemeister_three : (m : ℕ) (a b : ℤ) → Congruent m (a *ℤ b) (pos 1) → Congruent m (pos 2 *ℤ (a *ℤ a *ℤ b) +ℤ a *ℤ b *ℤ b *ℤ loop_value a b +ℤ b *ℤ b *ℤ b) (a *ℤ a *ℤ b)
reidemeister_three m a b inverse =
    by_congruences 1 (a ∷ b ∷ []) (search modulos depth 30) (search modulos depth 30) (inverse, tt) refl

-- the square of a projector: y and z are neighbouring Delta_n, with inverses i and j
projector_square : (m : ℕ) (y i z j : ℤ) → Congruent m (y *ℤ i) (pos 1) → Congruent m (z *ℤ j) (pos 1) → Congruent m (y *ℤ j *ℤ (y *ℤ j) *ℤ (z *ℤ i) -ℤ pos 2 *ℤ (y *ℤ j)) (neg_ℤ (y *ℤ j))
projector_square m y i z j yi zj =
    by_congruences 2 (y ∷ i ∷ z ∷ j ∷ []) (search modulos depth 30) (search modulos depth 30) (yi, (zj, tt)) refl

-- q times a congruence that is no pair of inverses
multiple_of_step : (m : ℕ) (d x y z q : ℤ) → Congruent m z (d *ℤ y -ℤ x) → Congruent m (q *ℤ z +ℤ q *ℤ x) (d *ℤ q *ℤ y)
multiple_of_step m d x y z q step =
    by_consequence 0 (d ∷ x ∷ y ∷ z ∷ q ∷ []) (search modulos depth 30) (search modulos depth 30) (search modulos depth 30) (search modulos depth 30) (congruent_times (congruent_refl m q) step) tt refl

-- remainders, as code computes them
negatives_multiply : (m x y : ℕ) → 0 < m → x < m → y < m → ((m - x) % m * ((m - y) % m)) % m ≡ (x * y) % m
negatives_multiply m x y positive x_below y_below =
    by_modulo 0 (pos x ∷ pos y ∷ []) (search modulos depth 30) (search modulos depth 30) positive tt refl

-- code on the left, the residue of a whole number on the right
loop_by_remainders : (m a b : ℕ) → 0 < m → (m - (a * a % m + b * b % m) % m) % m ≡ residue m (loop_value (pos a) (pos b))
loop_by_remainders m a b positive =
    by_residue 0 (pos a ∷ pos b ∷ []) (search modulos depth 30) (search modulos depth 30) positive tt refl
