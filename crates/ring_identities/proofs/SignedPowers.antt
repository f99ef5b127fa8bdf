-- Powers with a sign: x to the power s times x to the power t is x to the power s + t, where x y is 1.
-- By the signs of s and t; where they differ, one x and one y cancel at a time.
--
--     signed_power-plus            the sum of exponents
--     inverse_powers               the powers of inverses are inverses
use Rattle.std.proofs.Common.{◌≡◌, ℕ, zero, suc, ◌+◌, ℤ, pos, negsuc, ◌+ℤ◌, ◌*ℤ◌, [], ◌∷◌, refl, sym, ap, ◌∙◌, arith}
use Rattle.std.proofs.lemmas.Int.{ints}
use Rattle.ring_identities.specs.Residues.{Congruent}
use Rattle.ring_identities.specs.Powers.{power, signed_power}
use Rattle.ring_identities.proofs.Congruences.{congruent_eq, congruent_trans}
use Rattle.ring_identities.proofs.Identities.{reads, by_ring}
use Rattle.ring_identities.proofs.Modulo.{modulos, by_congruences}
use Rattle.ring_identities.proofs.PowerLemmas.{power-add, power-times, power_of_one, congruent_power}

module _ (m : ℕ) (x y : ℤ) (inverse : Congruent m (x *ℤ y) (pos 1)) where
  mixed : (i j : ℕ) → Congruent m (power x i *ℤ power y (suc j)) (signed_power x y (pos i +ℤ negsuc j))
  unfolding power signed_power
  mixed zero j =
      let none : negsuc j ≡ pos zero +ℤ negsuc j = omega (arith, ints) in
      congruent_eq (by_ring (y ∷ power y j ∷ []) (search reads depth 30) (search reads depth 30) refl ∙ ap (signed_power x y) none)
  mixed (suc i) zero =
      let less : pos i ≡ pos (suc i) +ℤ negsuc zero = omega (arith, ints) in
      congruent_trans (by_congruences 1 (x ∷ y ∷ power x i ∷ []) (search modulos depth 30) (search modulos depth 30) (inverse, tt) refl) (congruent_eq (ap (signed_power x y) less))
  mixed (suc i) (suc j) =
      let less : pos i +ℤ negsuc j ≡ pos (suc i) +ℤ negsuc (suc j) = omega (arith, ints) in
      let cancelled : Congruent m (power x (suc i) *ℤ power y (suc (suc j))) (power x i *ℤ power y (suc j)) = by_congruences 1 (x ∷ y ∷ power x i ∷ power y j ∷ []) (search modulos depth 30) (search modulos depth 30) (inverse, tt) refl in
      congruent_trans cancelled (congruent_trans (mixed i j) (congruent_eq (ap (signed_power x y) less)))

  pub signed_power-plus : (s t : ℤ) → Congruent m (signed_power x y s *ℤ signed_power x y t) (signed_power x y (s +ℤ t))
  unfolding signed_power
  signed_power-plus (pos s) (pos t) = congruent_eq (sym (power-add x s t))
  signed_power-plus (pos s) (negsuc t) = mixed s t
  signed_power-plus (negsuc s) (pos t) =
      let swapped : pos t +ℤ negsuc s ≡ negsuc s +ℤ pos t = omega (arith, ints) in
      congruent_trans (congruent_eq (by_ring (power y (suc s) ∷ power x t ∷ []) (search reads depth 30) (search reads depth 30) refl)) (congruent_trans (mixed t s) (congruent_eq (ap (signed_power x y) swapped)))
  signed_power-plus (negsuc s) (negsuc t) =
      let both : suc s + suc t ≡ suc (suc (s + t)) = omega arith in
      congruent_eq (sym (power-add y (suc s) (suc t)) ∙ ap (power y) both)

  pub inverse_powers : (n : ℕ) → Congruent m (power x n *ℤ power y n) (pos 1)
  inverse_powers n =
      congruent_trans (congruent_eq (sym (power-times x y n))) (congruent_trans (congruent_power inverse n) (congruent_eq (power_of_one n)))
