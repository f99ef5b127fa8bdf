-- The numbers of Wenzl's recursion: the ratios of the Delta_n, by the inverses alone, for any modulus; and what the closures
-- come to, where closing f^(n+1) gives d v - c v.
use Rattle.std.proofs.Common.{ℕ, zero, suc, ◌<◌, ℤ, pos, ◌+ℤ◌, ◌*ℤ◌, neg_ℤ, ◌-ℤ◌, [], ◌∷◌, refl, arith}
use Rattle.ring_identities.proofs.Congruences.{congruent_refl, congruent_plus, congruent_times, congruent_trans}
use Rattle.ring_identities.proofs.Modulo.{modulos, by_congruences}
use Rattle.ring_identities.specs.Residues.{Congruent}
use Rattle.root_quantum.specs.QuantumNumbers.{quantum_number}

-- Delta n / Delta (n + 1)
abbrev pub ratio : ℤ → (ℕ → ℤ) → ℕ → ℤ
ratio d inverse n = quantum_number d n *ℤ inverse (suc n)

-- Delta (n + 1) / Delta n
abbrev pub growth : ℤ → (ℕ → ℤ) → ℕ → ℤ
growth d inverse zero = d
growth d inverse (suc n) = d +ℤ neg_ℤ (ratio d inverse n)

step : (m : ℕ) (d x y i : ℤ) → Congruent m (y *ℤ i) (pos 1) → Congruent m ((d +ℤ neg_ℤ (x *ℤ i)) *ℤ y) (d *ℤ y -ℤ x)
step m d x y i h = by_congruences 1 (y ∷ i ∷ d ∷ x ∷ []) (search modulos depth 30) (search modulos depth 30) (h, tt) refl

apart : (m : ℕ) (x t i : ℤ) → Congruent m (x *ℤ i *ℤ t) (t *ℤ x *ℤ i)
apart m x t i = by_congruences 0 (x ∷ t ∷ i ∷ []) (search modulos depth 30) (search modulos depth 30) tt refl

module _ (m : ℕ) (d : ℤ) (inverse : ℕ → ℤ) (top : ℕ) (inverses : (n : ℕ) → n < top → Congruent m (quantum_number d (suc n) *ℤ inverse (suc n)) (pos 1)) where
  pub growth_times : (n : ℕ) → n < suc top → Congruent m (growth d inverse n *ℤ quantum_number d n) (quantum_number d (suc n))
  unfolding quantum_number
  growth_times zero b = by_congruences 0 (d ∷ []) (search modulos depth 30) (search modulos depth 30) tt refl
  growth_times (suc n) b = step m d (quantum_number d n) (quantum_number d (suc n)) (inverse (suc n)) (inverses n (omega arith))

  pub ratio_growth : (n : ℕ) → n < top → Congruent m (ratio d inverse n *ℤ growth d inverse n) (pos 1)
  ratio_growth n b =
      congruent_trans (apart m (quantum_number d n) (growth d inverse n) (inverse (suc n)))
      (congruent_trans (congruent_times (growth_times n (omega arith)) (congruent_refl m (inverse (suc n)))) (inverses n b))

  -- The closures, where closing f (n + 1) gives d v - c v: the square of f n is f n.
  pub closures : (v : ℕ → ℤ) → Congruent m (v zero) d → ((n : ℕ) → n < top → Congruent m (v (suc n)) (d *ℤ v n +ℤ neg_ℤ (ratio d inverse n) *ℤ v n)) →
      (n : ℕ) → n < suc top → Congruent m (v n) (quantum_number d (suc n))
  unfolding quantum_number
  closures v first next zero b = first
  closures v first next (suc n) b =
      let ih = closures v first next n (omega arith) in
      congruent_trans (next n (omega arith))
      (congruent_trans (congruent_plus (congruent_times (congruent_refl m d) ih) (congruent_times (congruent_refl m (neg_ℤ (ratio d inverse n))) ih))
      (congruent_trans (by_congruences 0 (quantum_number d (suc n) ∷ ratio d inverse n ∷ d ∷ []) (search modulos depth 30) (search modulos depth 30) tt refl)
      (step m d (quantum_number d n) (quantum_number d (suc n)) (inverse (suc n)) (inverses n (omega arith)))))
