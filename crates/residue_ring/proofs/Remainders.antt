-- What the code computes, as residues of whole numbers: each number stands below m and differs from the
-- whole number by a multiple of m.
use Rattle.std.proofs.Common.{◌≡◌, ◌+◌, ◌-◌, ◌*◌, ◌%◌, ◌<◌, ◌≤◌, pos, neg_ℤ, ◌+ℤ◌, ◌-ℤ◌, ◌*ℤ◌, [], ◌∷◌, ℕ, refl, arith}
use Rattle.ring_identities.specs.Residues.{residue}
use Rattle.ring_identities.proofs.Congruences.{residue_below}
use Rattle.ring_identities.proofs.Modulo.{modulos, by_residue, by_residue_below}

pub sum_within : (m x y : ℕ) → x + y < m → x + y ≡ residue m (pos x +ℤ pos y)
sum_within m x y h = by_residue_below 0 (pos x ∷ pos y ∷ []) (search modulos depth 30) (search modulos depth 30) (omega arith) h tt refl

pub sum_past : (m x y : ℕ) → m ≤ x + y → x + y < m + m → x + y - m ≡ residue m (pos x +ℤ pos y)
sum_past m x y h b =
    by_residue_below 0 (pos x ∷ pos y ∷ []) (search (modulos, h) depth 30) (search modulos depth 30) (omega arith) (omega arith) tt refl

pub difference_within : (m x y : ℕ) → y ≤ x → x < m → x - y ≡ residue m (pos x -ℤ pos y)
difference_within m x y h b =
    by_residue_below 0 (pos x ∷ pos y ∷ []) (search (modulos, h) depth 30) (search modulos depth 30) (omega arith) (omega arith) tt refl

pub difference_past : (m x y : ℕ) → x < y → y < m → x + m - y ≡ residue m (pos x -ℤ pos y)
difference_past m x y h b =
    by_residue_below 0 (pos x ∷ pos y ∷ []) (search (modulos, b) depth 30) (search modulos depth 30) (omega arith) (omega arith) tt refl

pub negative_of_zero : (m x : ℕ) → 0 < m → x ≡ 0 → 0 ≡ residue m (neg_ℤ (pos x))
unfolding residue
negative_of_zero m x h e = rw e (search arith)

pub negative_within : (m x : ℕ) → 0 < x → x < m → m - x ≡ residue m (neg_ℤ (pos x))
negative_within m x h b =
    by_residue_below 0 (pos x ∷ []) (search (modulos, b) depth 30) (search modulos depth 30) (omega arith) (omega arith) tt refl

pub product_remainder : (m x y : ℕ) → 0 < m → (x * y) % m ≡ residue m (pos x *ℤ pos y)
product_remainder m x y h = by_residue 0 (pos x ∷ pos y ∷ []) (search modulos depth 30) (search modulos depth 30) h tt refl

-- what the check is given at the goals of the four operations
pub ruleset remainders = (residue_below, sum_within, sum_past, difference_within, difference_past, negative_of_zero, negative_within, product_remainder)
