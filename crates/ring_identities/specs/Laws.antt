-- Laws that say that residues, powers and orders mean what they should. (Standard.)
--
--     ResidueInRange           residues modulo m are below m
--     ResidueCongruent         z is its residue plus a multiple of m
--     SameResidues             two residues are equal exactly where the numbers are congruent
--     ResidueOfNatural         the residue of a natural number is its remainder
--     InverseUnique            a residue has one inverse
--     PowerModOrder            where x^t = 1, exponents count modulo t
--     UnityAtMultiples         where t is the order of x, x^n = 1 exactly where t divides n
--     OrderUpToLimit           the exponent found by trying each is the order, or there is none
--     SignedPowerSum           x^s x^t = x^(s+t) for whole s and t, where x has an inverse
use Rattle.std.specs.Prelude.{◌≡◌, ℕ, ◌%◌, ◌<◌, ◌↔◌, ℤ, pos, ◌+ℤ◌, ◌*ℤ◌, Option}
use Rattle.ring_identities.specs.Residues.{residue, Congruent}
use Rattle.ring_identities.specs.Powers.{power, signed_power, IsInverse, IsUnity, IsOrder, IsOrderUpTo, order_up_to}

abbrev pub ResidueInRange : Type 0
ResidueInRange = (m : ℕ) (z : ℤ) → 0 < m → residue m z < m

abbrev pub ResidueCongruent : Type 0
ResidueCongruent = (m : ℕ) (z : ℤ) → 0 < m → Congruent m z (pos (residue m z))

abbrev pub SameResidues : Type 0
SameResidues = (m : ℕ) (x y : ℤ) → 0 < m → (residue m x ≡ residue m y) ↔ Congruent m x y

abbrev pub ResidueOfNatural : Type 0
ResidueOfNatural = (m n : ℕ) → residue m (pos n) ≡ n % m

abbrev pub InverseUnique : Type 0
InverseUnique = (m x y z : ℕ) → y < m → z < m → IsInverse m x y → IsInverse m x z → y ≡ z

abbrev pub PowerModOrder : Type 0
PowerModOrder =
    (m x t n : ℕ) → 0 < m → IsUnity m x t → residue m (power (pos x) n) ≡ residue m (power (pos x) (n % t))

abbrev pub UnityAtMultiples : Type 0
UnityAtMultiples = (m x t n : ℕ) → 1 < m → IsOrder m x t → IsUnity m x n ↔ (n % t ≡ 0)

abbrev pub OrderUpToLimit : Type 0
OrderUpToLimit = (m x limit : ℕ) (found : Option ℕ) → IsOrderUpTo m x limit found ↔ (found ≡ order_up_to m x limit)

abbrev pub SignedPowerSum : Type 0
SignedPowerSum =
    (m : ℕ) (x y : ℤ) → Congruent m (x *ℤ y) (pos 1) → (s t : ℤ) → Congruent m (signed_power x y s *ℤ signed_power x y t) (signed_power x y (s +ℤ t))
