-- The projectors of the Temperley-Lieb algebra, by Wenzl's recursion (Lickorish, ch. 13; Kauffman and Lins): f^1 is one
-- strand, and f^(n+1) = (f^n beside 1) - (Delta_(n-1) y)(f^n beside 1) e_n (f^n beside 1), where Delta_n y = 1 modulo m.
--
--     projector m delta inverse n       f^n, where `inverse k` is that y for Delta_k; f^0 is no strand. At m = 41 and
--                                       delta = 6, f^2 has 34 at the hook and 1 at the straight strands
--     quantum_residue m delta n         Delta_n modulo m: 1, 6, 35, 40, 0 at m = 41 and delta = 6
--     AreInverses m delta inverse n     `inverse k` is the inverse of Delta_k for k from 1 to n-1
--     IsProjector m delta n x           x is f^n, by some such inverses
--     inverse_of m x                    the residue whose product with x is 1 modulo m, by trying each: 7 at 41 and 6
--     found_projector m delta n         f^n by the inverses that are found so: it computes at small m
use Rattle.std.specs.Prelude.{◌≡◌, ℕ, zero, suc, ◌+◌, ◌<◌, pos, ◌*ℤ◌, neg_ℤ, ◌==◌, if◌then◌else◌, List}
use Rattle.ring_identities.specs.Residues.{residue}
use Rattle.ring_identities.specs.Powers.{IsInverse}
use Rattle.root_quantum.specs.QuantumNumbers.{quantum_number}
use Rattle.state_sums.specs.Networks.{Term}
use Rattle.strand_algebra.specs.Elements.{identity, hook, add, scaled, multiply, beside}

-- Delta_n modulo m.
abbrev pub quantum_residue : ℕ → ℕ → ℕ → ℕ
quantum_residue m delta n = residue m (quantum_number (pos delta) n)

-- The residue of -(Delta_n y).
abbrev pub wenzl_factor : ℕ → ℕ → ℕ → ℕ → ℕ
wenzl_factor m delta y n = residue m (neg_ℤ (pos (quantum_residue m delta n) *ℤ pos y))

-- From f = f^(n+1) the next one, with the factor -(Delta_n y) of the recursion.
abbrev pub next_projector : ℕ → ℕ → ℕ → ℕ → List Term → List Term
next_projector m delta factor n f =
    let wide = beside m (n + 1) f in
    add m (n + 2) wide (scaled m (n + 2) factor (multiply m delta (n + 2) (multiply m delta (n + 2) wide (hook m (n + 2) (n + 1))) wide))

-- f^n
unfoldable pub projector : ℕ → ℕ → (ℕ → ℕ) → ℕ → List Term
projector m delta inverse zero = identity m 0
projector m delta inverse (suc zero) = identity m 1
projector m delta inverse (suc (suc n)) = next_projector m delta (wenzl_factor m delta (inverse (suc n)) n) n (projector m delta inverse (suc n))

-- Delta_k times `inverse k` is 1 modulo m, for k from 1 to n-1.
abbrev pub AreInverses : ℕ → ℕ → (ℕ → ℕ) → ℕ → Type 0
AreInverses m delta inverse n = (k : ℕ) → 0 < k → k < n → IsInverse m (quantum_residue m delta k) (inverse k)

-- f^n, by some inverses; any others give the same.
pub record IsProjector (m delta n : ℕ) (x : List Term) : Type 0 where
  pub inverse : ℕ → ℕ
  pub are_inverses : AreInverses m delta inverse n
  pub is : x ≡ projector m delta inverse n

-- The greatest y below the limit whose product with x is 1 modulo m, or 0 where there is none.
abbrev pub inverse_below : ℕ → ℕ → ℕ → ℕ
inverse_below m x zero = 0
inverse_below m x (suc y) = if residue m (pos x *ℤ pos y) == 1 then y else inverse_below m x y

-- The residue whose product with x is 1 modulo m.
unfoldable pub inverse_of : ℕ → ℕ → ℕ
inverse_of m x = inverse_below m x m

-- f^n by the inverses that are found by trying each residue. Where one of Delta_1 to Delta_(n-1) has no inverse it is no
-- projector, and means nothing.
unfoldable pub found_projector : ℕ → ℕ → ℕ → List Term
found_projector m delta n = projector m delta (λ k. inverse_of m (quantum_residue m delta k)) n
