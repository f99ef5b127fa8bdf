-- Formal sums of pairings over the whole numbers, in any order: the working tool of the proofs on elements. Two are alike
-- modulo m where they come to the same for every worth of the pairings; so a product is bilinear by one lemma.
--
--     total x worth              what a formal sum comes to where each pairing has a worth
--     AreAlike m x y             equal modulo m for every worth
--     formal_multiply, ..        the operations of elements, with nothing collected
--     formal_projector d y n     f^(n+1) by Wenzl's recursion, where y k is the inverse of Delta_k
use Rattle.std.proofs.Common.{ℕ, zero, suc, ◌+◌, cond, List, [], ◌∷◌, ◌++◌, map, ℤ, pos, ◌+ℤ◌, ◌*ℤ◌, neg_ℤ}
use Rattle.std.specs.List.{flat_map}
use Rattle.std.specs.Str.{bytes_eq}
use Rattle.ring_identities.specs.Powers.{power}
use Rattle.ring_identities.specs.Residues.{Congruent}
use Rattle.root_quantum.specs.QuantumNumbers.{quantum_number}
use Rattle.strand_algebra.specs.StrandPairings.{straight, widened}
use Rattle.strand_algebra.proofs.LabelProducts.{label_product, label_loops, label_closed_loops, hooked_behind}

abbrev pub Sum : Type 0
Sum = List (ℤ × List ℕ)

-- what a formal sum comes to where each pairing has a worth
abbrev pub total : Sum → (List ℕ → ℤ) → ℤ
total [] worth = pos 0
total (term ∷ x) worth = term.0 *ℤ worth term.1 +ℤ total x worth

abbrev pub formal_coefficient : Sum → List ℕ → ℤ
formal_coefficient x p = total x (λ q. cond (bytes_eq p q) (pos 1) (pos 0))

-- equal modulo m for every worth
abbrev pub AreAlike : ℕ → Sum → Sum → Type 0
AreAlike m x y = (worth : List ℕ → ℤ) → Congruent m (total x worth) (total y worth)

abbrev pub formal_add : Sum → Sum → Sum
formal_add x y = x ++ y

abbrev pub formal_scale : ℤ → Sum → Sum
formal_scale c x = map (λ term. (c *ℤ term.0, term.1)) x

abbrev pub formal_multiply : ℕ → ℤ → Sum → Sum → Sum
formal_multiply n d x y =
    flat_map (λ s. map (λ t. (s.0 *ℤ (t.0 *ℤ power d (label_loops n s.1 t.1)), label_product n s.1 t.1)) y) x

abbrev pub formal_close : ℕ → ℤ → Sum → ℤ
formal_close n d x = total x (λ p. power d (label_closed_loops n p))

abbrev pub formal_identity : ℕ → Sum
formal_identity n = (pos 1, straight n) ∷ []

abbrev pub formal_hook : ℕ → ℕ → Sum
formal_hook n i = (pos 1, hooked_behind n i) ∷ []

abbrev pub formal_beside : ℕ → Sum → Sum
formal_beside n x = map (λ term. (term.0, widened n term.1)) x

-- f^(n + 1)
abbrev pub formal_projector : ℤ → (ℕ → ℤ) → ℕ → Sum
formal_projector d inverse zero = formal_identity 1
formal_projector d inverse (suc n) =
    let f = formal_beside (n + 1) (formal_projector d inverse n) in
    formal_add f
    (formal_scale (neg_ℤ (quantum_number d n *ℤ inverse (suc n)))
    (formal_multiply (n + 1 + 1) d (formal_multiply (n + 1 + 1) d f (formal_hook (n + 1 + 1) n)) f))
