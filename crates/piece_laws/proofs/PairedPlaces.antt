-- The edges of a term: from the end at each place to the end at its partner.
use Rattle.std.proofs.Common.{◌≡◌, ℕ, zero, suc, ◌<◌, List, [], ◌∷◌, map, length, slice_index, zip, refl, Contains, arith}

-- each place gives an edge
pub edge_at : (f : ℕ → ℕ) (xs places : List ℕ) (i : ℕ) → i < length xs → i < length places → Contains (zip xs (map f places)) (slice_index xs i, f (slice_index places i))
edge_at f [] places i l k = absurd (omega (arith, l))
edge_at f (x ∷ xs) [] i l k = absurd (omega (arith, k))
edge_at f (x ∷ xs) (p ∷ places) zero l k = (0, omega arith, refl)
edge_at f (x ∷ xs) (p ∷ places) (suc i) l k = let c = edge_at f xs places i (omega (arith, l)) (omega (arith, k)) in (suc c.0, omega (arith, c.1), c.2)

-- EACH EDGE IS OF A PLACE
pub edge_from : (f : ℕ → ℕ) (xs places : List ℕ) (edge : ℕ × ℕ) → Contains (zip xs (map f places)) edge →
    (i : ℕ) × (i < length xs) × (i < length places) × ((slice_index xs i, f (slice_index places i)) ≡ edge)
edge_from f [] places edge c = absurd (omega (arith, c.1))
edge_from f (x ∷ xs) [] edge c = absurd (omega (arith, c.1))
edge_from f (x ∷ xs) (p ∷ places) edge (zero, l, e) = (0, omega arith, omega arith, e)
edge_from f (x ∷ xs) (p ∷ places) edge (suc k, l, e) =
    let r = edge_from f xs places edge (k, omega (arith, l), e) in (suc r.0, omega (arith, r.1), omega (arith, r.2), r.3)
