-- The partners by parts, and the closed parts, at small graphs.
use Rattle.std.proofs.Common.{◌≡◌, [], ◌∷◌, ◌++◌, refl}
use Rattle.graph_parts.specs.Parts.{part, part_count}
use Rattle.graph_parts.specs.Patterns.{closed_parts}
use Rattle.arc_gluing.specs.Pairings.{pair_edges, partners_of}

-- 1 with 4 and 2 with 3
nested : partners_of (1 ∷ 2 ∷ 3 ∷ 4 ∷ []) ((1, 4) ∷ (2, 3) ∷ []) (1 ∷ 2 ∷ 3 ∷ 4 ∷ []) ≡ 3 ∷ 2 ∷ 1 ∷ 0 ∷ []
unfolding part
nested = refl

-- the pairing 1,0 of the names 1, 2 behind the ends 2, 3, 3, 1 of a term that pairs neighbours: all closes to one loop
one_loop : closed_parts (1 ∷ 2 ∷ 2 ∷ 3 ∷ 3 ∷ 1 ∷ []) (pair_edges (1 ∷ 2 ∷ []) (1 ∷ 0 ∷ []) ++ pair_edges (2 ∷ 3 ∷ 3 ∷ 1 ∷ []) (1 ∷ 0 ∷ 3 ∷ 2 ∷ [])) [] ≡ 1
unfolding part part_count
one_loop = refl

-- a crossing with the ends 1, 1, 2, 2: two loops in the one smoothing, one in the other
curl : closed_parts (1 ∷ 1 ∷ 2 ∷ 2 ∷ []) (pair_edges (1 ∷ 1 ∷ 2 ∷ 2 ∷ []) (1 ∷ 0 ∷ 3 ∷ 2 ∷ [])) [] ≡ 2
unfolding part part_count
curl = refl

other_curl : closed_parts (1 ∷ 1 ∷ 2 ∷ 2 ∷ []) (pair_edges (1 ∷ 1 ∷ 2 ∷ 2 ∷ []) (3 ∷ 2 ∷ 1 ∷ 0 ∷ [])) [] ≡ 1
unfolding part part_count
other_curl = refl
