-- The laws of rotation systems.
use Rattle.std.specs.Prelude.{◌≡◌, ◌≢◌, ◌≤◌, ◌⊎◌, ◌↔◌, ℕ, ◌+◌, ◌*◌, ◌==◌, true, List, ◌∷◌, ◌++◌, length}
use Rattle.std.specs.List.{range_with_len}
use Rattle.std.specs.Set.{is_member}
use Rattle.graph_parts.specs.Ends.{AreAmong}
use Rattle.graph_parts.specs.Parts.{part_count}
use Rattle.graph_parts.specs.Walks.{Joined}
use Rattle.rotation_parts.specs.Rotations.{exchanged, steps, cycle_count, follower, faces_of, pieces_of, IsFlat, IsPermutation, IsPairing, paired_edges, pair_graph, IsFlatWith}
use Rattle.rotation_parts.specs.GraphMaps.{IsRetract, AreMatched}
use Rattle.rotation_parts.specs.Drawings.{IsCurl, IsSubdivision, IsPush, passed, IsVertexOfTwo, IsLoneCurl, IsSlide, IsRenamed}

-- A permutation after an exchange of two names has one cycle more where these lie in one cycle.
abbrev pub ExchangeSplitsLaw : Type 0
ExchangeSplitsLaw =
    (names : List ℕ) (next back : ℕ → ℕ) (a b : ℕ) → IsPermutation names next back → is_member ◌==◌ names a ≡ true → is_member ◌==◌ names b ≡ true → a ≢ b →
    Joined (steps next names) a b → cycle_count names (λ x. next (exchanged a b x)) ≡ cycle_count names next + 1

-- And one cycle less where they don't.
abbrev pub ExchangeMergesLaw : Type 0
ExchangeMergesLaw =
    (names : List ℕ) (next back : ℕ → ℕ) (a b : ℕ) → IsPermutation names next back → is_member ◌==◌ names a ≡ true → is_member ◌==◌ names b ≡ true → a ≢ b →
    (Joined (steps next names) a b → ⊥) → cycle_count names (λ x. next (exchanged a b x)) + 1 ≡ cycle_count names next

-- The genus is never negative: no system has more faces than a flat one.
abbrev pub GenusLaw : Type 0
GenusLaw =
    (names : List ℕ) (turn back : ℕ → ℕ) (edges : List (ℕ × ℕ)) → IsPermutation names turn back → AreAmong names edges →
    cycle_count names turn + faces_of names turn edges ≤ length edges + 2 * pieces_of names turn edges

-- A system stays flat without one of its edges.
abbrev pub WithoutEdgeLaw : Type 0
WithoutEdgeLaw =
    (names : List ℕ) (turn back : ℕ → ℕ) (a b : ℕ) (edges : List (ℕ × ℕ)) → IsPermutation names turn back → AreAmong names ((a, b) ∷ edges) → a ≢ b →
    IsFlat names turn ((a, b) ∷ edges) → IsFlat names turn edges

-- One more edge keeps a flat system flat exactly where its ends lie in one face or in two pieces.
abbrev pub OneMoreEdgeLaw : Type 0
OneMoreEdgeLaw =
    (names : List ℕ) (turn back : ℕ → ℕ) (a b : ℕ) (edges : List (ℕ × ℕ)) → IsPermutation names turn back → AreAmong names ((a, b) ∷ edges) → a ≢ b →
    IsFlat names turn edges →
    IsFlat names turn ((a, b) ∷ edges) ↔ (Joined (steps (follower turn edges) names) a b ⊎ (Joined (edges ++ steps turn names) a b → ⊥))

-- A vertex that is cut in two keeps a flat system flat: turn after an exchange of two names of one vertex.
abbrev pub CutVertexLaw : Type 0
CutVertexLaw =
    (names : List ℕ) (turn back : ℕ → ℕ) (a b : ℕ) (edges : List (ℕ × ℕ)) → IsPermutation names turn back → AreAmong names edges →
    is_member ◌==◌ names a ≡ true → is_member ◌==◌ names b ≡ true → a ≢ b → Joined (steps turn names) a b →
    IsFlat names turn edges → IsFlat names (λ x. turn (exchanged a b x)) edges

-- A graph and what is left of it where joined names become one have as many parts.
abbrev pub RetractLaw : Type 0
RetractLaw =
    (names others : List ℕ) (es fs : List (ℕ × ℕ)) (f g : ℕ → ℕ) → AreAmong names es → AreAmong others fs → IsRetract names others es fs f g →
    part_count names es ≡ part_count others fs

-- A curl has one face more, and as many pieces.
abbrev pub CurlCountsLaw : Type 0
CurlCountsLaw =
    (names : List ℕ) (turn other drawn : ℕ → ℕ) (p q a b c d : ℕ) → IsCurl names turn other drawn p q a b c d →
    (cycle_count (a ∷ b ∷ c ∷ d ∷ names) (λ x. turn (drawn x)) ≡ cycle_count names (λ x. turn (other x)) + 1)
    × (part_count (a ∷ b ∷ c ∷ d ∷ names) (pair_graph (a ∷ b ∷ c ∷ d ∷ names) turn drawn) ≡ part_count names (pair_graph names turn other))

-- A vertex of two names in an edge changes neither the number of faces nor that of pieces.
abbrev pub SubdivisionCountsLaw : Type 0
SubdivisionCountsLaw =
    (names : List ℕ) (turn other drawn : ℕ → ℕ) (p q u v : ℕ) → IsSubdivision names turn other drawn p q u v →
    (cycle_count (u ∷ v ∷ names) (λ x. turn (drawn x)) ≡ cycle_count names (λ x. turn (other x)))
    × (part_count (u ∷ v ∷ names) (pair_graph (u ∷ v ∷ names) turn drawn) ≡ part_count names (pair_graph names turn other))

-- So have graphs between which walks go to and fro.
abbrev pub MatchedGraphsLaw : Type 0
MatchedGraphsLaw =
    (names others : List ℕ) (es fs : List (ℕ × ℕ)) (f g : ℕ → ℕ) → AreAmong names es → AreAmong others fs → AreMatched names others es fs f g →
    part_count names es ≡ part_count others fs

-- An edge pushed over another, from places of one face: two faces more, and as many pieces.
abbrev pub PushCountsLaw : Type 0
PushCountsLaw =
    (n : ℕ) (turn back other drawn : ℕ → ℕ) (e1 e3 f1 f3 : ℕ) → IsPush n turn other drawn e1 e3 f1 f3 →
    IsPermutation (range_with_len 0 n) (λ x. turn (other x)) back → Joined (steps (λ x. turn (other x)) (range_with_len 0 n)) e1 f1 →
    (cycle_count (range_with_len 0 (n + 8)) (λ x. turn (drawn x)) ≡ cycle_count (range_with_len 0 n) (λ x. turn (other x)) + 2)
    × (part_count (range_with_len 0 (n + 8)) (pair_graph (range_with_len 0 (n + 8)) turn drawn) ≡ part_count (range_with_len 0 n) (pair_graph (range_with_len 0 n) turn other))

-- A system whose edges are given by a pairing of n names is flat exactly where 2 (V + F) = n + 4k.
abbrev pub PairFormLaw : Type 0
PairFormLaw =
    (n : ℕ) (turn back other : ℕ → ℕ) → IsPermutation (range_with_len 0 n) turn back → IsPairing n other →
    IsFlat (range_with_len 0 n) turn (paired_edges other (range_with_len 0 n))
    ↔ (2 * (cycle_count (range_with_len 0 n) turn + cycle_count (range_with_len 0 n) (λ x. turn (other x))) ≡ n + 4 * part_count (range_with_len 0 n) (pair_graph (range_with_len 0 n) turn other))

-- A vertex of two names that is taken away, also one that is a circle, keeps F - 2k.
abbrev pub PassedVertexLaw : Type 0
PassedVertexLaw =
    (m : ℕ) (names : List ℕ) (turn other : ℕ → ℕ) (u v : ℕ) → IsVertexOfTwo names turn other u v →
    IsFlatWith m (u ∷ v ∷ names) turn other ↔ IsFlatWith m names turn (passed u v other)

-- A curl that is a piece of its own has three faces.
abbrev pub LoneCurlLaw : Type 0
LoneCurlLaw =
    (m : ℕ) (names : List ℕ) (turn other : ℕ → ℕ) (a b c d : ℕ) → IsLoneCurl names turn other a b c d →
    IsFlatWith m names turn other ↔ IsFlatWith (m + 1) (a ∷ b ∷ c ∷ d ∷ names) turn other

-- A slide changes neither the number of faces nor that of pieces.
abbrev pub SlideCountsLaw : Type 0
SlideCountsLaw =
    (names : List ℕ) (turn turned other : ℕ → ℕ) (a0 a1 a2 a3 b0 b1 b2 b3 c0 c1 c2 c3 : ℕ) → IsSlide names turn turned other a0 a1 a2 a3 b0 b1 b2 b3 c0 c1 c2 c3 →
    (cycle_count names (λ x. turned (other x)) ≡ cycle_count names (λ x. turn (other x)))
    × (part_count names (pair_graph names turned other) ≡ part_count names (pair_graph names turn other))

-- Nor do other names.
abbrev pub RenamedCountsLaw : Type 0
RenamedCountsLaw =
    (names others : List ℕ) (turn other turned drawn f g : ℕ → ℕ) → IsRenamed names others turn other turned drawn f g →
    (cycle_count names (λ x. turn (other x)) ≡ cycle_count others (λ x. turned (drawn x)))
    × (part_count names (pair_graph names turn other) ≡ part_count others (pair_graph others turned drawn))
