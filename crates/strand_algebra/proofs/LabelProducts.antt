-- Products by labels: the working tool of the proofs on products, and no definition that a contract rests on. The pairs of a
-- stack give labels to its points (graph_parts: labels tell exactly what walks join), and what is proved by labels holds for
-- the product by parts, since both tell the same (ByLabels). A pairing of so many points says its size.
--
--     IsPairingOf size p        a pairing of so many points
--     pairs first p             its pairs, where point i has the name first + i
--     label_stack n p q         the pairs of q, the pairs of p, and the seams
--     outer n i                 the name of the outer point i: q's bottom, then p's top
--     label_product n p q       each outer point with the first other one that has its label
--     label_loops n p q         how many labels no outer point has
--     closed_edges n p          the pairs, and the closing edges
--     label_closed_loops n p    how many labels there are in the closure
--     hooked_behind n i         the hook with i strands on its left
use Rattle.std.proofs.Common.{◌≡◌, ◌≢◌, ℕ, ◌+◌, ◌-◌, ◌<◌, ◌==◌, nat_lt, ◌&&◌, not, if◌then◌else◌, List, [], ◌∷◌, ◌++◌, map, length, slice_index}
use Rattle.std.specs.List.{range_with_len}
use Rattle.graph_parts.specs.Labels.{label_of, label_count}
use Rattle.strand_algebra.specs.StrandPairings.{seams, hooked, hooked_point}

-- a pairing of so many points
pub record IsPairingOf (size : ℕ) (p : List ℕ) : Type 0 where
  pub length_is : length p ≡ size
  pub stays : (i : ℕ) → i < size → slice_index p i < size
  pub turns : (i : ℕ) → i < size → slice_index p (slice_index p i) ≡ i
  pub moves : (i : ℕ) → i < size → slice_index p i ≢ i

-- how many parts the edges make of the names
abbrev pub label_parts : List (ℕ × ℕ) → List ℕ → ℕ
label_parts edges names = label_count (label_of edges) names

-- the pairs of a pairing whose point i has the name first + i
abbrev pub pairs : ℕ → List ℕ → List (ℕ × ℕ)
pairs first p = map (λ i. (first + i, first + slice_index p i)) (range_with_len 0 (length p))

abbrev pub label_stack : ℕ → List ℕ → List ℕ → List (ℕ × ℕ)
label_stack n p q = pairs 0 q ++ (pairs (n + n) p ++ seams n)

-- the name of the outer point i
abbrev pub outer : ℕ → ℕ → ℕ
outer n i = if nat_lt i n then i else n + n + i

-- the first other one of the points with x's label, or x
abbrev pub other : (ℕ → ℕ) → List ℕ → ℕ → ℕ
other label [] x = x
other label (y ∷ points) x = if label x == label y && not (x == y) then y else other label points x

abbrev pub label_product : ℕ → List ℕ → List ℕ → List ℕ
label_product n p q =
    let label = label_of (label_stack n p q) in
    let points = range_with_len 0 (n + n) in
    map (other (λ i. label (outer n i)) points) points

abbrev pub label_loops : ℕ → List ℕ → List ℕ → ℕ
label_loops n p q =
    let label = label_of (label_stack n p q) in
    label_count label (range_with_len 0 (n + n + (n + n))) - label_count label (map (outer n) (range_with_len 0 (n + n)))

-- the pairs, and an edge from point i to point 2n - 1 - i for each strand
abbrev pub closed_edges : ℕ → List ℕ → List (ℕ × ℕ)
closed_edges n p = pairs 0 p ++ map (λ i. (i, n + n - 1 - i)) (range_with_len 0 n)

abbrev pub label_closed_loops : ℕ → List ℕ → ℕ
label_closed_loops n p = label_parts (closed_edges n p) (range_with_len 0 (n + n))

-- the hook with i strands on its left
abbrev pub hooked_behind_point : ℕ → ℕ → ℕ → ℕ
hooked_behind_point n i j = hooked_point n (i + 1) j

abbrev pub hooked_behind : ℕ → ℕ → List ℕ
hooked_behind n i = hooked n (i + 1)
