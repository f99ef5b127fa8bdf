-- Pairings of the ends of strands, put on one another and closed (Temperley and Lieb's diagrams: Lickorish, ch. 13; Kauffman
-- and Lins). n strands have 2n points: 0 to n-1 are the bottom from left to right, n to 2n-1 the top from right to left. A
-- pairing is the list of partners. To put p on q, p's bottom is joined to q's top, strand by strand:
--
--     5   4   3        top of p
--     |   '---'
--     |   .---.        p: hook 2 on three strands, 5,2,1,4,3,0
--     0   1   2        bottom of p
--     :   :   :        seams: point i of p with point 2n-1-i of q
--     5   4   3        top of q
--     '---'   |
--     .---.   |        q: hook 1, 1,0,3,2,5,4
--     0   1   2        bottom of q; the product is 1,0,5,4,3,2
--
--     IsPairingOn n p          a pairing of 2n points
--     straight n               each strand's bottom is joined to its top: 3,2,1,0 on two strands
--     hooked n i               strands i and i+1, counted from 1, are joined at the bottom and at the top, the others are
--                              straight: 1,0,3,2 for n = 2 and i = 1
--     widened n p              one more straight strand on the right
--     stack n p q              p on q: the pairs of both, and the seams between them, as edges
--     product n p q            the outer points of p on q, paired where they lie in one part
--     product_loops n p q      the parts of p on q without an outer point
--     closure_loops n p        how many loops there are where point i is joined with point 2n-1-i
--     upside_down n p             top and bottom change places: point i becomes point 2n-1-i
--     half_turned n p          half a turn: point i becomes point i+n, counted modulo 2n
use Rattle.std.specs.Prelude.{◌≡◌, ℕ, ◌+◌, ◌-◌, ◌==◌, nat_lt, if◌then◌else◌, List, ◌∷◌, ◌++◌, length, map, slice_index, take, drop}
use Rattle.std.specs.List.{range_with_len}
use Rattle.graph_parts.specs.Parts.{part_count}
use Rattle.graph_parts.specs.Patterns.{closed_parts}
use Rattle.state_sums.specs.Networks.{IsPairing}
use Rattle.arc_gluing.specs.Pairings.{pair_edges, partners_of}

-- A pairing of 2n points.
pub record IsPairingOn (n : ℕ) (p : List ℕ) : Type 0 where
  pub points : length p ≡ n + n
  pub is_pairing : IsPairing p

-- Point i is joined with point 2n-1-i.
abbrev pub straight : ℕ → List ℕ
straight n = map (λ i. n + n - 1 - i) (range_with_len 0 (n + n))

-- The partner of point j where strands i and i+1 are joined: bottom i-1 with i, and top 2n-i with 2n-1-i.
abbrev pub hooked_point : ℕ → ℕ → ℕ → ℕ
hooked_point n i j =
    if j == i - 1 then i else
    (if j == i then i - 1 else
    (if j == n + n - i then n + n - 1 - i else
    (if j == n + n - 1 - i then n + n - i else n + n - 1 - j)))

-- Strands i and i+1 are joined at the bottom and at the top, for i from 1 to n-1.
abbrev pub hooked : ℕ → ℕ → List ℕ
hooked n i = map (hooked_point n i) (range_with_len 0 (n + n))

-- Where point j is after the points n and n+1 were put in.
abbrev pub moved : ℕ → ℕ → ℕ
moved n j = if nat_lt j n then j else j + 2

-- One more strand on the right: its points are n and n+1.
abbrev pub widened : ℕ → List ℕ → List ℕ
widened n p = map (moved n) (take n p) ++ ((n + 1) ∷ n ∷ map (moved n) (drop n p))

-- The points of p on q: point i of q, which is below, has the name i, and point i of p the name 2n + i.
abbrev pub stack_names : ℕ → List ℕ
stack_names n = range_with_len 0 (n + n + (n + n))

-- Point i of p is joined with point 2n-1-i of q, for i below n.
abbrev pub seams : ℕ → List (ℕ × ℕ)
seams n = map (λ i. (n + n + i, n + n - 1 - i)) (range_with_len 0 n)

-- The pairs of both, and the seams.
abbrev pub stack : ℕ → List ℕ → List ℕ → List (ℕ × ℕ)
stack n p q = pair_edges (range_with_len 0 (n + n)) q ++ (pair_edges (range_with_len (n + n) (n + n)) p ++ seams n)

-- The outer points: q's bottom, then p's top.
abbrev pub outer_names : ℕ → List ℕ
outer_names n = range_with_len 0 n ++ range_with_len (n + n + n) n

-- The outer points, paired where they lie in one part of the stack.
abbrev pub product : ℕ → List ℕ → List ℕ → List ℕ
product n p q = partners_of (stack_names n) (stack n p q) (outer_names n)

-- The parts of the stack without an outer point.
abbrev pub product_loops : ℕ → List ℕ → List ℕ → ℕ
product_loops n p q = closed_parts (stack_names n) (stack n p q) (outer_names n)

-- The pairs, and an edge from point i to point 2n-1-i for each strand.
abbrev pub closure : ℕ → List ℕ → List (ℕ × ℕ)
closure n p = pair_edges (range_with_len 0 (n + n)) p ++ map (λ i. (i, n + n - 1 - i)) (range_with_len 0 n)

-- The parts of the closure.
abbrev pub closure_loops : ℕ → List ℕ → ℕ
closure_loops n p = part_count (range_with_len 0 (n + n)) (closure n p)

-- The pairing with its points exchanged: t i is paired with t j where i is paired with j. The exchange is its own inverse.
abbrev pub exchanged : ℕ → (ℕ → ℕ) → List ℕ → List ℕ
exchanged n t p = map (λ i. t (slice_index p (t i))) (range_with_len 0 (n + n))

-- Top and bottom change places.
abbrev pub upside_down : ℕ → List ℕ → List ℕ
upside_down n p = exchanged n (λ i. n + n - 1 - i) p

-- Half a turn: point i becomes point i+n, counted modulo 2n.
abbrev pub half_turned : ℕ → List ℕ → List ℕ
half_turned n p = exchanged n (λ i. if nat_lt i n then i + n else i - n) p
