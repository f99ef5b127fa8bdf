-- Products and closures as gluings of names (see arc_gluing), which need no seam between different names: p's bottom has the
-- names of q's top, and names that stand twice are glued.
--
--     below_names n            q's points: 0 to 2n-1
--     above_name n i           the name of p's point i
--     above_names n            p's points: the bottom has the names of q's top, strand by strand, the top 2n to 3n-1; for
--                              n = 2 they are 3 2 4 5
--     left_names n             the names that stand once: 0 to n-1 and 2n to 3n-1
--     glued_pairs n p q        the pairs of q and of p, as edges between these names
--     ProductByGluing          the pairing of the names that are left is the product, and the closed parts are its loops
--     ClosureByGluing          a pairing glued to straight strands at all points closes as many parts as its closure has loops
--     StrandSeam               no name stands more than twice, and what stands once is left, increasing
use Rattle.std.specs.Prelude.{◌≡◌, ℕ, ◌+◌, ◌-◌, ◌≤◌, nat_lt, if◌then◌else◌, List, [], ◌++◌, map}
use Rattle.std.specs.List.{range_with_len}
use Rattle.std.specs.List.Sorted.{IsStrictlyIncreasing}
use Rattle.graph_parts.specs.Patterns.{closed_parts}
use Rattle.list_lemmas.specs.Times.{times_in}
use Rattle.arc_gluing.specs.Pairings.{pair_edges, partners_of, AreOpen}
use Rattle.strand_algebra.specs.StrandPairings.{IsPairingOn, straight, product, product_loops, closure_loops}

-- q's points.
abbrev pub below_names : ℕ → List ℕ
below_names n = range_with_len 0 (n + n)

-- Point i of p's bottom is glued to point 2n-1-i of q.
abbrev pub above_name : ℕ → ℕ → ℕ
above_name n i = if nat_lt i n then n + n - 1 - i else n + i

-- p's points.
abbrev pub above_names : ℕ → List ℕ
above_names n = map (above_name n) (range_with_len 0 (n + n))

-- q's bottom and p's top.
abbrev pub left_names : ℕ → List ℕ
left_names n = range_with_len 0 n ++ range_with_len (n + n) n

-- The pairs of both.
abbrev pub glued_pairs : ℕ → List ℕ → List ℕ → List (ℕ × ℕ)
glued_pairs n p q = pair_edges (below_names n) q ++ pair_edges (above_names n) p

-- The product, and its loops.
pub record IsGluedProduct (n : ℕ) (p q : List ℕ) : Type 0 where
  pub pairing : partners_of (below_names n ++ above_names n) (glued_pairs n p q) (left_names n) ≡ product n p q
  pub loops : closed_parts (below_names n ++ above_names n) (glued_pairs n p q) (left_names n) ≡ product_loops n p q

abbrev pub ProductByGluing : Type 0
ProductByGluing = (n : ℕ) (p q : List ℕ) → IsPairingOn n p → IsPairingOn n q → IsGluedProduct n p q

-- The loops of a closure.
abbrev pub ClosureByGluing : Type 0
ClosureByGluing =
    (n : ℕ) (p : List ℕ) → IsPairingOn n p →
    closed_parts (below_names n ++ below_names n) (pair_edges (below_names n) p ++ pair_edges (below_names n) (straight n)) [] ≡ closure_loops n p

-- What a seam of these names is.
pub record IsStrandSeam (n : ℕ) : Type 0 where
  pub increasing : IsStrictlyIncreasing (below_names n)
  pub few : (x : ℕ) → times_in (below_names n ++ above_names n) x ≤ 2
  pub left : (names : List ℕ) → AreOpen (below_names n ++ above_names n) names → IsStrictlyIncreasing names → names ≡ left_names n

abbrev pub StrandSeam : Type 0
StrandSeam = (n : ℕ) → IsStrandSeam n
