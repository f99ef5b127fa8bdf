-- Gluing one node to a pairing: the pairs of the points before, whose names are given, and the pairs of one term of the
-- node join names into parts. What was joined at a name that stands twice is glued, and the names that stand once are left.
--
--     Seam                        the names of the points before, the names of the node's ends, and the names that are left
--     glued_edges seam old term   the pairs of the old pairing and of the term, as edges between names
--     IsGluing seam old term found loops    the partners found and the number of loops are those of the joined pairs
--     ChangesNothing seam term    glued to any pairing the term leaves it as it is, and closes no loop
--     open_name_count names       how many names are open, since they stand once: 1 of 5, 5, 7
use Rattle.std.specs.Prelude.{◌≡◌, ℕ, ◌==◌, List, ◌++◌, length}
use Rattle.std.specs.List.{count_by}
use Rattle.list_lemmas.specs.Times.{times_in}
use Rattle.graph_parts.specs.Patterns.{closed_parts}
use Rattle.arc_gluing.specs.Pairings.{pair_edges, IsPairedBy, partners_of}
use Rattle.arc_pairing.specs.Pairings.{IsShortPairing}

-- The names of the points before, the names of the node's ends, and the names that are left.
pub record Seam : Type 0 where
  pub inner : List ℕ
  pub ends : List ℕ
  pub outer : List ℕ

-- The pairs of the old pairing and of the term.
abbrev pub glued_edges : Seam → List ℕ → List ℕ → List (ℕ × ℕ)
glued_edges seam old term = pair_edges seam.inner old ++ pair_edges seam.ends term

-- What a gluing found, the partners and how many loops closed, is the gluing by parts.
pub record IsGluing (seam : Seam) (old term found : List ℕ) (loops : ℕ) : Type 0 where
  pub paired : IsPairedBy (glued_edges seam old term) seam.outer found
  pub partners : found ≡ partners_of (seam.inner ++ seam.ends) (glued_edges seam old term) seam.outer
  pub closed : loops ≡ closed_parts (seam.inner ++ seam.ends) (glued_edges seam old term) seam.outer

-- Glued to any pairing the term leaves it as it is, and closes no loop.
abbrev pub ChangesNothing : Seam → List ℕ → Type 0
ChangesNothing seam term = (old : List ℕ) → IsShortPairing old → length old ≡ length seam.inner → IsGluing seam old term old 0

-- How many names are open.
abbrev pub open_name_count : List ℕ → ℕ
open_name_count names = count_by (λ x. times_in names x == 1) names
