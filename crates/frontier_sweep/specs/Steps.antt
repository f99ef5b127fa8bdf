-- What a step asks of the terms that it glues, and where its table overflows. (This project's own.)
--
--     FitsSeam m seam term        the term pairs the ends of the node, and its weight is below m
--     IsOverfull m items          gathered from the items, a table has more than 262,144 entries
--     Spells points code          the code spells a pairing of that many points
--     IsSeamOf names ends seam    a seam of open names, in any order, and the ends of a node
--     OverflowsAt m delta names node table   with such a seam the next table is overfull
--     IsReady m names node table count       the node can be glued to the table
use Rattle.std.specs.Prelude.{◌≡◌, ℕ, ◌<◌, ◌≤◌, ◌==◌, List, ◌++◌, ◌^◌, length, get_or}
use Rattle.std.specs.List.{All, IsDistinct}
use Rattle.std.specs.Map.{keys_of}
use Rattle.state_sums.specs.Networks.{Node, Term}
use Rattle.arc_gluing.specs.Pairings.{AreOpen}
use Rattle.arc_pairing.specs.Codes.{code_of}
use Rattle.arc_pairing.specs.Gluing.{Seam}
use Rattle.arc_pairing.specs.Pairings.{IsShortPairing}
use Rattle.frontier_laws.specs.Tables.{decoded, contributions}
use Rattle.kept_tables.specs.KeptTables.{IsGathered}
use Rattle.list_lemmas.specs.Times.{times_in}
use Rattle.arc_pairing.specs.declared.limits.TheConstants.{MOST_POINTS}
use Rattle.frontier_laws.specs.declared.limits.TheConstants.{MOST_PAIRINGS}

-- The term pairs the ends of the node, and its weight is below m.
pub record FitsSeam (m : ℕ) (seam : Seam) (term : Term) : Type 0 where
  pub whole : length term.partner ≡ length seam.ends
  pub below : term.weight < m

-- Gathered from the items, a table has more than 262,144 entries.
pub record IsOverfull (m : ℕ) (items : List (ℕ × ℕ)) : Type 0 where
  pub table : List (ℕ × ℕ)
  pub gathered : IsGathered m items table
  pub many : MOST_PAIRINGS < length table

-- The code spells a pairing of that many points.
pub record Spells (points code : ℕ) : Type 0 where
  pub again : code_of (decoded code) ≡ code
  pub short : IsShortPairing (decoded code)
  pub whole : length (decoded code) ≡ points

-- A seam of open names and the ends of a node, which leaves what is open with both, in any order.
pub record IsSeamOf (names ends : List ℕ) (seam : Seam) : Type 0 where
  pub inner : seam.inner ≡ names
  pub ends_are : seam.ends ≡ ends
  pub outer : AreOpen (names ++ ends) seam.outer
  pub narrow : length seam.outer ≤ MOST_POINTS

-- With some seam of the open names and the node, the next table has more than 262,144 entries.
pub record OverflowsAt (m delta : ℕ) (names : List ℕ) (node : Node) (table : List (ℕ × ℕ)) : Type 0 where
  pub seam : Seam
  pub is : IsSeamOf names node.ends seam
  pub over : IsOverfull m (contributions delta seam node.terms table)

-- The node can be glued: no open name stands twice, of the ends and the open names none stands thrice, the codes are distinct and spell pairings of the
-- open names, all weights and coefficients are below m, and there is room for the table and the turns.
pub record IsReady (m : ℕ) (names : List ℕ) (node : Node) (table : List (ℕ × ℕ)) (count : ℕ) : Type 0 where
  pub few_names : length names ≤ MOST_POINTS
  pub single : (x : ℕ) → times_in names x ≤ 1
  pub few : (x : ℕ) → times_in (names ++ node.ends) x ≤ 2
  pub distinct : IsDistinct ◌==◌ (keys_of table)
  pub codes : (i : ℕ) → i < length table → Spells (length names) (get_or table i (0, 0)).0
  pub coefficients : (i : ℕ) → i < length table → (get_or table i (0, 0)).1 < m
  pub weights : All (λ term. term.weight < m) node.terms
  pub some : 0 < m
  pub few_pairings : length table ≤ MOST_PAIRINGS
  pub room : count < 2 ^ 124
