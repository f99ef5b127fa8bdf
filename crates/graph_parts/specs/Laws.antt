-- The laws of parts. They carry everything above that counts loops, faces, pieces or components.
--
--     InPart names edges x y              y is in the part of x
--     InPartIsEquivalence names edges     of the names, being in one part is an equivalence
--     JoinAlike inside es fs              two lists of edges join the same of the names inside
--     IsAmongEdges es fs                  each edge of the one list stands in the other, this way round or the other
use Rattle.std.specs.Prelude.{◌≡◌, ◌⊎◌, ℕ, ◌+◌, ◌==◌, ◌↔◌, true, false, List, [], ◌∷◌, ◌++◌, map, length}
use Rattle.std.specs.List.{AllPass, Contains, count_by, zip}
use Rattle.std.specs.Set.{is_member, unique_keys}
use Rattle.graph_parts.specs.Ends.{AreAmong}
use Rattle.graph_parts.specs.LeastNames.{least_name}
use Rattle.graph_parts.specs.Parts.{part, part_count}
use Rattle.graph_parts.specs.Patterns.{pattern, closed_parts, MeetOnlyIn}
use Rattle.graph_parts.specs.Renaming.{renamed, IsOneToOne}
use Rattle.graph_parts.specs.Representatives.{AreRepresentatives}
use Rattle.graph_parts.specs.Walks.{Joined}

-- y is in the part of x.
abbrev pub InPart : List ℕ → List (ℕ × ℕ) → ℕ → ℕ → Type 0
InPart names edges x y = is_member ◌==◌ (part names edges x) y ≡ true

-- The rounds reach exactly what walks join.
abbrev pub PartsByWalksLaw : Type 0
PartsByWalksLaw =
    (names : List ℕ) (edges : List (ℕ × ℕ)) (x y : ℕ) → AreAmong names edges → is_member ◌==◌ names x ≡ true →
    InPart names edges x y ↔ Joined edges x y

-- Of the names, being in one part is an equivalence.
pub record InPartIsEquivalence (names : List ℕ) (edges : List (ℕ × ℕ)) : Type 0 where
  pub itself : (x : ℕ) → is_member ◌==◌ names x ≡ true → InPart names edges x x
  pub back : (x y : ℕ) → is_member ◌==◌ names x ≡ true → InPart names edges x y → InPart names edges y x
  pub on : (x y z : ℕ) → is_member ◌==◌ names x ≡ true → InPart names edges x y → InPart names edges y z → InPart names edges x z

abbrev pub PartEquivalenceLaw : Type 0
PartEquivalenceLaw = (names : List ℕ) (edges : List (ℕ × ℕ)) → AreAmong names edges → InPartIsEquivalence names edges

-- A graph with no name has no part.
abbrev pub NoNamesLaw : Type 0
NoNamesLaw = (edges : List (ℕ × ℕ)) → part_count [] edges ≡ 0

-- One more edge keeps the number of parts where its ends are joined.
abbrev pub JoinedEdgeLaw : Type 0
JoinedEdgeLaw =
    (names : List ℕ) (edges : List (ℕ × ℕ)) (x y : ℕ) → AreAmong names ((x, y) ∷ edges) → Joined edges x y →
    part_count names ((x, y) ∷ edges) ≡ part_count names edges

-- One more edge lowers the number of parts by one where its ends are not joined.
abbrev pub ApartEdgeLaw : Type 0
ApartEdgeLaw =
    (names : List ℕ) (edges : List (ℕ × ℕ)) (x y : ℕ) → AreAmong names ((x, y) ∷ edges) → (Joined edges x y → ⊥) →
    part_count names ((x, y) ∷ edges) + 1 ≡ part_count names edges

-- Two lists of edges join the same of the names inside.
abbrev pub JoinAlike : List ℕ → List (ℕ × ℕ) → List (ℕ × ℕ) → Type 0
JoinAlike inside es fs = (x y : ℕ) → is_member ◌==◌ inside x ≡ true → is_member ◌==◌ inside y ≡ true → Joined es x y ↔ Joined fs x y

-- Two lists of edges that join the same of the names inside are interchangeable under further edges between these: the
-- numbers of parts stay as far apart as they were.
abbrev pub ContractionLaw : Type 0
ContractionLaw =
    (names inside : List ℕ) (es fs more : List (ℕ × ℕ)) → AreAmong names es → AreAmong names fs → AreAmong names more → AreAmong inside more →
    JoinAlike inside es fs →
    part_count names (es ++ more) + part_count names fs ≡ part_count names (fs ++ more) + part_count names es

-- Each edge of the one list stands in the other, this way round or the other.
abbrev pub IsAmongEdges : List (ℕ × ℕ) → List (ℕ × ℕ) → Type 0
IsAmongEdges es fs = (x y : ℕ) → Contains es (x, y) → Contains fs (x, y) ⊎ Contains fs (y, x)

-- Order, direction and repetition of the edges do not matter.
abbrev pub SameEdgesLaw : Type 0
SameEdgesLaw =
    (names : List ℕ) (es fs : List (ℕ × ℕ)) → AreAmong names es → AreAmong names fs → IsAmongEdges es fs → IsAmongEdges fs es →
    part_count names es ≡ part_count names fs

-- Order and repetition of the names do not matter.
abbrev pub SameNamesLaw : Type 0
SameNamesLaw =
    (names others : List ℕ) (edges : List (ℕ × ℕ)) → AreAmong names edges → ((x : ℕ) → is_member ◌==◌ names x ≡ is_member ◌==◌ others x) →
    part_count names edges ≡ part_count others edges

-- Other names, one to one, keep the number of parts.
abbrev pub OtherNamesLaw : Type 0
OtherNamesLaw =
    (rename : ℕ → ℕ) (names : List ℕ) (edges : List (ℕ × ℕ)) → AreAmong names edges → IsOneToOne rename names →
    part_count (map rename names) (map (renamed rename) edges) ≡ part_count names edges

-- Two graphs with no name in common have together as many parts as both.
abbrev pub DisjointGraphsLaw : Type 0
DisjointGraphsLaw =
    (names others : List ℕ) (es fs : List (ℕ × ℕ)) → AreAmong names es → AreAmong others fs →
    ((x : ℕ) → is_member ◌==◌ names x ≡ true → is_member ◌==◌ others x ≡ false) →
    part_count (names ++ others) (es ++ fs) ≡ part_count names es + part_count others fs

-- There are as many parts as representatives, whichever are chosen.
abbrev pub AsManyRepresentativesLaw : Type 0
AsManyRepresentativesLaw =
    (names chosen : List ℕ) (edges : List (ℕ × ℕ)) → AreAmong names edges → AreRepresentatives edges names chosen → length chosen ≡ part_count names edges

-- Two names are joined exactly where the least names of their parts are one.
abbrev pub LeastNamesTellLaw : Type 0
LeastNamesTellLaw =
    (names : List ℕ) (edges : List (ℕ × ℕ)) (x y : ℕ) → AreAmong names edges → is_member ◌==◌ names x ≡ true → is_member ◌==◌ names y ≡ true →
    (least_name names edges x ≡ least_name names edges y) ↔ Joined edges x y

-- There are as many parts as names that are the least of their part.
abbrev pub CountByLeastLaw : Type 0
CountByLeastLaw =
    (names : List ℕ) (edges : List (ℕ × ℕ)) → AreAmong names edges →
    part_count names edges ≡ count_by (λ x. least_name names edges x == x) (unique_keys ◌==◌ names)

-- Gluing: of two graphs that share only inner open names, the pattern of both together follows from the first's pattern
-- and the second's edges: the edge from each inner name to its fellow stands in for the first graph.
abbrev pub PatternGluingLaw : Type 0
PatternGluingLaw =
    (names others inner outer : List ℕ) (es fs : List (ℕ × ℕ)) → AreAmong names es → AreAmong others fs → MeetOnlyIn names others inner →
    AllPass (is_member ◌==◌ (others ++ inner)) outer →
    pattern (names ++ others) (es ++ fs) outer ≡ pattern (others ++ inner) (zip inner (pattern names es inner) ++ fs) outer

-- And the closed parts of both are those of the first and those that then close.
abbrev pub ClosedGluingLaw : Type 0
ClosedGluingLaw =
    (names others inner outer : List ℕ) (es fs : List (ℕ × ℕ)) → AreAmong names es → AreAmong others fs → MeetOnlyIn names others inner →
    AllPass (is_member ◌==◌ (others ++ inner)) outer →
    closed_parts (names ++ others) (es ++ fs) outer
    ≡ closed_parts names es inner + closed_parts (others ++ inner) (zip inner (pattern names es inner) ++ fs) outer
