-- Parts of a graph. A graph is a list of names, which are numbers and may stand in the list more than once, and a list
-- of edges, each between two names. The part of a name is what is reached from it by joining along the edges, round by
-- round, in as many rounds as there are names (this project's own wording of a connected component, which computes).
-- Edges join names of the list, and x is one of them; an edge to another name joins nothing.
--
--     1 --- 2     3 --- 4     5       names 1 2 3 4 5, edges (1,2) (4,3): three parts, with the least names 1, 3, 5
--
--     leads_to reached y edge      the edge joins y to a name that is reached
--     one_round names edges reached    the names that are reached after one more round
--     part names edges x           the names that are reached from x in as many rounds as there are names
--     is_least names edges x       no name of x's part is smaller than x
--     part_count names edges       how many parts there are: the number of names, each counted once, whose part has no
--                                  smaller name
use Rattle.std.specs.Prelude.{ℕ, zero, suc, Bool, not, ◌==◌, ◌||◌, ◌&&◌, nat_lt, List, [], ◌∷◌, length}
use Rattle.std.specs.List.{count_by, filter, list_any}
use Rattle.std.specs.Set.{is_member, unique_keys}

-- The edge has y at one end and a name that is reached at the other.
abbrev pub leads_to : List ℕ → ℕ → ℕ × ℕ → Bool
leads_to reached y edge = (is_member ◌==◌ reached edge.0 && edge.1 == y) || (is_member ◌==◌ reached edge.1 && edge.0 == y)

-- One round of joining: of the names, those that were reached and those that an edge joins to one of these.
abbrev pub one_round : List ℕ → List (ℕ × ℕ) → List ℕ → List ℕ
one_round names edges reached = filter (λ y. is_member ◌==◌ reached y || list_any (leads_to reached y) edges) names

-- What is reached after so many rounds.
abbrev pub after_rounds : List ℕ → List (ℕ × ℕ) → List ℕ → ℕ → List ℕ
after_rounds names edges reached zero = reached
after_rounds names edges reached (suc rounds) = one_round names edges (after_rounds names edges reached rounds)

-- The part of x: what is reached from it in as many rounds as there are names. (A name that stands twice gives a further
-- round, which reaches nothing new.)
unfoldable pub part : List ℕ → List (ℕ × ℕ) → ℕ → List ℕ
part names edges x = after_rounds names edges (x ∷ []) (length names)

-- No smaller name is in x's part.
abbrev pub is_least : List ℕ → List (ℕ × ℕ) → ℕ → Bool
is_least names edges x = not (list_any (λ y. nat_lt y x) (part names edges x))

-- The number of names, each counted once, whose part has no smaller name.
unfoldable pub part_count : List ℕ → List (ℕ × ℕ) → ℕ
part_count names edges = count_by (is_least (unique_keys ◌==◌ names) edges) (unique_keys ◌==◌ names)
