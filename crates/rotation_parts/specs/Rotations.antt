-- Rotation systems: names (the places of a diagram, or the darts of a graph), a permutation of the names that turns
-- each to the next one counterclockwise at its vertex, and edges, each between two names. A face is a cycle of: cross the edge,
-- then turn. A system of V vertices, E edges and k pieces is flat where it has E - V + 2k faces.
--
--     exchanged a b x            b for a, a for b, else x
--     across edges x             the name across the edge of x; x itself where it has none
--     steps next names           each name with the one that follows it
--     cycle_count names next     how many cycles the permutation has
--     faces_of names turn edges  how many faces
--     pieces_of names turn edges how many pieces
--     IsFlat names turn edges    V + F = E + 2k
--     IsPermutation names next back    next permutes the names, and back undoes it
--     pair_graph names turn other      the graph of pieces, where the edges are given by each name's other one
--     paired_edges other names         these edges as a list; IsPairing n other: they pair the names below n
--     IsFlatWith m names turn other    F = m + 2k, where the pairing is a function; in a flat system m is E - V
--
-- The names 0 1 2 3 that turn in one cycle, with the edges (0,1) (2,3): V 1, E 2, k 1 and F 3: flat. With (0,2) (1,3) F is 1.
use Rattle.std.specs.Prelude.{◌≡◌, ◌≢◌, ◌<◌, nat_lt, ℕ, ◌+◌, ◌*◌, ◌==◌, if◌then◌else◌, true, List, [], ◌∷◌, ◌++◌, length, map}
use Rattle.std.specs.Set.{is_member}
use Rattle.graph_parts.specs.Parts.{part_count}

-- b for a, a for b
abbrev pub exchanged : ℕ → ℕ → ℕ → ℕ
exchanged a b x = if x == a then b else (if x == b then a else x)

-- the name across the edge of x
abbrev pub across : List (ℕ × ℕ) → ℕ → ℕ
across [] x = x
across (edge ∷ edges) x = across edges (exchanged edge.0 edge.1 x)

-- each name with the one that follows it
abbrev pub steps : (ℕ → ℕ) → List ℕ → List (ℕ × ℕ)
steps next names = map (λ p. (p, next p)) names

-- how many cycles the permutation has
abbrev pub cycle_count : List ℕ → (ℕ → ℕ) → ℕ
cycle_count names next = part_count names (steps next names)

-- the name that follows x in its face
abbrev pub follower : (ℕ → ℕ) → List (ℕ × ℕ) → ℕ → ℕ
follower turn edges x = turn (across edges x)

-- how many faces
abbrev pub faces_of : List ℕ → (ℕ → ℕ) → List (ℕ × ℕ) → ℕ
faces_of names turn edges = cycle_count names (follower turn edges)

-- how many pieces
abbrev pub pieces_of : List ℕ → (ℕ → ℕ) → List (ℕ × ℕ) → ℕ
pieces_of names turn edges = part_count names (edges ++ steps turn names)

-- V + F = E + 2k
abbrev pub IsFlat : List ℕ → (ℕ → ℕ) → List (ℕ × ℕ) → Type 0
IsFlat names turn edges = cycle_count names turn + faces_of names turn edges ≡ length edges + 2 * pieces_of names turn edges

-- next permutes the names, and back undoes it
pub record IsPermutation (names : List ℕ) (next back : ℕ → ℕ) : Type 0 where
  pub inside : (x : ℕ) → is_member ◌==◌ names x ≡ true → is_member ◌==◌ names (next x) ≡ true
  pub inside_back : (x : ℕ) → is_member ◌==◌ names x ≡ true → is_member ◌==◌ names (back x) ≡ true
  pub undone : (x : ℕ) → is_member ◌==◌ names x ≡ true → back (next x) ≡ x
  pub done_again : (x : ℕ) → is_member ◌==◌ names x ≡ true → next (back x) ≡ x

-- the graph of pieces, where the pairing is a function: each name with the other one of its edge, and with the next of its vertex
abbrev pub pair_graph : List ℕ → (ℕ → ℕ) → (ℕ → ℕ) → List (ℕ × ℕ)
pair_graph names turn other = steps other names ++ steps turn names

-- each edge of a pairing of the names below n with one another, at its lesser name
abbrev pub paired_edges : (ℕ → ℕ) → List ℕ → List (ℕ × ℕ)
paired_edges other [] = []
paired_edges other (p ∷ names) = if nat_lt p (other p) then (p, other p) ∷ paired_edges other names else paired_edges other names

-- each name below n has another one
pub record IsPairing (n : ℕ) (other : ℕ → ℕ) : Type 0 where
  pub low : (p : ℕ) → p < n → other p < n
  pub apart : (p : ℕ) → p < n → other p ≢ p
  pub twice : (p : ℕ) → p < n → other (other p) ≡ p

-- the same of a list of names
pub record IsPairingOf (names : List ℕ) (other : ℕ → ℕ) : Type 0 where
  pub inside : (x : ℕ) → is_member ◌==◌ names x ≡ true → is_member ◌==◌ names (other x) ≡ true
  pub apart : (x : ℕ) → is_member ◌==◌ names x ≡ true → other x ≢ x
  pub twice : (x : ℕ) → is_member ◌==◌ names x ≡ true → other (other x) ≡ x

-- F = m + 2k, where the pairing is a function; in a flat system m is E - V
abbrev pub IsFlatWith : ℕ → List ℕ → (ℕ → ℕ) → (ℕ → ℕ) → Type 0
IsFlatWith m names turn other = cycle_count names (λ x. turn (other x)) ≡ m + 2 * part_count names (pair_graph names turn other)
