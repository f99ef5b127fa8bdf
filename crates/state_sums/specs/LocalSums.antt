-- Pieces of networks, and how they count in every surrounding network (Kauffman and Lins: skein modules of a ball with
-- boundary points; here for any nodes). A piece is a list of nodes with free loops, whose names may stand once: those are
-- open, and others join them. A state of a piece joins its open names by a pattern and closes loops.
--
--     pattern_sum delta piece open_names worth          over all states of the piece, the weights times delta to the closed
--                                                       loops, times what the state's pattern of the open names is worth
--     coefficient delta piece open_names wanted         the same, over the states with the wanted pattern
--     SameEverywhere m delta open_names old new         modulo m the two pieces have one coefficient at each pattern
--     IsCut nodes rest open_names                       the nodes meet the rest in open names alone, and have each of these
--     open_names_in names                               the names that stand once in the list: those are open
--     open_of nodes                                     the names that are open in the nodes
--     rest_sum delta rest more inner outer worth found  what the rest comes to where the edges of a found pattern of the
--                                                       inner open names stand in for a piece, and outer names are open
--     rename new_name nodes                             the nodes with other names
--     arc x y                                           a node with one pair and the weight 1: it makes x and y one
--     weighted_arc w x y                                the same with the weight w
--     crossing a b w x y z                              a crossing: weight a on the pairs wx and yz, weight b on wz and xy
--     AreSkeinNumbers m a b delta                       b is the inverse of a, and delta is -a^2 - b^2, modulo m
use Rattle.std.specs.Prelude.{◌≡◌, ℕ, ◌+◌, ◌*◌, ◌^◌, ◌%◌, ◌==◌, if◌then◌else◌, List, [], ◌∷◌, ◌++◌, map}
use Rattle.std.specs.List.{sum_by, filter, zip}
use Rattle.std.specs.Str.{bytes_eq}
use Rattle.graph_parts.specs.Patterns.{pattern, closed_parts, MeetOnlyIn}
use Rattle.state_sums.specs.Networks.{Node, Network, names_of}
use Rattle.state_sums.specs.StateSums.{states, state_edges, state_weight}
use Rattle.list_lemmas.specs.Times.{times_in}

-- Over all states, where a pattern of the open names counts as the worth says.
unfoldable pub pattern_sum : ℕ → Network → List ℕ → (List ℕ → ℕ) → ℕ
pattern_sum delta piece open_names worth =
    sum_by
    (λ state.
    state_weight state
    * (delta ^ (closed_parts (names_of piece.nodes) (state_edges piece.nodes state) open_names + piece.free_loops)
    * worth (pattern (names_of piece.nodes) (state_edges piece.nodes state) open_names)))
    (states piece.nodes)

-- Over the states with the wanted pattern.
abbrev pub coefficient : ℕ → Network → List ℕ → List ℕ → ℕ
coefficient delta piece open_names wanted = pattern_sum delta piece open_names (λ found. if bytes_eq wanted found then 1 else 0)

-- The two pieces have one coefficient at each pattern.
pub record SameEverywhere (m delta : ℕ) (open_names : List ℕ) (old new : Network) : Type 0 where
  pub at : (wanted : List ℕ) → coefficient delta old open_names wanted % m ≡ coefficient delta new open_names wanted % m

-- The nodes meet the rest in open names alone, and have each of those.
abbrev pub IsCut : List Node → List Node → List ℕ → Type 0
IsCut nodes rest open_names = MeetOnlyIn (names_of nodes) (names_of rest) open_names

-- The names that stand once.
abbrev pub open_names_in : List ℕ → List ℕ
open_names_in names = filter (λ x. times_in names x == 1) names

-- The open names of the nodes.
abbrev pub open_of : List Node → List ℕ
open_of nodes = open_names_in (names_of nodes)

-- Over the states of the rest, where the edges from each inner open name to its fellow in the found pattern stand in for a
-- piece.
abbrev pub rest_sum : ℕ → List Node → ℕ → List ℕ → List ℕ → (List ℕ → ℕ) → List ℕ → ℕ
rest_sum delta rest more inner outer worth found =
    sum_by
    (λ state.
    state_weight state
    * (delta ^ (closed_parts (names_of rest ++ inner) (zip inner found ++ state_edges rest state) outer + more)
    * worth (pattern (names_of rest ++ inner) (zip inner found ++ state_edges rest state) outer)))
    (states rest)

-- The nodes with other names.
abbrev pub rename : (ℕ → ℕ) → List Node → List Node
rename new_name nodes = map (λ node. record { group = node.group; ends = map new_name node.ends; terms = node.terms }) nodes

abbrev pub weighted_arc : ℕ → ℕ → ℕ → Node
weighted_arc w x y = record { group = 0; ends = x ∷ y ∷ []; terms = record { weight = w; partner = 1 ∷ 0 ∷ [] } ∷ [] }

-- One pair, of weight 1.
abbrev pub arc : ℕ → ℕ → Node
arc x y = weighted_arc 1 x y

-- Weight a on the pairs wx and yz, weight b on wz and xy.
abbrev pub crossing : ℕ → ℕ → ℕ → ℕ → ℕ → ℕ → Node
crossing a b w x y z = record {
  group = 0;
  ends = w ∷ x ∷ y ∷ z ∷ [];
  terms = record { weight = a; partner = 1 ∷ 0 ∷ 3 ∷ 2 ∷ [] } ∷ record { weight = b; partner = 3 ∷ 2 ∷ 1 ∷ 0 ∷ [] } ∷ [];
}

-- b is the inverse of a, and delta is -a^2 - b^2.
pub record AreSkeinNumbers (m a b delta : ℕ) : Type 0 where
  pub inverse : (a * b) % m ≡ 1 % m
  pub loop : (delta + a * a + b * b) % m ≡ 0 % m
