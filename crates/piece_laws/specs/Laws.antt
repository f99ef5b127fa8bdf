-- The laws of pieces that fit diagrams: arcs close, nodes may be written in any way and stand in any order, a local equality holds
-- wherever its piece stands, also where open names fall together, and so do the plain moves, for all slots of their crossings.
use Rattle.std.specs.Prelude.{◌≡◌, ℕ, suc, ◌+◌, ◌*◌, ◌%◌, ◌==◌, true, List, [], ◌∷◌, ◌++◌, map, length, IsPermutation, pos, negsuc}
use Rattle.std.specs.List.{All, AllPass}
use Rattle.std.specs.Set.{is_member}
use Rattle.graph_parts.specs.Renaming.{replaced}
use Rattle.graph_parts.specs.Laws.{IsAmongEdges}
use Rattle.state_sums.specs.LocalSums.{pattern_sum, SameEverywhere, IsCut, rename, arc, weighted_arc, crossing, AreSkeinNumbers}
use Rattle.state_sums.specs.Networks.{Node, Term, Network, IsNode, names_of}
use Rattle.state_sums.specs.StateSums.{term_edges, value}
use Rattle.root_quantum.specs.Parameters.{Parameters}
use Rattle.root_quantum.specs.QuantumNumbers.{inverse_root, loop_value, twist}
use Rattle.piece_laws.specs.Arcs.{arcs_of, AreClassLabels, closed_classes}
use Rattle.piece_laws.specs.Corners.{of_nodes, corner, corner_weight, curl_corner, curl_arcs, bigon_corners, bigon_arcs, triangle_corners, triangle_moved}
use Rattle.piece_laws.specs.Pieces.{IsPiece, ArePaired}
use Rattle.piece_laws.specs.TurnedNodes.{AreInverse, turned_node, weight_of, without_group}

-- ---- arcs
-- Arcs close: each class of names that arcs join becomes one name, and a class that no other node has becomes a free loop.
abbrev pub ArcsCloseLaw : Type 0
ArcsCloseLaw =
    (m delta free : ℕ) (pairs : List (ℕ × ℕ)) (label : ℕ → ℕ) (rest : List Node) → All IsNode rest → AreClassLabels pairs label →
    value m delta record { nodes = arcs_of pairs ++ rest; free_loops = free }
    ≡ value m delta record { nodes = rename label rest; free_loops = free + closed_classes label pairs (names_of rest) }

-- One arc between names of the rest makes them one: y in the place of x. Read backwards, it cuts a name in two.
abbrev pub ArcJoinsLaw : Type 0
ArcJoinsLaw =
    (m delta free x y : ℕ) (rest : List Node) → All IsNode rest → is_member ◌==◌ (names_of rest) x ≡ true → is_member ◌==◌ (names_of rest) y ≡ true →
    value m delta record { nodes = arc x y ∷ rest; free_loops = free } ≡ value m delta record { nodes = rename (replaced x y) rest; free_loops = free }

-- The weight of an arc is a factor.
abbrev pub WeightIsFactorLaw : Type 0
WeightIsFactorLaw =
    (m delta free w x y : ℕ) (rest : List Node) →
    value m delta record { nodes = weighted_arc w x y ∷ rest; free_loops = free }
    ≡ w * value m delta record { nodes = arc x y ∷ rest; free_loops = free } % m

-- A node with one term of weight 1 is its arcs: one for each pair, either way round, in any order.
abbrev pub NodeOfArcsLaw : Type 0
NodeOfArcsLaw =
    (m delta free group : ℕ) (ends partner : List ℕ) (pairs : List (ℕ × ℕ)) (front back : List Node) (open_names : List ℕ) →
    let term : Term = record { weight = 1; partner = partner } in
    let node : Node = record { group = group; ends = ends; terms = term ∷ [] } in
    IsNode node → All IsNode front → All IsNode back → IsAmongEdges (term_edges node term) pairs → IsAmongEdges pairs (term_edges node term) →
    AllPass (is_member ◌==◌ (names_of (front ++ node ∷ back))) open_names →
    SameEverywhere m delta open_names record { nodes = front ++ node ∷ back; free_loops = free } record { nodes = front ++ (arcs_of pairs ++ back); free_loops = free }

-- ---- nodes written in another way
-- Groups change no value and no sum over patterns, and so no coefficient.
pub record AreWithoutGroups (delta free : ℕ) (nodes others : List Node) : Type 0 where
  pub values : (m : ℕ) → value m delta record { nodes = nodes; free_loops = free } ≡ value m delta record { nodes = others; free_loops = free }
  pub patterns : (open_names : List ℕ) (worth : List ℕ → ℕ) →
      pattern_sum delta record { nodes = nodes; free_loops = free } open_names worth ≡ pattern_sum delta record { nodes = others; free_loops = free } open_names worth

abbrev pub GroupsLaw : Type 0
GroupsLaw = (delta free : ℕ) (nodes others : List Node) → map without_group nodes ≡ map without_group others → AreWithoutGroups delta free nodes others

-- The terms of a node in any order, with equal pairings apart or together: only the weight of each pairing counts, modulo m.
abbrev pub OtherTermsLaw : Type 0
OtherTermsLaw =
    (m delta free group : ℕ) (node : Node) (terms : List Term) (front back : List Node) (open_names : List ℕ) →
    let other : Node = record { group = group; ends = node.ends; terms = terms } in
    IsNode node → IsNode other → All IsNode front → All IsNode back → ((partner : List ℕ) → weight_of node.terms partner % m ≡ weight_of terms partner % m) →
    AllPass (is_member ◌==◌ (names_of (front ++ node ∷ back))) open_names →
    SameEverywhere m delta open_names record { nodes = front ++ node ∷ back; free_loops = free } record { nodes = front ++ other ∷ back; free_loops = free }

-- The ends of a node in any order, with the pairings of its terms.
abbrev pub TurnedNodeLaw : Type 0
TurnedNodeLaw =
    (m delta free : ℕ) (order back_order : ℕ → ℕ) (node : Node) (front back : List Node) (open_names : List ℕ) →
    IsNode node → All IsNode front → All IsNode back → AreInverse (length node.ends) order back_order →
    AllPass (is_member ◌==◌ (names_of (front ++ node ∷ back))) open_names →
    SameEverywhere m delta open_names record { nodes = front ++ node ∷ back; free_loops = free } record { nodes = front ++ turned_node order back_order node ∷ back; free_loops = free }

-- A crossing turned by a quarter, with its weights exchanged, is the same crossing, wherever it stands and whatever its names.
abbrev pub QuarterTurnLaw : Type 0
QuarterTurnLaw =
    (m delta a b w x y z free : ℕ) (front back : List Node) (open_names : List ℕ) → All IsNode front → All IsNode back →
    AllPass (is_member ◌==◌ (names_of (front ++ crossing a b w x y z ∷ back))) open_names →
    SameEverywhere m delta open_names record { nodes = front ++ crossing a b w x y z ∷ back; free_loops = free }
    record { nodes = front ++ crossing b a x y z w ∷ back; free_loops = free }

-- So a crossing is the same told from each of its corners.
abbrev pub AnyCornerLaw : Type 0
AnyCornerLaw =
    (m delta k a b w x y z free : ℕ) (front back : List Node) (open_names : List ℕ) → All IsNode front → All IsNode back →
    AllPass (is_member ◌==◌ (names_of (front ++ corner k a b w x y z ∷ back))) open_names →
    SameEverywhere m delta open_names record { nodes = front ++ corner k a b w x y z ∷ back; free_loops = free }
    record { nodes = front ++ crossing (corner_weight k a b) (corner_weight (suc k) a b) w x y z ∷ back; free_loops = free }

-- ---- pieces in networks
-- The order of a piece's nodes does not matter.
abbrev pub PermutedPieceLaw : Type 0
PermutedPieceLaw =
    (m delta free : ℕ) (nodes permuted : List Node) (open_names : List ℕ) → All IsNode nodes → IsPermutation nodes permuted → AllPass (is_member ◌==◌ (names_of nodes)) open_names →
    SameEverywhere m delta open_names record { nodes = nodes; free_loops = free } record { nodes = permuted; free_loops = free }

-- To be the same everywhere is kept under adding nodes in front and behind, and so between others.
abbrev pub AddedAroundLaw : Type 0
AddedAroundLaw =
    (m delta more : ℕ) (inner outer : List ℕ) (old new : Network) (front back : List Node) → All IsNode old.nodes → All IsNode new.nodes → All IsNode front → All IsNode back →
    IsCut old.nodes (front ++ back) inner → IsCut new.nodes (front ++ back) inner → AllPass (is_member ◌==◌ (names_of (front ++ back) ++ inner)) outer →
    SameEverywhere m delta inner old new →
    SameEverywhere m delta outer record { nodes = front ++ (old.nodes ++ back); free_loops = old.free_loops + more }
    record { nodes = front ++ (new.nodes ++ back); free_loops = new.free_loops + more }

-- A local equality, proved at names that are written out, holds in every network at any names, also where some of the open
-- names become one: wherever each name of the piece then stands twice.
abbrev pub PieceAnywhereLaw : Type 0
PieceAnywhereLaw =
    (m delta more : ℕ) (new_name : ℕ → ℕ) (open_names : List ℕ) (old new : Network) (rest : List Node) →
    All IsNode old.nodes → All IsNode new.nodes → All IsNode rest → IsPiece old.nodes open_names → IsPiece new.nodes open_names →
    ArePaired (map new_name (names_of old.nodes)) (map new_name (names_of old.nodes) ++ names_of rest) →
    ArePaired (map new_name (names_of new.nodes)) (map new_name (names_of new.nodes) ++ names_of rest) →
    SameEverywhere m delta open_names old new →
    value m delta record { nodes = rename new_name old.nodes ++ rest; free_loops = old.free_loops + more }
    ≡ value m delta record { nodes = rename new_name new.nodes ++ rest; free_loops = new.free_loops + more }

-- ---- the plain moves as pieces, at names that are written out
-- A curl counts as its strand times w, which is -a^3.
abbrev pub CurlCornerLaw : Type 0
CurlCornerLaw =
    (m a b delta w : ℕ) → AreSkeinNumbers m a b delta → (w + a * a * a) % m ≡ 0 % m →
    SameEverywhere m delta (0 ∷ 1 ∷ []) (of_nodes (curl_corner a b)) (of_nodes (curl_arcs w))

-- Two strands, the one over the other at both crossings, are pulled apart.
abbrev pub BigonCornersLaw : Type 0
BigonCornersLaw =
    (m a b delta : ℕ) → AreSkeinNumbers m a b delta → SameEverywhere m delta (0 ∷ 1 ∷ 2 ∷ 3 ∷ []) (of_nodes (bigon_corners a b)) (of_nodes bigon_arcs)

-- Of three strands, one that lies over both others is moved over their crossing.
abbrev pub TriangleCornersLaw : Type 0
TriangleCornersLaw =
    (m a b delta : ℕ) → AreSkeinNumbers m a b delta →
    SameEverywhere m delta (0 ∷ 1 ∷ 2 ∷ 3 ∷ 4 ∷ 5 ∷ []) (of_nodes (triangle_corners a b)) (of_nodes (triangle_moved a b))

-- ---- the plain moves in every network: at any names, where each name of the crossings stands twice, and the names may be equal to one
-- another; for all slots of the crossings, and so for both signs and all rotations

-- The first move: a crossing with both slots of a corner joined is its strand times w, which is minus the cube of the corner's weight.
abbrev pub FirstMoveLaw : Type 0
FirstMoveLaw =
    (m a b delta w free k x p q : ℕ) (rest : List Node) → AreSkeinNumbers m a b delta →
    (w + corner_weight k a b * corner_weight k a b * corner_weight k a b) % m ≡ 0 % m → All IsNode rest →
    ArePaired (x ∷ x ∷ p ∷ q ∷ []) ((x ∷ x ∷ p ∷ q ∷ []) ++ names_of rest) →
    value m delta record { nodes = corner k a b x x p q ∷ rest; free_loops = free }
    ≡ w * value m delta record { nodes = arcs_of ((x, p) ∷ (x, q) ∷ []) ++ rest; free_loops = free } % m

-- The second move: of two crossings round a face of two places, one edge of the face is over at both, where the corners' slots are of
-- different parity.
abbrev pub SecondMoveLaw : Type 0
SecondMoveLaw =
    (m a b delta free k l x y p q r s : ℕ) (rest : List Node) → AreSkeinNumbers m a b delta → (k + l) % 2 ≡ 1 → All IsNode rest →
    ArePaired (x ∷ y ∷ r ∷ s ∷ y ∷ x ∷ p ∷ q ∷ []) ((x ∷ y ∷ r ∷ s ∷ y ∷ x ∷ p ∷ q ∷ []) ++ names_of rest) →
    value m delta record { nodes = corner k a b x y r s ∷ corner l a b y x p q ∷ rest; free_loops = free }
    ≡ value m delta record { nodes = arcs_of ((x, q) ∷ (x, r) ∷ (y, p) ∷ (y, s) ∷ []) ++ rest; free_loops = free }

-- The third move: of three crossings round a face of three places, an edge of the face is over at both of its ends, where the corners'
-- slots are not all of one parity.
abbrev pub ThirdMoveLaw : Type 0
ThirdMoveLaw =
    (m a b delta free k l j x y z p q r s t u : ℕ) (rest : List Node) → AreSkeinNumbers m a b delta → ((k % 2 ≡ l % 2) × (l % 2 ≡ j % 2) → ⊥) → All IsNode rest →
    ArePaired (y ∷ z ∷ t ∷ u ∷ x ∷ y ∷ r ∷ s ∷ z ∷ x ∷ p ∷ q ∷ []) ((y ∷ z ∷ t ∷ u ∷ x ∷ y ∷ r ∷ s ∷ z ∷ x ∷ p ∷ q ∷ []) ++ names_of rest) →
    value m delta record { nodes = corner k a b y z t u ∷ corner l a b x y r s ∷ corner j a b z x p q ∷ rest; free_loops = free }
    ≡ value m delta record { nodes = corner k a b s p y z ∷ corner l a b q t x y ∷ corner j a b u r z x ∷ rest; free_loops = free }

-- ---- parameters
-- A, its inverse and delta of any parameters are numbers with which all this holds, and mu_1 and its inverse are the factors of curls.
pub record AreNumbersOf (p : Parameters) : Type 0 where
  pub skein : AreSkeinNumbers p.modulus p.root (inverse_root p) (loop_value p)
  pub positive_curl : (twist p 1 (pos 1) + p.root * p.root * p.root) % p.modulus ≡ 0 % p.modulus
  pub negative_curl : (twist p 1 (negsuc 0) + inverse_root p * inverse_root p * inverse_root p) % p.modulus ≡ 0 % p.modulus
  pub inverse_curls : twist p 1 (pos 1) * twist p 1 (negsuc 0) % p.modulus ≡ 1 % p.modulus

abbrev pub SkeinNumbersLaw : Type 0
SkeinNumbersLaw = (p : Parameters) → AreNumbersOf p
