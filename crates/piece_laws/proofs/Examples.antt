-- The definitions computed, and the laws at worked instances: the premises can be met, and open names of a real diagram coincide. The
-- modulus is 41, A is 2, its inverse 21, and a loop is worth 6.
use Rattle.std.proofs.Common.{◌≡◌, ◌*◌, ◌%◌, ◌+◌, [], ◌∷◌, ◌++◌, refl, arith}
use Rattle.std.proofs.lemmas.List.Elements.{All-nil}
use Rattle.graph_parts.specs.LeastNames.{least_label}
use Rattle.graph_parts.specs.Parts.{part, part_count}
use Rattle.state_sums.specs.LocalSums.{crossing, AreSkeinNumbers}
use Rattle.state_sums.specs.Networks.{IsNode}
use Rattle.state_sums.specs.StateSums.{value}
use Rattle.piece_laws.specs.Arcs.{arcs_of, closed_classes}
use Rattle.piece_laws.specs.Corners.{corner, corner_weight}
use Rattle.piece_laws.specs.TurnedNodes.{turned_partner, weight_of}
use Rattle.piece_laws.proofs.PlainMoves.{first_move, second_move}
use Rattle.piece_laws.proofs.ThirdMove.{third_move}
use Rattle.piece_laws.proofs.WrittenPieces.{ArePaired-from_test}

-- of the classes 1,2,3 and 4 the other names 3, 5 have one: 4 closes
one_closes : closed_classes (least_label ((1, 2) ∷ (2, 3) ∷ (4, 4) ∷ [])) ((1, 2) ∷ (2, 3) ∷ (4, 4) ∷ []) (3 ∷ 5 ∷ []) ≡ 1
one_closes = refl

-- a curl whose strand is closed by two arcs, and an arc that is a loop
with_arcs : value 41 6 record { nodes = arcs_of ((1, 3) ∷ (4, 4) ∷ []) ++ crossing 2 21 3 1 2 2 ∷ []; free_loops = 0 }
    ≡ value 41 6 record { nodes = crossing 2 21 1 1 2 2 ∷ []; free_loops = 1 }
unfolding value part_count part
with_arcs = refl

-- a quarter turn of the pairing of 0 with 1 and 2 with 3
quarter : turned_partner 4 (λ i. (i + 1) % 4) (λ i. (i + 3) % 4) (1 ∷ 0 ∷ 3 ∷ 2 ∷ []) ≡ 3 ∷ 2 ∷ 1 ∷ 0 ∷ []
quarter = refl

-- two terms with one pairing weigh together
together : weight_of (record { weight = 2; partner = 1 ∷ 0 ∷ [] } ∷ record { weight = 21; partner = 1 ∷ 0 ∷ [] } ∷ []) (1 ∷ 0 ∷ []) ≡ 23
together = refl

-- slot 3 is w, and the slots after it begin again
last_corner : corner 3 2 21 7 8 9 10 ≡ crossing 2 21 8 9 10 7
last_corner = refl

odd_corner : corner_weight 3 2 21 ≡ 21
odd_corner = refl

numbers : AreSkeinNumbers 41 2 21 6
numbers = record { inverse = refl; loop = refl }

-- THE DIAGRAM X[1,1,2,2]: both ends of the curl are called 2. Its factor is -8, which is 33; its arcs make a loop, and 33 times 6 is 34.
one_curl : value 41 6 record { nodes = crossing 2 21 1 1 2 2 ∷ []; free_loops = 0 } ≡ 33 * value 41 6 record { nodes = arcs_of ((1, 2) ∷ (1, 2) ∷ []); free_loops = 0 } % 41
one_curl = first_move 41 2 21 6 33 0 0 1 2 2 [] numbers refl (All-nil IsNode) (ArePaired-from_test (1 ∷ 1 ∷ 2 ∷ 2 ∷ []) (1 ∷ 1 ∷ 2 ∷ 2 ∷ []) refl)

one_curl_value : value 41 6 record { nodes = crossing 2 21 1 1 2 2 ∷ []; free_loops = 0 } ≡ 34
unfolding value part_count part
one_curl_value = refl

-- the diagram X[2,1,1,2], told from its corner at slot 1: the other curl, with the factor -21^3, which is 5
other_curl : value 41 6 record { nodes = crossing 2 21 2 1 1 2 ∷ []; free_loops = 0 } ≡ 5 * value 41 6 record { nodes = arcs_of ((1, 2) ∷ (1, 2) ∷ []); free_loops = 0 } % 41
other_curl = first_move 41 2 21 6 5 0 1 1 2 2 [] numbers refl (All-nil IsNode) (ArePaired-from_test (1 ∷ 1 ∷ 2 ∷ 2 ∷ []) (1 ∷ 1 ∷ 2 ∷ 2 ∷ []) refl)

-- THE DIAGRAM X[4,1,2,4], X[2,1,3,3] of the unknot: a bigon between 1 and 2, two of whose ends are called 3 and two 4
bigon : value 41 6 record { nodes = crossing 2 21 4 1 2 4 ∷ crossing 2 21 2 1 3 3 ∷ []; free_loops = 0 }
    ≡ value 41 6 record { nodes = arcs_of ((1, 3) ∷ (1, 4) ∷ (2, 3) ∷ (2, 4) ∷ []); free_loops = 0 }
bigon =
    second_move 41 2 21 6 0 1 0 1 2 3 3 4 4 [] numbers refl (All-nil IsNode)
    (ArePaired-from_test (1 ∷ 2 ∷ 4 ∷ 4 ∷ 2 ∷ 1 ∷ 3 ∷ 3 ∷ []) (1 ∷ 2 ∷ 4 ∷ 4 ∷ 2 ∷ 1 ∷ 3 ∷ 3 ∷ []) refl)

-- THE DIAGRAM X[5,2,3,6], X[4,1,2,5], X[3,1,4,6] of three crossings: a triangle of 1, 2 and 3, whose six ends are called 4, 5 and 6, each twice
triangle : value 41 6 record { nodes = crossing 2 21 5 2 3 6 ∷ crossing 2 21 4 1 2 5 ∷ crossing 2 21 3 1 4 6 ∷ []; free_loops = 0 }
    ≡ value 41 6 record { nodes = crossing 2 21 3 4 4 2 ∷ crossing 2 21 2 6 6 1 ∷ crossing 2 21 5 5 3 1 ∷ []; free_loops = 0 }
triangle =
    third_move 41 2 21 6 0 1 1 0 1 2 3 4 6 5 4 6 5 [] numbers (λ (h : (1 ≡ 1) × (1 ≡ 0)). (let e = h.1 in omega (arith, e))) (All-nil IsNode)
    (ArePaired-from_test (2 ∷ 3 ∷ 6 ∷ 5 ∷ 1 ∷ 2 ∷ 5 ∷ 4 ∷ 3 ∷ 1 ∷ 4 ∷ 6 ∷ []) (2 ∷ 3 ∷ 6 ∷ 5 ∷ 1 ∷ 2 ∷ 5 ∷ 4 ∷ 3 ∷ 1 ∷ 4 ∷ 6 ∷ []) refl)
