-- The definitions, computed: the worked rows of moves.
use Rattle.std.proofs.Common.{◌≡◌, ℕ, ℤ, pos, negsuc, List, [], ◌∷◌, map, Ok, Err, refl}
use Rattle.graph_parts.specs.LeastNames.{least_name}
use Rattle.std.specs.List.{range_with_len}
use Rattle.graph_parts.specs.Parts.{part, part_count}
use Rattle.pd_reader.specs.declared.item.Item.{Item}
use Rattle.pd_reader.specs.declared.item.Item.TheVariants.{X, Loop}
use Rattle.pd_reader.specs.Torus.{torus_items}
use Rattle.planar_check.specs.declared.sign.Sign.TheVariants as signs
use Rattle.planar_check.specs.Components.{component_least, least_labels}
use Rattle.planar_check.specs.Places.{other_place}
use Rattle.planar_check.specs.Planar.{face_count, wanted_faces, piece_count, edge_count}
use Rattle.diagram_brackets.specs.Brackets.{loop_count}
use Rattle.state_sums.specs.StateSums.{value}
use Rattle.diagram_moves.proofs.Nodes.{nodes_of}
use Rattle.planar_check.specs.Planar.{face_of}
use Rattle.diagram_moves.specs.Anchors.{applied_coloured}
use Rattle.diagram_moves.specs.Moves.{move}
use Rattle.diagram_moves.specs.Scripts.{played}
use Rattle.script_reader.specs.declared.step.Step.TheVariants.{R2, R2Undo, R3, Curl, CurlUndo, BlowUp}
use Rattle.diagram_moves.specs.declared.fault.MoveFault.TheVariants.{NoEdge, NoCrossing, SameEdge, LoopEdge, NotSameFace, NotBigon, NotTriangle, NotCurl, TooMany, AnchorInside}
use Rattle.diagram_moves.specs.Steps.{Answer, Moved}

abbrev x : ℕ → ℕ → ℕ → ℕ → Item
x a b c d = X (a ∷ b ∷ c ∷ d ∷ [])

-- the result of a move with this factor
abbrev done : ℤ → ℕ → List Item → Answer
done curl circle items = Ok record { items = items; factor = record { curl = curl; circle = circle } }

abbrev trefoil : List Item
trefoil = x 1 4 2 5 ∷ x 3 6 4 1 ∷ x 5 2 6 3 ∷ []

abbrev pushed_trefoil : List Item
pushed_trefoil = x 1 4 2 5 ∷ x 3 6 4 8 ∷ x 5 2 6 10 ∷ x 9 1 10 7 ∷ x 3 8 9 7 ∷ []

push_1_over_3 : move trefoil (R2 1 3) ≡ done (pos 0) 0 pushed_trefoil
unfolding face_of least_name part other_place
push_1_over_3 = refl

pull_apart : move pushed_trefoil (R2Undo 4 5) ≡ done (pos 0) 0 trefoil
pull_apart = refl

curl_1 : move trefoil (Curl 1 signs.Plus) ≡ done (pos 1) 0 (x 1 4 2 5 ∷ x 3 6 4 8 ∷ x 5 2 6 3 ∷ x 1 8 7 7 ∷ [])
unfolding other_place
curl_1 = refl

abbrev with_triangle : List Item
with_triangle = x 2 5 4 1 ∷ x 3 3 6 5 ∷ x 6 2 1 4 ∷ []

slid_over : move with_triangle (R3 1 2 3) ≡ done (pos 0) 0 (x 4 3 2 5 ∷ x 6 5 1 1 ∷ x 3 4 6 2 ∷ [])
slid_over = refl

uncurled : move (x 4 3 2 5 ∷ x 6 5 1 1 ∷ x 3 4 6 2 ∷ []) (CurlUndo 2) ≡ done (negsuc 0) 0 (x 4 3 2 1 ∷ x 3 4 1 2 ∷ [])
uncurled = refl

same_edge : move trefoil (R2 1 1) ≡ Err SameEdge
same_edge = refl

no_edge : move trefoil (R2 1 9) ≡ Err (NoEdge 9)
no_edge = refl

not_same_face : move trefoil (R2 1 6) ≡ Err NotSameFace
unfolding face_of least_name part other_place
not_same_face = refl

not_bigon : move trefoil (R2Undo 1 2) ≡ Err NotBigon
not_bigon = refl

not_curl : move trefoil (CurlUndo 1) ≡ Err NotCurl
not_curl = refl

no_crossing : move trefoil (CurlUndo 4) ≡ Err (NoCrossing 4)
no_crossing = refl

loop_edge : move (x 1 1 2 2 ∷ Loop 3 ∷ []) (R2 1 3) ≡ Err (LoopEdge 3)
loop_edge = refl

not_triangle : move trefoil (R3 1 2 3) ≡ Err NotTriangle
not_triangle = refl

blown_up : move (Loop 1 ∷ []) (BlowUp signs.Plus) ≡ done (pos 0) 1 (Loop 1 ∷ Loop 2 ∷ [])
blown_up = refl

blown_from_nothing : move [] (BlowUp signs.Minus) ≡ done (pos 0) 1 (Loop 1 ∷ [])
blown_from_nothing = refl

-- a Loop with a curl, and without it again
curled_loop_1 : move (Loop 1 ∷ []) (Curl 1 signs.Minus) ≡ done (negsuc 0) 0 (x 1 2 2 1 ∷ [])
curled_loop_1 = refl

loop_again : move (x 1 2 2 1 ∷ []) (CurlUndo 1) ≡ done (pos 1) 0 (Loop 1 ∷ [])
loop_again = refl

-- two Loops that lie over one another
two_loops : move (x 1 2 3 4 ∷ x 3 2 1 4 ∷ []) (R2Undo 1 2) ≡ done (pos 0) 0 (Loop 1 ∷ Loop 2 ∷ [])
two_loops = refl

-- ---- the brackets of rows of moves, at 41, 2 and 5: A^-1 is 21, and a loop is worth 6
abbrev bracket_at_41 : List Item → ℕ
bracket_at_41 items = value 41 6 record { nodes = nodes_of 2 21 items; free_loops = loop_count items }

trefoil_value : bracket_at_41 trefoil ≡ 10
unfolding value part_count part
trefoil_value = refl

pushed_value : bracket_at_41 pushed_trefoil ≡ 10
unfolding value part_count part
pushed_value = refl

curled_value : bracket_at_41 (x 1 4 2 5 ∷ x 3 6 4 8 ∷ x 5 2 6 3 ∷ x 1 8 7 7 ∷ []) ≡ 2
unfolding value part_count part
curled_value = refl

triangle_value : bracket_at_41 with_triangle ≡ 33
unfolding value part_count part
triangle_value = refl

slid_value : bracket_at_41 (x 4 3 2 5 ∷ x 6 5 1 1 ∷ x 3 4 6 2 ∷ []) ≡ 33
unfolding value part_count part
slid_value = refl

uncurled_value : bracket_at_41 (x 4 3 2 1 ∷ x 3 4 1 2 ∷ []) ≡ 1
unfolding value part_count part
uncurled_value = refl

too_many : move (map Loop (range_with_len 1 256)) (BlowUp signs.Plus) ≡ Err (TooMany 256)
too_many = refl

-- a torus link of 256 crossings has no room for a curl
no_room : move (torus_items 256) (Curl 1 signs.Minus) ≡ Err (TooMany 256)
unfolding other_place
no_room = refl

-- ---- scripts
abbrev made : ℤ → List Item → Moved
made curl items = record { items = items; factor = record { curl = curl; circle = 0 } }

pushed_pulled_curled : played 1 trefoil (R2 1 3 ∷ R2Undo 4 5 ∷ Curl 1 signs.Plus ∷ [])
    ≡ Ok (made (pos 0) pushed_trefoil ∷ made (pos 0) trefoil ∷ made (pos 1) (x 1 4 2 5 ∷ x 3 6 4 8 ∷ x 5 2 6 3 ∷ x 1 8 7 7 ∷ []) ∷ [])
unfolding face_of least_name part part_count other_place face_count wanted_faces piece_count edge_count
pushed_pulled_curled = refl

slid_and_uncurled : played 1 with_triangle (R3 1 2 3 ∷ CurlUndo 2 ∷ []) ≡ Ok (made (pos 0) (x 4 3 2 5 ∷ x 6 5 1 1 ∷ x 3 4 6 2 ∷ []) ∷ made (negsuc 0) (x 4 3 2 1 ∷ x 3 4 1 2 ∷ []) ∷ [])
unfolding part part_count other_place face_count wanted_faces piece_count edge_count
slid_and_uncurled = refl

refused_at_1 : played 1 trefoil (R3 1 2 3 ∷ Curl 1 signs.Plus ∷ []) ≡ Err (1, NotTriangle)
refused_at_1 = refl

-- ---- boxes inside steps
inside_curl : applied_coloured (x 1 1 2 2 ∷ []) (2 ∷ []) (CurlUndo 1) ≡ Err (AnchorInside 1)
unfolding least_labels component_least least_name part part_count other_place face_count wanted_faces piece_count edge_count
inside_curl = refl

no_box_at_all : applied_coloured (x 1 1 2 2 ∷ []) (1 ∷ []) (CurlUndo 1) ≡ done (negsuc 0) 0 (Loop 1 ∷ [])
unfolding least_labels component_least least_name part part_count other_place face_count wanted_faces piece_count edge_count
no_box_at_all = refl

-- the second component's box
inside_second : applied_coloured (Loop 1 ∷ x 2 2 3 3 ∷ []) (2 ∷ 2 ∷ []) (CurlUndo 1) ≡ Err (AnchorInside 2)
unfolding least_labels component_least least_name part part_count other_place face_count wanted_faces piece_count edge_count
inside_second = refl

-- other refusals come before
refused_anyway : applied_coloured (x 1 1 2 2 ∷ []) (2 ∷ []) (CurlUndo 2) ≡ Err (NoCrossing 2)
unfolding least_labels component_least least_name part
refused_anyway = refl
