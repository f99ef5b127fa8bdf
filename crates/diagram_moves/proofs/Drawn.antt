-- Moves on drawn diagrams, with the results that a program gives which was written by faces, from the rules alone.
use Rattle.std.proofs.Common.{◌≡◌, ℕ, ℤ, pos, negsuc, List, [], ◌∷◌, Ok, Err, refl}
use Rattle.graph_parts.specs.LeastNames.{least_name}
use Rattle.graph_parts.specs.Parts.{part}
use Rattle.pd_reader.specs.declared.item.Item.{Item}
use Rattle.pd_reader.specs.declared.item.Item.TheVariants.{X, Loop}
use Rattle.planar_check.specs.declared.sign.Sign.TheVariants as signs
use Rattle.planar_check.specs.Places.{other_place}
use Rattle.planar_check.specs.Planar.{face_of}
use Rattle.diagram_moves.specs.Moves.{move}
use Rattle.diagram_moves.specs.Steps.{Answer}
use Rattle.script_reader.specs.declared.step.Step.TheVariants.{R2, R2Undo, R3, Curl, CurlUndo}
use Rattle.diagram_moves.specs.declared.fault.MoveFault.TheVariants.{NoCrossing, SameEdge, LoopEdge, NotSameFace, NotBigon, NotTriangle, NotCurl}

abbrev x : ℕ → ℕ → ℕ → ℕ → Item
x a b c d = X (a ∷ b ∷ c ∷ d ∷ [])

abbrev done : ℤ → ℕ → List Item → Answer
done curl circle items = Ok record { items = items; factor = record { curl = curl; circle = circle } }

drawn_1 : move (Loop 2 ∷ Loop 1 ∷ []) (R2 1 2) ≡ Err (LoopEdge 1)
unfolding face_of least_name part other_place
drawn_1 = refl

drawn_2 : move (Loop 2 ∷ Loop 1 ∷ []) (Curl 1 signs.Plus) ≡ done (pos 1) 0 (Loop 2 ∷ x 1 1 3 3 ∷ [])
unfolding face_of least_name part other_place
drawn_2 = refl

drawn_3 : move (Loop 2 ∷ Loop 1 ∷ []) (CurlUndo 1) ≡ Err (NoCrossing 1)
unfolding face_of least_name part other_place
drawn_3 = refl

drawn_4 : move (x 1 4 2 5 ∷ x 3 6 4 8 ∷ x 5 2 6 3 ∷ x 1 8 7 7 ∷ []) (R2 7 1) ≡ done (pos 0) 0 (x 1 4 2 5 ∷ x 3 6 4 8 ∷ x 5 2 6 3 ∷ x 12 8 7 10 ∷ x 11 7 1 9 ∷ x 12 10 11 9 ∷ [])
unfolding face_of least_name part other_place
drawn_4 = refl

drawn_5 : move (x 1 4 2 5 ∷ x 3 6 4 8 ∷ x 5 2 6 3 ∷ x 1 8 7 7 ∷ []) (Curl 4 signs.Plus) ≡ done (pos 1) 0 (x 1 4 2 5 ∷ x 3 6 10 8 ∷ x 5 2 6 3 ∷ x 1 8 7 7 ∷ x 4 10 9 9 ∷ [])
unfolding face_of least_name part other_place
drawn_5 = refl

drawn_6 : move (x 1 4 2 5 ∷ x 3 6 4 8 ∷ x 5 2 6 3 ∷ x 1 8 7 7 ∷ []) (CurlUndo 2) ≡ Err NotCurl
unfolding face_of least_name part other_place
drawn_6 = refl

drawn_7 : move (x 1 4 2 5 ∷ x 3 6 4 8 ∷ x 5 2 6 3 ∷ x 1 8 7 7 ∷ []) (R3 3 2 1) ≡ Err NotTriangle
unfolding face_of least_name part other_place
drawn_7 = refl

drawn_8 : move (x 1 4 2 5 ∷ x 3 6 4 8 ∷ x 5 2 6 3 ∷ x 1 8 7 7 ∷ []) (R2Undo 1 3) ≡ Err NotBigon
unfolding face_of least_name part other_place
drawn_8 = refl

drawn_9 : move (Loop 2 ∷ Loop 1 ∷ []) (R2 2 2) ≡ Err SameEdge
unfolding face_of least_name part other_place
drawn_9 = refl

drawn_10 : move (Loop 2 ∷ Loop 1 ∷ []) (Curl 2 signs.Minus) ≡ done (negsuc 0) 0 (x 2 3 3 2 ∷ Loop 1 ∷ [])
unfolding face_of least_name part other_place
drawn_10 = refl

drawn_11 : move (x 1 6 2 5 ∷ x 10 3 5 2 ∷ x 12 8 4 7 ∷ x 8 1 7 4 ∷ x 11 6 12 9 ∷ x 3 10 11 9 ∷ []) (R2 9 10) ≡ Err NotSameFace
unfolding face_of least_name part other_place
drawn_11 = refl

drawn_12 : move (x 1 6 2 5 ∷ x 10 3 5 2 ∷ x 12 8 4 7 ∷ x 8 1 7 4 ∷ x 11 6 12 9 ∷ x 3 10 11 9 ∷ []) (CurlUndo 6) ≡ Err NotCurl
unfolding face_of least_name part other_place
drawn_12 = refl

drawn_13 : move (x 1 6 2 5 ∷ x 10 3 5 2 ∷ x 12 8 4 7 ∷ x 8 1 7 4 ∷ x 11 6 12 9 ∷ x 3 10 11 9 ∷ []) (R3 3 5 4) ≡ Err NotTriangle
unfolding face_of least_name part other_place
drawn_13 = refl

drawn_14 : move (x 1 6 2 5 ∷ x 10 3 5 2 ∷ x 12 8 4 7 ∷ x 8 1 7 4 ∷ x 11 6 12 9 ∷ x 3 10 11 9 ∷ []) (R2Undo 5 4) ≡ Err NotBigon
unfolding face_of least_name part other_place
drawn_14 = refl

drawn_15 : move (x 1 4 2 5 ∷ x 3 6 4 1 ∷ x 5 2 6 3 ∷ []) (R2 3 4) ≡ Err NotSameFace
unfolding face_of least_name part other_place
drawn_15 = refl

drawn_16 : move (x 1 4 2 5 ∷ x 3 6 4 1 ∷ x 5 2 6 3 ∷ []) (CurlUndo 1) ≡ Err NotCurl
unfolding face_of least_name part other_place
drawn_16 = refl

drawn_17 : move (x 1 6 2 5 ∷ x 6 3 5 2 ∷ x 3 8 4 7 ∷ x 8 1 7 4 ∷ []) (R2 2 3) ≡ Err NotSameFace
unfolding face_of least_name part other_place
drawn_17 = refl

drawn_18 : move (x 1 4 2 5 ∷ x 3 6 4 1 ∷ x 10 2 6 8 ∷ x 9 3 5 7 ∷ x 10 8 9 7 ∷ []) (R2Undo 4 5) ≡ done (pos 0) 0 (x 1 4 2 5 ∷ x 3 6 4 1 ∷ x 5 2 6 3 ∷ [])
unfolding face_of least_name part other_place
drawn_18 = refl

drawn_19 : move (x 1 6 2 5 ∷ x 10 3 5 2 ∷ x 3 8 4 7 ∷ x 8 1 7 4 ∷ x 6 10 9 9 ∷ []) (R2 1 5) ≡ done (pos 0) 0 (x 1 6 2 5 ∷ x 10 3 14 2 ∷ x 3 8 4 7 ∷ x 8 12 7 4 ∷ x 6 10 9 9 ∷ x 13 1 5 11 ∷ x 14 12 13 11 ∷ [])
unfolding face_of least_name part other_place
drawn_19 = refl

drawn_20 : move (x 1 6 2 5 ∷ x 6 3 5 2 ∷ x 3 8 4 7 ∷ x 8 1 7 4 ∷ []) (R2 7 3) ≡ done (pos 0) 0 (x 1 6 2 5 ∷ x 6 3 5 2 ∷ x 12 8 4 7 ∷ x 8 1 10 4 ∷ x 11 10 3 9 ∷ x 12 7 11 9 ∷ [])
unfolding face_of least_name part other_place
drawn_20 = refl

drawn_21 : move (x 1 6 2 5 ∷ x 6 3 5 2 ∷ x 3 8 4 7 ∷ x 8 1 7 4 ∷ []) (R2 8 3) ≡ done (pos 0) 0 (x 1 6 2 5 ∷ x 6 3 5 2 ∷ x 12 8 4 7 ∷ x 10 1 7 4 ∷ x 11 8 12 9 ∷ x 3 10 11 9 ∷ [])
unfolding face_of least_name part other_place
drawn_21 = refl

drawn_22 : move (x 1 6 2 5 ∷ x 6 3 12 10 ∷ x 3 8 4 7 ∷ x 8 14 7 4 ∷ x 2 10 9 9 ∷ x 13 12 14 11 ∷ x 1 5 13 11 ∷ []) (R2 8 6) ≡ done (pos 0) 0 (x 1 6 2 5 ∷ x 18 3 12 10 ∷ x 3 8 4 7 ∷ x 16 14 7 4 ∷ x 2 10 9 9 ∷ x 13 12 14 11 ∷ x 1 5 13 11 ∷ x 17 8 18 15 ∷ x 6 16 17 15 ∷ [])
unfolding face_of least_name part other_place
drawn_22 = refl

drawn_23 : move (Loop 2 ∷ Loop 1 ∷ []) (R2 2 1) ≡ Err (LoopEdge 2)
unfolding face_of least_name part other_place
drawn_23 = refl

drawn_24 : move (x 2 4 3 1 ∷ x 6 2 1 3 ∷ x 4 5 5 6 ∷ []) (R2 1 3) ≡ done (pos 0) 0 (x 2 4 3 1 ∷ x 6 2 8 10 ∷ x 4 5 5 6 ∷ x 9 1 3 7 ∷ x 10 8 9 7 ∷ [])
unfolding face_of least_name part other_place
drawn_24 = refl

drawn_25 : move (Loop 2 ∷ x 1 3 5 7 ∷ x 6 3 1 4 ∷ x 7 5 6 4 ∷ []) (R3 1 3 2) ≡ done (pos 0) 0 (Loop 2 ∷ x 6 7 1 6 ∷ x 1 4 5 5 ∷ x 3 4 7 3 ∷ [])
unfolding face_of least_name part other_place
drawn_25 = refl

drawn_26 : move (x 1 4 2 5 ∷ x 3 6 4 12 ∷ x 10 2 6 8 ∷ x 9 3 14 7 ∷ x 10 8 9 7 ∷ x 13 1 5 11 ∷ x 14 12 13 11 ∷ []) (R2 4 6) ≡ done (pos 0) 0 (x 1 4 2 5 ∷ x 3 6 16 12 ∷ x 10 2 18 8 ∷ x 9 3 14 7 ∷ x 10 8 9 7 ∷ x 13 1 5 11 ∷ x 14 12 13 11 ∷ x 17 16 6 15 ∷ x 18 4 17 15 ∷ [])
unfolding face_of least_name part other_place
drawn_26 = refl

drawn_27 : move (x 1 4 2 5 ∷ x 3 6 4 12 ∷ x 10 2 6 8 ∷ x 9 3 14 7 ∷ x 10 8 9 7 ∷ x 13 1 5 11 ∷ x 14 12 13 11 ∷ []) (R2Undo 3 5) ≡ done (pos 0) 0 (x 1 4 2 5 ∷ x 3 6 4 12 ∷ x 6 3 14 2 ∷ x 13 1 5 11 ∷ x 14 12 13 11 ∷ [])
unfolding face_of least_name part other_place
drawn_27 = refl

drawn_28 : move (x 1 1 2 2 ∷ []) (CurlUndo 1) ≡ done (negsuc 0) 0 (Loop 1 ∷ [])
unfolding face_of least_name part other_place
drawn_28 = refl

drawn_29 : move (x 2 4 3 1 ∷ x 4 2 6 3 ∷ x 8 6 5 5 ∷ x 1 7 7 8 ∷ []) (CurlUndo 3) ≡ done (negsuc 0) 0 (x 2 4 3 1 ∷ x 4 2 5 3 ∷ x 1 7 7 5 ∷ [])
unfolding face_of least_name part other_place
drawn_29 = refl

drawn_30 : move (x 2 4 3 1 ∷ x 4 2 6 8 ∷ x 7 1 3 5 ∷ x 8 10 12 5 ∷ x 11 6 7 9 ∷ x 12 10 11 9 ∷ []) (R2 2 4) ≡ done (pos 0) 0 (x 2 4 3 1 ∷ x 16 14 6 8 ∷ x 7 1 3 5 ∷ x 8 10 12 5 ∷ x 11 6 7 9 ∷ x 12 10 11 9 ∷ x 15 14 16 13 ∷ x 4 2 15 13 ∷ [])
unfolding face_of least_name part other_place
drawn_30 = refl

drawn_31 : move (x 1 4 2 5 ∷ x 3 6 4 1 ∷ x 5 8 12 10 ∷ x 2 7 7 8 ∷ x 3 10 9 9 ∷ x 6 11 11 12 ∷ []) (CurlUndo 4) ≡ done (pos 1) 0 (x 1 4 2 5 ∷ x 3 6 4 1 ∷ x 5 2 12 10 ∷ x 3 10 9 9 ∷ x 6 11 11 12 ∷ [])
unfolding face_of least_name part other_place
drawn_31 = refl

drawn_32 : move (x 2 4 3 1 ∷ x 8 6 1 3 ∷ x 7 10 8 5 ∷ x 4 2 7 5 ∷ x 6 9 9 10 ∷ []) (R2 6 7) ≡ done (pos 0) 0 (x 2 4 3 1 ∷ x 8 6 1 3 ∷ x 7 10 8 5 ∷ x 4 2 14 5 ∷ x 12 9 9 10 ∷ x 13 12 7 11 ∷ x 14 6 13 11 ∷ [])
unfolding face_of least_name part other_place
drawn_32 = refl

drawn_33 : move (x 1 6 2 5 ∷ x 10 3 5 2 ∷ x 3 8 4 7 ∷ x 12 1 7 4 ∷ x 11 6 12 9 ∷ x 8 10 11 9 ∷ []) (R2 6 10) ≡ done (pos 0) 0 (x 1 6 2 5 ∷ x 10 3 5 2 ∷ x 3 8 4 7 ∷ x 12 1 7 4 ∷ x 11 14 12 9 ∷ x 8 16 11 9 ∷ x 15 14 16 13 ∷ x 10 6 15 13 ∷ [])
unfolding face_of least_name part other_place
drawn_33 = refl

drawn_34 : move (x 5 1 2 4 ∷ x 1 5 4 6 ∷ x 3 8 2 3 ∷ x 6 7 7 8 ∷ []) (CurlUndo 4) ≡ done (pos 1) 0 (x 5 1 2 4 ∷ x 1 5 4 6 ∷ x 3 6 2 3 ∷ [])
unfolding face_of least_name part other_place
drawn_34 = refl

drawn_35 : move (x 1 2 2 4 ∷ x 1 3 3 4 ∷ []) (CurlUndo 2) ≡ done (pos 1) 0 (x 1 2 2 1 ∷ [])
unfolding face_of least_name part other_place
drawn_35 = refl

drawn_36 : move (x 2 4 3 1 ∷ x 4 8 6 3 ∷ x 7 6 8 5 ∷ x 2 1 12 10 ∷ x 11 10 12 9 ∷ x 7 5 11 9 ∷ []) (R2 12 10) ≡ done (pos 0) 0 (x 2 4 3 1 ∷ x 4 8 6 3 ∷ x 7 6 8 5 ∷ x 2 1 12 10 ∷ x 11 16 14 9 ∷ x 7 5 11 9 ∷ x 15 14 16 13 ∷ x 10 12 15 13 ∷ [])
unfolding face_of least_name part other_place
drawn_36 = refl

drawn_37 : move (Loop 2 ∷ x 1 1 3 3 ∷ []) (CurlUndo 1) ≡ done (negsuc 0) 0 (Loop 2 ∷ Loop 1 ∷ [])
unfolding face_of least_name part other_place
drawn_37 = refl

drawn_38 : move (x 2 4 3 1 ∷ x 4 2 1 6 ∷ x 3 6 5 5 ∷ []) (CurlUndo 3) ≡ done (negsuc 0) 0 (x 2 4 3 1 ∷ x 4 2 1 3 ∷ [])
unfolding face_of least_name part other_place
drawn_38 = refl

drawn_39 : move (x 2 4 3 1 ∷ x 4 2 1 6 ∷ x 3 6 5 5 ∷ []) (R3 1 3 2) ≡ done (pos 0) 0 (x 3 1 5 4 ∷ x 1 6 4 5 ∷ x 2 2 3 6 ∷ [])
unfolding face_of least_name part other_place
drawn_39 = refl

drawn_40 : move (x 1 2 2 1 ∷ []) (CurlUndo 1) ≡ done (pos 1) 0 (Loop 1 ∷ [])
unfolding face_of least_name part other_place
drawn_40 = refl

drawn_41 : move (x 2 4 3 1 ∷ x 4 6 1 3 ∷ x 2 6 5 5 ∷ []) (CurlUndo 3) ≡ done (negsuc 0) 0 (x 2 4 3 1 ∷ x 4 2 1 3 ∷ [])
unfolding face_of least_name part other_place
drawn_41 = refl

drawn_42 : move (x 2 4 3 1 ∷ x 4 6 1 3 ∷ x 2 6 5 5 ∷ []) (R3 1 2 3) ≡ done (pos 0) 0 (x 5 1 2 4 ∷ x 1 5 4 6 ∷ x 3 3 2 6 ∷ [])
unfolding face_of least_name part other_place
drawn_42 = refl

drawn_43 : move (x 2 3 3 2 ∷ x 1 4 4 1 ∷ []) (CurlUndo 1) ≡ done (pos 1) 0 (x 1 4 4 1 ∷ Loop 2 ∷ [])
unfolding face_of least_name part other_place
drawn_43 = refl

drawn_44 : move (x 2 4 3 1 ∷ x 4 6 1 3 ∷ x 2 6 5 5 ∷ []) (R3 3 1 2) ≡ done (pos 0) 0 (x 5 1 2 4 ∷ x 1 5 4 6 ∷ x 3 3 2 6 ∷ [])
unfolding face_of least_name part other_place
drawn_44 = refl

drawn_45 : move (x 1 4 2 5 ∷ x 3 6 4 1 ∷ x 8 2 6 10 ∷ x 9 8 10 7 ∷ x 3 5 9 7 ∷ []) (R3 1 5 2) ≡ done (pos 0) 0 (x 6 5 1 7 ∷ x 9 1 3 2 ∷ x 8 2 6 10 ∷ x 9 8 10 7 ∷ x 4 4 3 5 ∷ [])
unfolding face_of least_name part other_place
drawn_45 = refl

drawn_46 : move (Loop 2 ∷ x 1 3 3 1 ∷ []) (CurlUndo 1) ≡ done (pos 1) 0 (Loop 2 ∷ Loop 1 ∷ [])
unfolding face_of least_name part other_place
drawn_46 = refl

drawn_47 : move (x 2 4 3 1 ∷ x 4 6 1 3 ∷ x 2 6 5 5 ∷ []) (R3 3 2 1) ≡ done (pos 0) 0 (x 5 1 2 4 ∷ x 1 5 4 6 ∷ x 3 3 2 6 ∷ [])
unfolding face_of least_name part other_place
drawn_47 = refl

drawn_48 : move (x 1 6 2 5 ∷ x 6 3 10 2 ∷ x 3 8 4 7 ∷ x 8 1 12 4 ∷ x 11 10 7 9 ∷ x 12 5 11 9 ∷ []) (R3 6 1 4) ≡ done (pos 0) 0 (x 4 5 1 9 ∷ x 6 3 10 2 ∷ x 3 8 4 7 ∷ x 12 2 11 1 ∷ x 11 10 7 9 ∷ x 8 6 12 5 ∷ [])
unfolding face_of least_name part other_place
drawn_48 = refl

drawn_49 : move (x 1 4 2 6 ∷ x 5 1 6 3 ∷ x 2 4 5 3 ∷ []) (R3 3 1 2) ≡ done (pos 0) 0 (x 2 6 5 5 ∷ x 6 3 4 4 ∷ x 1 3 2 1 ∷ [])
unfolding face_of least_name part other_place
drawn_49 = refl

drawn_50 : move (x 1 4 2 2 ∷ x 1 3 3 4 ∷ []) (R2Undo 1 2) ≡ done (pos 0) 0 (Loop 1 ∷ [])
unfolding face_of least_name part other_place
drawn_50 = refl

drawn_51 : move (Loop 2 ∷ x 1 3 7 5 ∷ x 6 5 7 4 ∷ x 3 1 6 4 ∷ []) (R3 3 1 2) ≡ done (pos 0) 0 (Loop 2 ∷ x 7 6 6 3 ∷ x 7 4 1 1 ∷ x 5 4 3 5 ∷ [])
unfolding face_of least_name part other_place
drawn_51 = refl

drawn_52 : move (x 2 4 3 1 ∷ x 4 2 1 6 ∷ x 3 5 5 6 ∷ []) (R3 2 3 1) ≡ done (pos 0) 0 (x 3 1 5 4 ∷ x 1 6 4 5 ∷ x 2 6 3 2 ∷ [])
unfolding face_of least_name part other_place
drawn_52 = refl

drawn_53 : move (x 1 4 2 6 ∷ x 1 3 8 4 ∷ x 7 2 10 5 ∷ x 3 6 7 5 ∷ x 8 9 9 10 ∷ []) (R3 4 2 1) ≡ done (pos 0) 0 (x 8 6 1 5 ∷ x 2 7 1 3 ∷ x 7 2 10 5 ∷ x 4 4 3 6 ∷ x 8 9 9 10 ∷ [])
unfolding face_of least_name part other_place
drawn_53 = refl

drawn_54 : move (x 1 4 2 6 ∷ x 5 1 6 3 ∷ x 2 4 5 3 ∷ []) (R3 3 2 1) ≡ done (pos 0) 0 (x 2 6 5 5 ∷ x 6 3 4 4 ∷ x 1 3 2 1 ∷ [])
unfolding face_of least_name part other_place
drawn_54 = refl

drawn_55 : move (x 1 4 2 2 ∷ x 6 4 3 8 ∷ x 7 6 8 5 ∷ x 3 1 7 5 ∷ []) (R3 4 1 2) ≡ done (pos 0) 0 (x 5 8 1 4 ∷ x 3 2 7 4 ∷ x 7 6 8 5 ∷ x 6 2 3 1 ∷ [])
unfolding face_of least_name part other_place
drawn_55 = refl

drawn_56 : move (x 2 3 5 7 ∷ Loop 1 ∷ x 6 3 2 4 ∷ x 7 5 6 4 ∷ []) (R3 1 3 2) ≡ done (pos 0) 0 (x 6 7 2 6 ∷ Loop 1 ∷ x 2 4 5 5 ∷ x 3 4 7 3 ∷ [])
unfolding face_of least_name part other_place
drawn_56 = refl

drawn_57 : move (x 1 4 2 6 ∷ x 5 1 6 3 ∷ x 2 4 5 3 ∷ []) (R3 2 1 3) ≡ done (pos 0) 0 (x 3 3 1 4 ∷ x 2 2 5 1 ∷ x 5 6 6 4 ∷ [])
unfolding face_of least_name part other_place
drawn_57 = refl

drawn_58 : move (x 1 2 4 6 ∷ x 5 2 1 3 ∷ x 6 4 5 3 ∷ []) (R3 1 3 2) ≡ done (pos 0) 0 (x 5 6 1 5 ∷ x 1 3 4 4 ∷ x 2 3 6 2 ∷ [])
unfolding face_of least_name part other_place
drawn_58 = refl

drawn_59 : move (x 1 4 2 5 ∷ x 3 6 4 8 ∷ x 5 2 6 3 ∷ x 1 7 7 8 ∷ []) (R3 4 2 1) ≡ done (pos 0) 0 (x 7 3 1 4 ∷ x 4 8 5 7 ∷ x 5 2 6 3 ∷ x 2 8 1 6 ∷ [])
unfolding face_of least_name part other_place
drawn_59 = refl

drawn_60 : move (x 1 4 2 5 ∷ x 3 6 4 1 ∷ x 5 10 8 3 ∷ x 9 8 10 7 ∷ x 2 6 9 7 ∷ []) (R3 5 2 1) ≡ done (pos 0) 0 (x 2 3 9 4 ∷ x 4 7 5 6 ∷ x 5 10 8 3 ∷ x 9 8 10 7 ∷ x 1 1 2 6 ∷ [])
unfolding face_of least_name part other_place
drawn_60 = refl

drawn_61 : move (x 1 4 2 5 ∷ x 3 6 10 8 ∷ x 5 2 6 3 ∷ x 1 7 7 12 ∷ x 11 4 12 9 ∷ x 8 10 11 9 ∷ []) (R3 1 5 4) ≡ done (pos 0) 0 (x 7 9 1 4 ∷ x 3 6 10 8 ∷ x 5 2 6 3 ∷ x 2 12 1 11 ∷ x 12 5 7 4 ∷ x 8 10 11 9 ∷ [])
unfolding face_of least_name part other_place
drawn_61 = refl

drawn_62 : move (x 1 4 2 5 ∷ x 3 6 4 1 ∷ x 10 12 6 8 ∷ x 3 7 7 8 ∷ x 11 5 2 9 ∷ x 12 10 11 9 ∷ []) (R3 2 4 3) ≡ done (pos 0) 0 (x 1 4 2 5 ∷ x 7 10 3 6 ∷ x 6 8 1 7 ∷ x 4 8 3 12 ∷ x 11 5 2 9 ∷ x 12 10 11 9 ∷ [])
unfolding face_of least_name part other_place
drawn_62 = refl

drawn_63 : move (x 2 4 3 1 ∷ x 4 2 1 6 ∷ x 3 6 5 5 ∷ []) (R3 3 1 2) ≡ done (pos 0) 0 (x 3 1 5 4 ∷ x 1 6 4 5 ∷ x 2 2 3 6 ∷ [])
unfolding face_of least_name part other_place
drawn_63 = refl

drawn_64 : move (x 2 4 3 1 ∷ x 10 2 1 6 ∷ x 3 8 5 5 ∷ x 9 8 4 7 ∷ x 10 6 9 7 ∷ []) (R3 4 3 1) ≡ done (pos 0) 0 (x 3 9 5 4 ∷ x 10 2 1 6 ∷ x 2 7 3 8 ∷ x 4 5 1 8 ∷ x 10 6 9 7 ∷ [])
unfolding face_of least_name part other_place
drawn_64 = refl

drawn_65 : move (x 2 4 3 1 ∷ x 4 2 8 6 ∷ x 7 6 10 5 ∷ x 12 3 7 5 ∷ x 11 8 1 9 ∷ x 12 10 11 9 ∷ []) (R3 3 4 6) ≡ done (pos 0) 0 (x 2 4 3 1 ∷ x 4 2 8 6 ∷ x 10 5 9 3 ∷ x 11 5 12 6 ∷ x 11 8 1 9 ∷ x 7 7 12 10 ∷ [])
unfolding face_of least_name part other_place
drawn_65 = refl
