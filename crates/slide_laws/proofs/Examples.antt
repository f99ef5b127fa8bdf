-- The definitions, computed at worked values.
use Rattle.std.proofs.Common.{◌≡◌, true, false, [], ◌∷◌, map, Ok, Err, refl, ℤ, pos, negsuc}
use Rattle.graph_parts.specs.LeastNames.{least_name}
use Rattle.graph_parts.specs.Parts.{part, part_count}
use Rattle.pd_reader.specs.declared.item.Item.TheVariants.{X, Loop}
use Rattle.planar_check.specs.declared.sign.Sign.TheVariants.{Plus, Minus}
use Rattle.planar_check.specs.Places.{other_place}
use Rattle.planar_check.specs.Planar.{face_of, face_count, piece_count, edge_count, wanted_faces}
use Rattle.planar_check.specs.Components.{component_least, least_labels, distinct}
use Rattle.planar_check.specs.Signs.{walk_of, signed_crossings}
use Rattle.planar_check.specs.Framings.{FramedDiagram}
use Rattle.slide_strands.specs.Doubling.{curled}
use Rattle.slide_laws.specs.declared.fault.SlideFault.TheVariants.{NoEdge, SameComponent}
use Rattle.slide_laws.specs.Directed.{directed}
use Rattle.slide_laws.specs.Slides.{SlidDiagram, framed_pieces, slid_pieces, slid_at, slid}
use Rattle.slide_laws.specs.Matrices.{linking_matrix, slide_matrix}

-- the Hopf link
abbrev hopf : ℤ → ℤ → FramedDiagram
hopf s t = record { items = X (2 ∷ 4 ∷ 3 ∷ 1 ∷ []) ∷ X (4 ∷ 2 ∷ 1 ∷ 3 ∷ []) ∷ []; framings = s ∷ t ∷ [] }

-- slid with the framings 0,0
abbrev hopf_slid : SlidDiagram
hopf_slid = record {
  framed = record {
    items = X (5 ∷ 7 ∷ 6 ∷ 5 ∷ []) ∷ X (2 ∷ 4 ∷ 3 ∷ 7 ∷ []) ∷ X (4 ∷ 2 ∷ 8 ∷ 3 ∷ []) ∷ X (8 ∷ 1 ∷ 1 ∷ 6 ∷ []) ∷ [];
    framings = negsuc 1 ∷ pos 0 ∷ [];
  };
  sign = Minus;
  against = false ∷ false ∷ [];
}

hopf_slide : slid (hopf (pos 0) (pos 0)) 1 2 ≡ Ok hopf_slid
unfolding slid framed_pieces directed slid_pieces face_of signed_crossings walk_of other_place distinct least_labels component_least least_name part part_count face_count piece_count edge_count wanted_faces
hopf_slide = refl

hopf_matrix : map (λ i. map (linking_matrix hopf_slid.framed i) (0 ∷ 1 ∷ [])) (0 ∷ 1 ∷ []) ≡ (negsuc 1 ∷ pos 1 ∷ []) ∷ (pos 1 ∷ pos 0 ∷ []) ∷ []
unfolding signed_crossings walk_of other_place least_labels component_least least_name part
hopf_matrix = refl

-- the first row of the matrix of the slide belongs to the first component; the second component is that of the edge 2
hopf_slide_matrix : map (λ i. map (slide_matrix (hopf (pos 0) (pos 0)) 1 2 hopf_slid i) (0 ∷ 1 ∷ [])) (0 ∷ 1 ∷ []) ≡ (pos 1 ∷ pos 0 ∷ []) ∷ (negsuc 0 ∷ pos 1 ∷ []) ∷ []
unfolding least_labels component_least least_name part
hopf_slide_matrix = refl

same_component : slid (hopf (pos 0) (pos 0)) 1 4 ≡ Err SameComponent
unfolding slid framed_pieces directed slid_pieces face_of signed_crossings walk_of other_place distinct least_labels component_least least_name part
same_component = refl

no_edge : slid (hopf (pos 0) (pos 0)) 1 9 ≡ Err (NoEdge 9)
unfolding slid framed_pieces directed slid_pieces face_of signed_crossings walk_of other_place distinct least_labels component_least least_name part
no_edge = refl

-- beside a loop; the first component is then walked against the direction of its old pieces
abbrev beside_loop : FramedDiagram
beside_loop = record { items = X (2 ∷ 5 ∷ 3 ∷ 1 ∷ []) ∷ Loop 4 ∷ X (2 ∷ 1 ∷ 3 ∷ 5 ∷ []) ∷ []; framings = pos 0 ∷ pos 0 ∷ pos 0 ∷ [] }

loop_slide : slid beside_loop 1 3 ≡ Ok (record {
  framed = record {
    items = X (6 ∷ 8 ∷ 1 ∷ 1 ∷ []) ∷ X (2 ∷ 5 ∷ 3 ∷ 8 ∷ []) ∷ Loop 4 ∷ X (2 ∷ 9 ∷ 3 ∷ 5 ∷ []) ∷ X (6 ∷ 7 ∷ 7 ∷ 9 ∷ []) ∷ [];
    framings = pos 0 ∷ pos 0 ∷ pos 0 ∷ [];
  };
  sign = Plus;
  against = true ∷ false ∷ false ∷ [];
})
unfolding slid framed_pieces directed slid_pieces face_of signed_crossings walk_of other_place distinct least_labels component_least least_name part part_count face_count piece_count edge_count wanted_faces
loop_slide = refl

-- with a framing that is one above the writhe: a curl, and four crossings for it
hopf_curl : framed_pieces (hopf (pos 0) (pos 1)) 2 ≡ curled true 2 2 true 5 (directed (hopf (pos 0) (pos 1)).items)
unfolding framed_pieces directed signed_crossings walk_of other_place least_labels component_least least_name part
hopf_curl = refl

hopf_curl_slide : (slid_at (hopf (pos 0) (pos 1)) 1 2 (framed_pieces (hopf (pos 0) (pos 1)) 2) 6 0).framed ≡ record {
  items = X (7 ∷ 11 ∷ 8 ∷ 7 ∷ []) ∷ X (2 ∷ 4 ∷ 3 ∷ 11 ∷ []) ∷ X (4 ∷ 6 ∷ 12 ∷ 3 ∷ []) ∷ X (12 ∷ 10 ∷ 1 ∷ 8 ∷ []) ∷ X (2 ∷ 15 ∷ 13 ∷ 9 ∷ []) ∷ X (1 ∷ 10 ∷ 14 ∷ 15 ∷ []) ∷ X (13 ∷ 16 ∷ 5 ∷ 5 ∷ []) ∷ X (14 ∷ 6 ∷ 9 ∷ 16 ∷ []) ∷ [];
  framings = negsuc 0 ∷ pos 1 ∷ [];
}
unfolding framed_pieces directed slid_pieces signed_crossings walk_of other_place distinct least_labels component_least least_name part
hopf_curl_slide = refl
