-- The definitions, computed at worked values.
use Rattle.std.proofs.Common.{◌≡◌, ℕ, ◌^◌, true, false, List, [], ◌∷◌, map, Some, None, refl, pos, negsuc}
use Rattle.std.specs.List.{range_with_len}
use Rattle.planar_check.specs.declared.fault.PlanarFault.TheVariants.{NotPlanar}
use Rattle.pd_reader.specs.declared.item.Item.{Item}
use Rattle.pd_reader.specs.declared.item.Item.TheVariants.{X, Loop}
use Rattle.pd_reader.specs.declared.item.NetItem.TheVariants.{Y}
use Rattle.graph_parts.specs.Parts.{part_count, part}
use Rattle.planar_check.specs.Places.{item_slots, net_item_slots, labels_by_place, first_place, slots_after, other_place, other_places}
use Rattle.graph_parts.specs.LeastNames.{least_name}
use Rattle.planar_check.specs.Components.{component_least, least_labels, component_of}
use Rattle.planar_check.specs.Signs.{walk_of, enters, signed_crossings, sign_sum, writhe, halved, linking}
use Rattle.planar_check.specs.Directions.{reversed_on, orientation, sign_sum_by}
use Rattle.planar_check.specs.Framings.{first_large, linking_entry}
use Rattle.planar_check.specs.Faces.{faces}
use Rattle.planar_check.specs.Planar.{next_in_face, face_of, face_count, piece_count, edge_count, wanted_faces, planar_refusal}

-- the left-handed trefoil
abbrev trefoil : List (List ℕ)
trefoil = (1 ∷ 4 ∷ 2 ∷ 5 ∷ []) ∷ (3 ∷ 6 ∷ 4 ∷ 1 ∷ []) ∷ (5 ∷ 2 ∷ 6 ∷ 3 ∷ []) ∷ []

-- its faces are 0,4,8; 1,7; 2,10,6; 3,9; 5,11
trefoil_next : map (next_in_face (slots_after 0 trefoil) (other_places (labels_by_place trefoil))) (range_with_len 0 12)
    ≡ 4 ∷ 7 ∷ 10 ∷ 9 ∷ 8 ∷ 11 ∷ 2 ∷ 1 ∷ 0 ∷ 3 ∷ 6 ∷ 5 ∷ []
unfolding other_place
trefoil_next = refl

trefoil_faces : face_count trefoil ≡ 5
unfolding face_count other_place part_count part
trefoil_faces = refl

trefoil_listed : faces trefoil ≡ (0 ∷ 4 ∷ 8 ∷ []) ∷ (1 ∷ 7 ∷ []) ∷ (2 ∷ 10 ∷ 6 ∷ []) ∷ (3 ∷ 9 ∷ []) ∷ (5 ∷ 11 ∷ []) ∷ []
unfolding faces other_place least_name part
trefoil_listed = refl

trefoil_wanted : wanted_faces trefoil ≡ 5
unfolding wanted_faces piece_count edge_count other_place part_count part
trefoil_wanted = refl

-- one crossing in which both edges go straight on
crossed : planar_refusal item_slots (X (1 ∷ 2 ∷ 1 ∷ 2 ∷ []) ∷ []) ≡ Some (NotPlanar 1 3)
unfolding face_count wanted_faces piece_count edge_count other_place part_count part
crossed = refl

-- two vertices in one cyclic order
twisted_theta : planar_refusal net_item_slots (Y (1 ∷ 2 ∷ 3 ∷ []) ∷ Y (1 ∷ 2 ∷ 3 ∷ []) ∷ []) ≡ Some (NotPlanar 1 3)
unfolding face_count wanted_faces piece_count edge_count other_place part_count part
twisted_theta = refl

-- a curl, each edge of which has both places at one crossing, beside another piece and a loop
curls : planar_refusal item_slots (X (1 ∷ 1 ∷ 2 ∷ 2 ∷ []) ∷ Loop 5 ∷ X (3 ∷ 4 ∷ 4 ∷ 3 ∷ []) ∷ []) ≡ None
unfolding face_count wanted_faces piece_count edge_count other_place part_count part
curls = refl

-- the components of the trefoil, of the Hopf link, and of a chain of three with a loop
hopf : List Item
hopf = X (2 ∷ 4 ∷ 3 ∷ 1 ∷ []) ∷ X (4 ∷ 2 ∷ 1 ∷ 3 ∷ []) ∷ []

trefoil_items : List Item
trefoil_items = X (1 ∷ 4 ∷ 2 ∷ 5 ∷ []) ∷ X (3 ∷ 6 ∷ 4 ∷ 1 ∷ []) ∷ X (5 ∷ 2 ∷ 6 ∷ 3 ∷ []) ∷ []

chain : List Item
chain = X (1 ∷ 6 ∷ 2 ∷ 5 ∷ []) ∷ X (6 ∷ 3 ∷ 5 ∷ 2 ∷ []) ∷ X (3 ∷ 8 ∷ 4 ∷ 7 ∷ []) ∷ X (8 ∷ 1 ∷ 7 ∷ 4 ∷ []) ∷ []

trefoil_components : least_labels trefoil_items ≡ 1 ∷ []
unfolding trefoil_items least_labels component_least least_name part
trefoil_components = refl

hopf_components : map (component_of hopf) (1 ∷ 2 ∷ 3 ∷ 4 ∷ 5 ∷ []) ≡ Some 1 ∷ Some 2 ∷ Some 2 ∷ Some 1 ∷ None ∷ []
unfolding hopf least_labels component_least least_name part
hopf_components = refl

chain_components : least_labels (Loop 9 ∷ chain) ≡ 1 ∷ 5 ∷ 7 ∷ 9 ∷ []
unfolding chain least_labels component_least least_name part
chain_components = refl

trefoil_writhe : writhe trefoil_items 1 ≡ negsuc 2
unfolding trefoil_items signed_crossings walk_of other_place least_labels component_least least_name part
trefoil_writhe = refl

-- the figure eight
figure_eight_writhe : writhe (X (4 ∷ 2 ∷ 5 ∷ 1 ∷ []) ∷ X (8 ∷ 6 ∷ 1 ∷ 5 ∷ []) ∷ X (6 ∷ 3 ∷ 7 ∷ 4 ∷ []) ∷ X (2 ∷ 7 ∷ 3 ∷ 8 ∷ []) ∷ []) 1 ≡ pos 0
unfolding signed_crossings walk_of other_place least_labels component_least least_name part
figure_eight_writhe = refl

-- both curls
curl_writhes : writhe (X (1 ∷ 1 ∷ 2 ∷ 2 ∷ []) ∷ []) 1 ∷ writhe (X (1 ∷ 2 ∷ 2 ∷ 1 ∷ []) ∷ []) 1 ∷ [] ≡ pos 1 ∷ negsuc 0 ∷ []
unfolding signed_crossings walk_of other_place least_labels component_least least_name part
curl_writhes = refl

toward_zero : map halved (pos 3 ∷ negsuc 2 ∷ negsuc 1 ∷ []) ≡ pos 1 ∷ negsuc 0 ∷ negsuc 0 ∷ []
toward_zero = refl

-- the Hopf link, and the chain of three, whose middle is the first component
hopf_linking : linking hopf 1 2 ≡ pos 1
unfolding hopf signed_crossings walk_of other_place least_labels component_least least_name part
hopf_linking = refl

chain_linking : linking chain 1 2 ∷ linking chain 3 1 ∷ linking chain 2 3 ∷ [] ≡ pos 1 ∷ pos 1 ∷ pos 0 ∷ []
unfolding chain signed_crossings walk_of other_place least_labels component_least least_name part
chain_linking = refl

-- the linking matrix of the chain with the framings 0,0,0, row by row
chain_matrix : map (λ i. map (linking_entry record { items = chain; framings = pos 0 ∷ pos 0 ∷ pos 0 ∷ [] } i) (1 ∷ 2 ∷ 3 ∷ [])) (1 ∷ 2 ∷ 3 ∷ [])
    ≡ (pos 0 ∷ pos 1 ∷ pos 1 ∷ []) ∷ (pos 1 ∷ pos 0 ∷ pos 0 ∷ []) ∷ (pos 1 ∷ pos 0 ∷ pos 0 ∷ []) ∷ []
unfolding chain signed_crossings walk_of other_place least_labels component_least least_name part
chain_matrix = refl

-- a framing of 2^60 is not too large, one of -2^60 - 1 is
third_large : first_large (pos (2 ^ 60) ∷ negsuc (1152921504606846975) ∷ negsuc (2 ^ 60) ∷ pos (2 ^ 62) ∷ []) ≡ Some 3
third_large = refl

-- the faces of the trefoil's places, and the first places of its labels and of another
trefoil_faces_told : map (face_of trefoil) (range_with_len 0 12) ≡ 0 ∷ 1 ∷ 2 ∷ 3 ∷ 0 ∷ 5 ∷ 2 ∷ 1 ∷ 0 ∷ 3 ∷ 2 ∷ 5 ∷ []
unfolding face_of other_place least_name part
trefoil_faces_told = refl

trefoil_firsts : map (first_place (labels_by_place trefoil)) (1 ∷ 2 ∷ 3 ∷ 4 ∷ 5 ∷ 6 ∷ 7 ∷ []) ≡ Some 0 ∷ Some 2 ∷ Some 4 ∷ Some 1 ∷ Some 3 ∷ Some 5 ∷ None ∷ []
trefoil_firsts = refl

-- its walk enters at the places 0, 1, 4, 5, 8 and 9
trefoil_entered : map (enters trefoil_items) (range_with_len 0 12) ≡ true ∷ true ∷ false ∷ false ∷ true ∷ true ∷ false ∷ false ∷ true ∷ true ∷ false ∷ false ∷ []
unfolding trefoil_items walk_of other_place component_least least_name part
trefoil_entered = refl

-- the sums of signs of the chain of three
chain_sums : sign_sum chain 1 2 ∷ sign_sum chain 1 3 ∷ sign_sum chain 2 3 ∷ [] ≡ pos 2 ∷ pos 2 ∷ pos 0 ∷ []
unfolding chain signed_crossings walk_of other_place least_labels component_least least_name part
chain_sums = refl

-- the Hopf link with its second component reversed
hopf_reversed : sign_sum_by hopf (reversed_on hopf (enters hopf) 2) 1 2 ∷ orientation hopf (reversed_on hopf (enters hopf) 2) 1 ∷ orientation hopf (reversed_on hopf (enters hopf) 2) 2 ∷ []
    ≡ negsuc 1 ∷ pos 1 ∷ negsuc 0 ∷ []
unfolding hopf walk_of other_place least_labels component_least least_name part
hopf_reversed = refl

trefoil_reversed : sign_sum_by trefoil_items (reversed_on trefoil_items (enters trefoil_items) 1) 1 1 ≡ negsuc 2
unfolding trefoil_items walk_of other_place least_labels component_least least_name part
trefoil_reversed = refl
