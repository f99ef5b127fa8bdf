-- Worked values: X[1,2,1,2] is not planar, nor is it with a curl; a Loop with a curl, and that curl undone, are.
use Rattle.std.proofs.Common.{◌≡◌, List, [], ◌∷◌, Ok, pos, negsuc, refl}
use Rattle.graph_parts.specs.Parts.{part, part_count}
use Rattle.pd_reader.specs.declared.item.Item.{Item}
use Rattle.pd_reader.specs.declared.item.Item.TheVariants as item
use Rattle.planar_check.specs.declared.sign.Sign.TheVariants as signs
use Rattle.planar_check.specs.Places.{crossings_of, item_slots, other_place}
use Rattle.planar_check.specs.Planar.{face_count, wanted_faces, piece_count, edge_count, IsPlanar}
use Rattle.script_reader.specs.declared.step.Step.TheVariants.{Curl, CurlUndo}
use Rattle.diagram_moves.specs.Moves.{move}

crossed : List Item
crossed = item.X (1 ∷ 2 ∷ 1 ∷ 2 ∷ []) ∷ []

crossed_curled : List Item
crossed_curled = item.X (1 ∷ 2 ∷ 4 ∷ 2 ∷ []) ∷ item.X (1 ∷ 4 ∷ 3 ∷ 3 ∷ []) ∷ []

its_curl : move crossed (Curl 1 signs.Plus) ≡ Ok record { items = crossed_curled; factor = record { curl = pos 1; circle = 0 } }
unfolding crossed crossed_curled other_place
its_curl = refl

few_before : face_count (crossings_of crossed) ≡ 1
unfolding crossed face_count other_place part_count part
few_before = refl

wanted_before : wanted_faces (crossings_of crossed) ≡ 3
unfolding crossed wanted_faces piece_count edge_count other_place part_count part
wanted_before = refl

few_after : face_count (crossings_of crossed_curled) ≡ 2
unfolding crossed_curled face_count other_place part_count part
few_after = refl

wanted_after : wanted_faces (crossings_of crossed_curled) ≡ 4
unfolding crossed_curled wanted_faces piece_count edge_count other_place part_count part
wanted_after = refl

lone_curl : List Item
lone_curl = item.X (1 ∷ 1 ∷ 2 ∷ 2 ∷ []) ∷ []

drawn : move (item.Loop 1 ∷ []) (Curl 1 signs.Plus) ≡ Ok record { items = lone_curl; factor = record { curl = pos 1; circle = 0 } }
unfolding lone_curl
drawn = refl

is_planar : IsPlanar item_slots lone_curl
unfolding lone_curl face_count wanted_faces piece_count edge_count other_place part_count part
is_planar = refl

undone : move lone_curl (CurlUndo 1) ≡ Ok record { items = item.Loop 1 ∷ []; factor = record { curl = negsuc 0; circle = 0 } }
unfolding lone_curl
undone = refl
