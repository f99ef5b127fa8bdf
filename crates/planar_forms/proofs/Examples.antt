-- Worked values: the left-handed trefoil X[1,4,2,5] X[3,6,4,1] X[5,2,6,3] as a rotation system.
use Rattle.std.proofs.Common.{◌≡◌, List, [], ◌∷◌, refl}
use Rattle.graph_parts.specs.Parts.{part, part_count}
use Rattle.pd_reader.specs.declared.item.Item.{Item}
use Rattle.pd_reader.specs.declared.item.Item.TheVariants as item
use Rattle.planar_check.specs.Places.{other_place}
use Rattle.rotation_parts.specs.Rotations.{faces_of, pieces_of, cycle_count}
use Rattle.planar_forms.specs.PlaceSystems.{next_slot, all_places, place_edges}

trefoil : List Item
trefoil = item.X (1 ∷ 4 ∷ 2 ∷ 5 ∷ []) ∷ item.X (3 ∷ 6 ∷ 4 ∷ 1 ∷ []) ∷ item.X (5 ∷ 2 ∷ 6 ∷ 3 ∷ []) ∷ []

its_edges : place_edges trefoil ≡ (0, 7) ∷ (1, 6) ∷ (2, 9) ∷ (3, 8) ∷ (4, 11) ∷ (5, 10) ∷ []
unfolding trefoil other_place
its_edges = refl

its_faces : faces_of (all_places trefoil) next_slot (place_edges trefoil) ≡ 5
unfolding trefoil other_place part_count part
its_faces = refl

its_vertices : cycle_count (all_places trefoil) next_slot ≡ 3
unfolding trefoil part_count part
its_vertices = refl

its_pieces : pieces_of (all_places trefoil) next_slot (place_edges trefoil) ≡ 1
unfolding trefoil other_place part_count part
its_pieces = refl
