-- The laws of planar diagrams as rotation systems, for every list of items whose crossings have four slots and whose labels stand twice.
--
--     IsCounted items      what planar_check counts is what the rotation system has
use Rattle.std.specs.Prelude.{◌≡◌, ◌≤◌, ◌↔◌, ◌+◌, ◌*◌, List, length}
use Rattle.graph_parts.specs.Parts.{part_count}
use Rattle.pd_reader.specs.declared.item.Item.{Item}
use Rattle.planar_check.specs.Places.{crossings_of, item_slots, place_labels, other_place}
use Rattle.planar_check.specs.Planar.{face_count, piece_count, edge_count, wanted_faces, IsPlanar}
use Rattle.rotation_parts.specs.Rotations.{cycle_count, faces_of, pieces_of, pair_graph}
use Rattle.diagram_moves.specs.Laws.{IsPairedDiagram}
use Rattle.planar_forms.specs.PlaceSystems.{next_slot, all_places, place_edges, along_face, IsFlatDiagram}

-- what planar_check counts is what the rotation system has
pub record IsCounted (items : List Item) : Type 0 where
  pub faces : face_count (crossings_of items) ≡ faces_of (all_places items) next_slot (place_edges items)
  pub pieces : piece_count (crossings_of items) ≡ pieces_of (all_places items) next_slot (place_edges items)
  pub edges : edge_count (crossings_of items) ≡ length (place_edges items)
  pub vertices : length (crossings_of items) ≡ cycle_count (all_places items) next_slot

-- The counts of faces, pieces, edges and vertices are those of the rotation system.
abbrev pub CountedLaw : Type 0
CountedLaw = (items : List Item) → IsPairedDiagram items → IsCounted items

-- No diagram has more faces than a planar one with as many crossings, edges and pieces.
abbrev pub FewFacesLaw : Type 0
FewFacesLaw = (items : List Item) → IsPairedDiagram items → face_count (crossings_of items) ≤ wanted_faces (crossings_of items)

-- A diagram is planar exactly where its rotation system is flat.
abbrev pub FlatDiagramLaw : Type 0
FlatDiagramLaw = (items : List Item) → IsPairedDiagram items → IsPlanar item_slots items ↔ IsFlatDiagram items

-- A diagram has twice as many edges as crossings; so it is planar exactly where F = N + 2k, with the faces and pieces of the places.
abbrev pub PlanarFormLaw : Type 0
PlanarFormLaw =
    (items : List Item) → IsPairedDiagram items →
    IsPlanar item_slots items
    ↔ (cycle_count (all_places items) (along_face items)
    ≡ length (crossings_of items) + 2 * part_count (all_places items) (pair_graph (all_places items) next_slot (other_place (place_labels items))))
