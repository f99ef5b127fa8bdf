-- A diagram as a rotation system: its names are the places, four at each crossing, which turn counterclockwise. Places are numbered
-- crossing by crossing, so that slot s of the crossing with the number k, from 0, is the place 4k + s.
--
--     next_slot p                the next place counterclockwise at the crossing of place p
--     slot_before p              the one before
--     all_places items           the places
--     place_edges items          the edges, each at its lesser place
--     IsFlatDiagram items        the diagram is flat
--     along_face items p         the place that follows p in its face
--
-- The left-handed trefoil X[1,4,2,5] X[3,6,4,1] X[5,2,6,3] has the edges (0,7) (1,6) (2,9) (3,8) (4,11) (5,10): 5 faces, 3 vertices, 1 piece.
use Rattle.std.specs.Prelude.{ℕ, ◌+◌, ◌*◌, ◌/◌, ◌%◌, List, length}
use Rattle.std.specs.List.{range_with_len}
use Rattle.pd_reader.specs.declared.item.Item.{Item}
use Rattle.planar_check.specs.Places.{place_labels, other_place}
use Rattle.rotation_parts.specs.Rotations.{paired_edges, IsFlat}

-- the next place counterclockwise
abbrev pub next_slot : ℕ → ℕ
next_slot p = 4 * (p / 4) + (p % 4 + 1) % 4

-- the one before
abbrev pub slot_before : ℕ → ℕ
slot_before p = 4 * (p / 4) + (p % 4 + 3) % 4

-- the places
abbrev pub all_places : List Item → List ℕ
all_places items = range_with_len 0 (length (place_labels items))

-- the edges
abbrev pub place_edges : List Item → List (ℕ × ℕ)
place_edges items = paired_edges (other_place (place_labels items)) (all_places items)

-- the diagram is flat
abbrev pub IsFlatDiagram : List Item → Type 0
IsFlatDiagram items = IsFlat (all_places items) next_slot (place_edges items)

-- the place that follows p in its face
abbrev pub along_face : List Item → ℕ → ℕ
along_face items p = next_slot (other_place (place_labels items) p)
