-- Planar diagrams and nets, by Euler's formula. A face is a cycle of the rule: cross the edge to the
-- label's other place, then take the next slot of that item counterclockwise. A diagram or a net of N
-- items with slots, E edges that join their places, and k connected pieces of these is drawn on k
-- spheres exactly where it has E - N + 2k faces (this project's own wording of Euler's formula for
-- graphs with a cyclic order at each vertex; a loop has no place and counts nowhere).
--
-- Faces and pieces are parts of graphs: a face is a part of the places, each joined to the next place
-- of its face, and a piece is a part of the items, two of which are joined where an edge joins them.
--
-- The lists after, owners and others are those of the places: slots_after, owners, other_places.
--
--     next_in_face after others p    the place that follows p in its face
--     face_edges after others    each place with the one that follows it in its face
--     face_of lists p            the face of the place p, by its least place
--     face_count lists           how many faces there are
--     piece_edges owners others  for each place its item, with the item across the edge
--     piece_count lists          how many connected pieces the items with slots make
--     count_edges others         how many edges there are, each counted at the lesser of its places
--     edge_count lists           the same of items
--     wanted_faces lists         E - N + 2k
--     planar_refusal slots_of items    why the items are not planar: the faces, and how many are wanted
--
-- X[1,2,1,2] has 1 face, and 3 are wanted: E is 2, N is 1 and k is 1.
use Rattle.std.specs.Prelude.{◌≡◌, ℕ, ◌+◌, ◌-◌, ◌*◌, ◌==◌, nat_lt, if◌then◌else◌, List, length, map, slice_index, count_by, Option, Some, None}
use Rattle.std.specs.List.{range_with_len}
use Rattle.graph_parts.specs.Parts.{part_count}
use Rattle.graph_parts.specs.LeastNames.{least_name}
use Rattle.planar_check.specs.declared.fault.PlanarFault.{PlanarFault}
use Rattle.planar_check.specs.declared.fault.PlanarFault.TheVariants as faults
use Rattle.planar_check.specs.Places.{slot_lists, labels_by_place, slots_after, owners, other_places}

-- the place that follows p in its face
abbrev pub next_in_face : List ℕ → List ℕ → ℕ → ℕ
next_in_face after others p = slice_index after (slice_index others p)

-- each place with the one that follows it in its face
abbrev pub face_edges : List ℕ → List ℕ → List (ℕ × ℕ)
face_edges after others = map (λ p. (p, next_in_face after others p)) (range_with_len 0 (length others))

-- the least place of the face in which p lies: two places lie in one face exactly where it is the same
unfoldable pub face_of : List (List ℕ) → ℕ → ℕ
face_of lists p =
    let others = other_places (labels_by_place lists) in
    least_name (range_with_len 0 (length others)) (face_edges (slots_after 0 lists) others) p

-- how many faces there are
unfoldable pub face_count : List (List ℕ) → ℕ
face_count lists =
    let others = other_places (labels_by_place lists) in
    part_count (range_with_len 0 (length others)) (face_edges (slots_after 0 lists) others)

-- for each place its item, with the item across the edge
abbrev pub piece_edges : List ℕ → List ℕ → List (ℕ × ℕ)
piece_edges owners others = map (λ p. (slice_index owners p, slice_index owners (slice_index others p))) (range_with_len 0 (length others))

-- how many connected pieces the items with slots make
unfoldable pub piece_count : List (List ℕ) → ℕ
piece_count lists = part_count (range_with_len 0 (length lists)) (piece_edges (owners 0 lists) (other_places (labels_by_place lists)))

-- how many edges there are, each counted at the lesser of its places
abbrev pub count_edges : List ℕ → ℕ
count_edges others = count_by (λ p. nat_lt p (slice_index others p)) (range_with_len 0 (length others))

unfoldable pub edge_count : List (List ℕ) → ℕ
edge_count lists = count_edges (other_places (labels_by_place lists))

-- E - N + 2k
unfoldable pub wanted_faces : List (List ℕ) → ℕ
wanted_faces lists = (edge_count lists + 2 * piece_count lists) - length lists

-- there are as many faces as wanted
abbrev pub HasItsFaces : List (List ℕ) → Type 0
HasItsFaces lists = face_count lists ≡ wanted_faces lists

module _ {I : Type 0} (slots_of : I → List ℕ) where
  -- the items are planar
  abbrev pub IsPlanar : List I → Type 0
  IsPlanar items = HasItsFaces (slot_lists slots_of items)

  -- why they are not
  abbrev pub planar_refusal : List I → Option PlanarFault
  planar_refusal items =
      let faces = face_count (slot_lists slots_of items) in
      let wanted = wanted_faces (slot_lists slots_of items) in
      if faces == wanted then None else Some (faults.NotPlanar faces wanted)
