-- Faces as the code finds them: places are numbered slot by slot, four to a crossing.
--
--     is_other labels p q        q is another place than p, and the same label stands there
--     other_found labels p       the first such place, or p where there is none
--     next_slot p                the next slot counterclockwise at the crossing
--     next_edges others          each place with the one that follows it in its face
--     face_list labels           for each place the least place of its face
use Rattle.std.specs.Prelude.{ℕ, ◌+◌, ◌*◌, ◌/◌, ◌%◌, ◌==◌, ◌&&◌, not, Bool, List, length, map, slice_index, unwrap_or}
use Rattle.std.specs.List.{find, range_with_len}
use Rattle.graph_parts.specs.LeastNames.{least_name}

abbrev pub is_other : List ℕ → ℕ → ℕ → Bool
is_other labels p q = not (q == p) && slice_index labels q == slice_index labels p

abbrev pub other_found : List ℕ → ℕ → ℕ
other_found labels p = unwrap_or (find (is_other labels p) (range_with_len 0 (length labels))) p

abbrev pub others_found : List ℕ → List ℕ
others_found labels = map (other_found labels) (range_with_len 0 (length labels))

abbrev pub next_slot : ℕ → ℕ
next_slot p = p / 4 * 4 + (p % 4 + 1) % 4

abbrev pub next_edges : List ℕ → List (ℕ × ℕ)
next_edges others = map (λ p. (p, next_slot (slice_index others p))) (range_with_len 0 (length others))

abbrev pub face_list : List ℕ → List ℕ
face_list labels = map (least_name (range_with_len 0 (length labels)) (next_edges (others_found labels))) (range_with_len 0 (length labels))
