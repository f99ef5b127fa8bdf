-- The faces of a diagram, each as the list of its places in the order of the rule: cross the edge to
-- the label's other place, then take the next slot counterclockwise. Each face starts at its least
-- place, and the faces are ordered by it.
--
--     cycle_from next start p most   p, the place after it and so on, up to where start comes next, or
--                                    so many places
--     is_least_place after others p  p is the least place of its face
--     faces lists                    the faces; each has at most as many places as there are
--
-- The left-handed trefoil X[1,4,2,5] X[3,6,4,1] X[5,2,6,3] has the faces 0,4,8; 1,7; 2,10,6; 3,9; 5,11.
use Rattle.std.specs.Prelude.{ℕ, zero, suc, Bool, ◌==◌, if◌then◌else◌, List, [], ◌∷◌, length, map}
use Rattle.std.specs.List.{filter, range_with_len}
use Rattle.graph_parts.specs.LeastNames.{least_name}
use Rattle.planar_check.specs.declared.face.Face.{Face}
use Rattle.planar_check.specs.Places.{labels_by_place, slots_after, other_places}
use Rattle.planar_check.specs.Planar.{next_in_face, face_edges}

-- p and what follows it, up to where start comes next
abbrev pub cycle_from : (ℕ → ℕ) → ℕ → ℕ → ℕ → List ℕ
cycle_from next start p zero = []
cycle_from next start p (suc most) = p ∷ (if next p == start then [] else cycle_from next start (next p) most)

-- p is the least place of its face
abbrev pub is_least_place : List ℕ → List ℕ → ℕ → Bool
is_least_place after others p = least_name (range_with_len 0 (length others)) (face_edges after others) p == p

-- the faces, where the lists of after and of other places are given
abbrev pub faces_by : List ℕ → List ℕ → List (List ℕ)
faces_by after others =
    map (λ p. cycle_from (next_in_face after others) p p (length others)) (filter (is_least_place after others) (range_with_len 0 (length others)))

-- the places of a face
abbrev pub places_of : Face → List ℕ
places_of face = face.places.items

-- the faces of items with these slots
unfoldable pub faces : List (List ℕ) → List (List ℕ)
faces lists = faces_by (slots_after 0 lists) (other_places (labels_by_place lists))
