use Rattle.std.proofs.Common.{◌≡◌, map, length}
use Rattle.std.specs.List.{filter, range_with_len}
use Rattle.planar_check.specs.Faces.{cycle_from, is_least_place, places_of}
use Rattle.planar_check.specs.Planar.{next_in_face}
use Rattle.planar_check.proofs.face.faces_by.Given as goal

-- the faces that start at the places so far
abbrev pub invariant-loop-place : goal.invariant-loop-place
invariant-loop-place l =
    map places_of l.found.items
    ≡ map (λ p. cycle_from (next_in_face l.after l.others) p p (length l.others)) (filter (is_least_place l.after l.others) (range_with_len 0 l.place))
