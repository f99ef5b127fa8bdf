-- The two ways on from a place: round its face, and straight on at its crossing.
--
--     next_on way after others p       the place that follows p on the way
--     way_edges way after others       each place with the one that follows it: face_edges, or walk_edges
use Rattle.std.specs.Prelude.{ℕ, List, length, map, slice_index}
use Rattle.std.specs.List.{range_with_len}
use Rattle.planar_check.specs.declared.cycles.Way.{Way}
use Rattle.planar_check.specs.declared.cycles.Way.TheVariants as ways
use Rattle.planar_check.specs.Planar.{next_in_face}

-- the place that follows p on the way
abbrev pub next_on : Way → List ℕ → List ℕ → ℕ → ℕ
next_on ways.Face after others p = next_in_face after others p
next_on ways.Walk after others p = slice_index others (slice_index after (slice_index after p))

-- each place with the one that follows it
abbrev pub way_edges : Way → List ℕ → List ℕ → List (ℕ × ℕ)
way_edges way after others = map (λ p. (p, next_on way after others p)) (range_with_len 0 (length others))
