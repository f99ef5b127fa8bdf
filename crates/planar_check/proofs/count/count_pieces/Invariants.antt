use Rattle.std.proofs.Common.{◌≡◌, map, slice_index}
use Rattle.std.specs.List.{range_with_len}
use Rattle.planar_check.proofs.count.count_pieces.Given as goal

-- the items of the places so far, each with the item across the edge
abbrev pub invariant-loop-place : goal.invariant-loop-place
invariant-loop-place l = l.edges.items ≡ map (λ p. (slice_index l.owners p, slice_index l.owners (slice_index l.others p))) (range_with_len 0 l.place)
