use Rattle.std.proofs.Common.{◌≡◌, ◌≤◌, ltb, count_by, slice_index}
use Rattle.std.specs.List.{range_with_len}
use Rattle.planar_check.proofs.count.count_edges.Given as goal

-- of the places so far, those that are the lesser of their label
abbrev pub invariant-loop-place : goal.invariant-loop-place
invariant-loop-place l = record {
  count : l.count ≡ count_by (λ p. ltb p (slice_index l.others p)) (range_with_len 0 l.place);
  few : l.count ≤ l.place;
}
