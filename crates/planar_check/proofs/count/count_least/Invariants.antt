use Rattle.std.proofs.Common.{◌≡◌, ◌≤◌, ◌==◌, count_by, slice_index}
use Rattle.std.specs.List.{range_with_len}
use Rattle.planar_check.proofs.count.count_least.Given as goal

-- of the names so far, those that are the least of their part
abbrev pub invariant-loop-name : goal.invariant-loop-name
invariant-loop-name l = record {
  count : l.count ≡ count_by (λ x. slice_index l.entries x == x) (range_with_len 0 l.name);
  few : l.count ≤ l.name;
}
