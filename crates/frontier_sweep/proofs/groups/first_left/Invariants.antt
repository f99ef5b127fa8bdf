use Rattle.std.proofs.Common.{◌≡◌, ◌==◌, ◌<◌, ◌≤◌, ◌%◌, false, ℕ, slice_index}
use Rattle.std.specs.Set.{is_member}
use Rattle.frontier_sweep.proofs.groups.first_left.Given as goal

-- none of the places so far is left
abbrev pub invariant-loop-at : goal.invariant-loop-at
invariant-loop-at l = (k : ℕ) → l.low ≤ k → k < l.at → is_member ◌==◌ l.left (slice_index l.index k % 65536) ≡ false
