use Rattle.std.proofs.Common.{◌≡◌, ◌+◌, ◌≤◌, ◌==◌, drop}
use Rattle.std.specs.Set.{distinct_count}
use Rattle.plain_sum.proofs.parts.distinct.Given as goal

abbrev pub invariant-loop-at : goal.invariant-loop-at
invariant-loop-at l = (l.count + distinct_count ◌==◌ (drop l.at l.labels) ≡ distinct_count ◌==◌ l.labels) × (l.count ≤ l.at)
