use Rattle.std.proofs.Common.{◌≡◌, ◌<◌, ◌%◌, take, length, sum_by}
use Rattle.plain_sum.specs.Places.{named}
use Rattle.plain_sum.specs.Sums.{term_behind}
use Rattle.plain_sum.proofs.sum.+sum_behind.Given as goal

abbrev pub decreases-sum_behind : goal.decreases-sum_behind
decreases-sum_behind l = length l.nodes.now

abbrev pub invariant-loop-term : goal.invariant-loop-term
invariant-loop-term l =
    (l.sum ≡ sum_by (term_behind l.setting.delta l.setting.names.now l.setting.free l.nodes (named l.setting.names.now l.edges)) (take l.term-index l.term-items) % l.setting.ring.now)
    × (l.sum < l.setting.ring.now)
