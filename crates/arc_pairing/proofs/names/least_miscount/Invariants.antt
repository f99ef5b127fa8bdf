use Rattle.std.proofs.Common.{◌-◌, length}
use Rattle.arc_pairing.proofs.Runs.{IsScanned, IsRun}
use Rattle.arc_pairing.proofs.names.least_miscount.Given as goal

abbrev pub invariant-loop-end : goal.invariant-loop-end
invariant-loop-end l = IsRun l.names l.start l.end l.name

abbrev pub decreases-loop-end : goal.decreases-loop-end
decreases-loop-end l = length l.names - l.end

abbrev pub invariant-loop-start : goal.invariant-loop-start
invariant-loop-start l = IsScanned l.names l.start

abbrev pub decreases-loop-start : goal.decreases-loop-start
decreases-loop-start l = length l.names - l.start
