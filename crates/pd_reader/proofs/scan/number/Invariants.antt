use Rattle.std.proofs.Common.{length, ◌-◌}
use Rattle.text_shapes.proofs.Scans.{Digits}
use Rattle.pd_reader.proofs.scan.number.Given as goal

abbrev pub invariant-loop-value : goal.invariant-loop-value
invariant-loop-value l = Digits l.bytes l.at l.value l.place

abbrev pub decreases-loop-value : goal.decreases-loop-value
decreases-loop-value l = length l.bytes - l.place
