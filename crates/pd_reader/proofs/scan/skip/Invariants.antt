use Rattle.std.proofs.Common.{length, ◌-◌}
use Rattle.text_shapes.proofs.Scans.{Spaces}
use Rattle.pd_reader.proofs.scan.skip.Given as goal

abbrev pub invariant-loop-place : goal.invariant-loop-place
invariant-loop-place l = Spaces l.bytes l.at l.place

abbrev pub decreases-loop-place : goal.decreases-loop-place
decreases-loop-place l = length l.bytes - l.place
