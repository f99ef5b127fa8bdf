use Rattle.arc_pairing.proofs.FirstMates.{AreFirstMates}
use Rattle.arc_pairing.proofs.gluing.first_mates.Given as goal

abbrev pub invariant-loop-point : goal.invariant-loop-point
invariant-loop-point l = AreFirstMates l.partners l.mates l.point
