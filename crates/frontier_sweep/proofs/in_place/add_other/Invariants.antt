use Rattle.frontier_sweep.proofs.InPlaceLemmas.{IsAddedTo}
use Rattle.frontier_sweep.proofs.in_place.add_other.Given as goal

abbrev pub invariant-loop-at : goal.invariant-loop-at
invariant-loop-at l = IsAddedTo l.step.powers.now l.step.seam.now l.other l.fn.table l.saved l.fn.turns l.at l.table l.turns
