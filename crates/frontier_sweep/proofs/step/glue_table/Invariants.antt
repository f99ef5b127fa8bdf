use Rattle.frontier_sweep.proofs.StepLemmas.{IsGluedToAll}
use Rattle.frontier_sweep.proofs.step.glue_table.Given as goal

abbrev pub invariant-loop-at : goal.invariant-loop-at
invariant-loop-at l = IsGluedToAll l.step.powers.now l.step.seam.now l.step.terms.now l.table l.fn.turns l.at l.next l.turns
