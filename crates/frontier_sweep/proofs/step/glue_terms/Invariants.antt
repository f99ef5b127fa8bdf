use Rattle.frontier_sweep.proofs.StepLemmas.{IsGluedTo}
use Rattle.frontier_sweep.proofs.step.glue_terms.Given as goal

abbrev pub invariant-loop-term : goal.invariant-loop-term
invariant-loop-term l =
    IsGluedTo l.step.powers.now l.step.seam.now l.pairing l.coefficient l.term-items l.fn.next l.fn.turns l.term-index l.next l.turns
