use Rattle.temperley_lieb.proofs.TermLoops.{IsSumSo}
use Rattle.temperley_lieb.proofs.operations.collect_all.Given as goal

abbrev pub invariant-loop-term : goal.invariant-loop-term
invariant-loop-term l = IsSumSo l.ring l.initial.sum.strands l.initial.sum.terms (λ term. term) l.term-items l.term-index l.sum
