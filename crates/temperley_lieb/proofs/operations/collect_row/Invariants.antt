use Rattle.strand_algebra.specs.Elements.{term_on}
use Rattle.temperley_lieb.proofs.TermLoops.{IsSumSo}
use Rattle.temperley_lieb.proofs.operations.collect_row.Given as goal

abbrev pub invariant-loop-below : goal.invariant-loop-below
invariant-loop-below l =
    IsSumSo l.ring l.initial.sum.strands l.initial.sum.terms (term_on l.delta l.initial.sum.strands l.above) l.below-items l.below-index l.sum
