use Rattle.std.proofs.Common.{◌+◌}
use Rattle.strand_algebra.specs.Laws.{nothing}
use Rattle.strand_algebra.specs.StrandPairings.{widened}
use Rattle.temperley_lieb.proofs.TermLoops.{IsSumSo}
use Rattle.temperley_lieb.proofs.operations.beside.Given as goal

abbrev pub invariant-loop-term : goal.invariant-loop-term
invariant-loop-term l =
    IsSumSo l.ring (l.x.strands + 1) (nothing l.ring (l.x.strands + 1)) (λ term. record { weight = term.weight; partner = widened l.x.strands term.partner }) l.term-items l.term-index l.wider
