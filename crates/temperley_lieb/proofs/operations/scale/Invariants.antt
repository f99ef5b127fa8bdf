use Rattle.std.proofs.Common.{◌*◌}
use Rattle.strand_algebra.specs.Laws.{nothing}
use Rattle.temperley_lieb.proofs.TermLoops.{IsSumSo}
use Rattle.temperley_lieb.proofs.operations.scale.Given as goal

abbrev pub invariant-loop-term : goal.invariant-loop-term
invariant-loop-term l =
    IsSumSo l.ring l.x.strands (nothing l.ring l.x.strands) (λ term. record { weight = l.by * term.weight; partner = term.partner }) l.term-items l.term-index l.multiple
