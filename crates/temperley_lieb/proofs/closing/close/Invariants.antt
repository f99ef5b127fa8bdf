use Rattle.std.proofs.Common.{◌≡◌, ◌<◌, ◌*◌, ◌%◌, ◌^◌, sum_by, take}
use Rattle.strand_algebra.specs.StrandPairings.{closure_loops}
use Rattle.temperley_lieb.proofs.closing.close.Given as goal

abbrev pub invariant-loop-term : goal.invariant-loop-term
invariant-loop-term l = record {
  sum : l.sum ≡ sum_by (λ term. term.weight * l.delta ^ closure_loops l.x.strands term.partner) (take l.term-index l.term-items) % l.ring;
  below : l.sum < l.ring;
}
