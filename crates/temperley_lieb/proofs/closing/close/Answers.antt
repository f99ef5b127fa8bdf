use Rattle.std.proofs.Common.{pos, ap, ap₂, ◌∙◌}
use Rattle.ring_identities.specs.Residues.{residue}
use Rattle.ring_identities.specs.Powers.{power}
use Rattle.state_sums.specs.Networks.{Term}
use Rattle.strand_algebra.specs.StrandPairings.{closure_loops}
use Rattle.temperley_lieb.proofs.ClosureSums.{closure_step}
use Rattle.temperley_lieb.proofs.closing.close.Goals as goal

pub loop-term-preserved : goal.loop-term-preserved
loop-term-preserved c =
    let t : Term = c.term-item.result in
    let m = c.ring-ring.result.now in
    let d = c.loop_value-delta.result in
    record {
      sum =
          closure_step m d c.args.x.now.strands c.terms-term-items.result.now c.loop-term.term-index t c.loop-term.sum c.term.inside.weight c.loops-loops.result c.pow.result c.mul-worth.result c.add-sum.result
          c.loop-term-test.true c.term-item.is (ap (λ k. k.weight) c.term.view_is)
          (c.loops-loops.ensures ∙ ap₂ closure_loops (c.new-closing.ensures ∙ c.strands.ensures.value) (ap (λ k. k.partner) c.term.view_is))
          c.loop-term.invariant.sum (c.pow.ensures.power ∙ ap (λ k. residue m (power (pos d) k)) c.from.ensures) c.mul-worth.ensures.product c.add-sum.ensures.sum;
      below = c.add-sum.ensures.below;
    }
