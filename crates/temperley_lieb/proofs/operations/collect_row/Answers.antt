use Rattle.std.proofs.Common.{ℕ, ◌+◌, ◌^◌, List, map, take, refl, ap, subst, sym, ◌∙◌}
use Rattle.state_sums.specs.Networks.{Term}
use Rattle.strand_algebra.specs.Elements.{add, term_on}
use Rattle.strand_algebra.specs.Laws.{IsNoncrossingOn}
use Rattle.strand_algebra.specs.StrandPairings.{product_loops}
use Rattle.strand_algebra.proofs.PairingLaws.{product_of_noncrossing}
use Rattle.temperley_lieb.specs.Elements.{Element}
use Rattle.temperley_lieb.proofs.Rows.{no_weight_below, same_product, same_worth}
use Rattle.temperley_lieb.proofs.TermLoops.{IsSumSo, started, one_more, one_skipped, below_so, at_strands, term_noncrossing}
use Rattle.temperley_lieb.proofs.operations.collect_row.Goals as goal
use Rattle.temperley_lieb.proofs.operations.collect_row.Goals.{then-below-ne0, else-below-ne0}

pub loop-below-init : goal.loop-below-init
loop-below-init c =
    started c.args.ring.now c.args.sum.now.strands c.args.sum.now.terms (term_on c.args.delta c.args.sum.now.strands c.args.above.now) c.terms-below-items.result.now c.args.sum.now c.requires.ring c.requires.sum refl

pub collect-requires-clause-below : goal.collect-requires-clause-below
collect-requires-clause-below c =
    below_so c.args.ring.now c.args.sum.now.strands c.args.sum.now.terms (term_on c.args.delta c.args.sum.now.strands c.args.above.now) c.terms-below-items.result.now c.loop-below.below-index c.loop-below.sum c.requires.ring c.loop-below.invariant

pub collect-requires-clause-noncrossing : goal.collect-requires-clause-noncrossing
collect-requires-clause-noncrossing c =
    let n = c.args.sum.now.strands in
    let s = c.args.stack.now.strands in
    let t : Term = c.below-item.result in
    let P : List ℕ → Type 0 = λ p. IsNoncrossingOn s p in
    let above = subst P (sym (ap (λ k. k.partner) c.above.view_is)) c.requires.above in
    let below = subst (λ (k : ℕ). IsNoncrossingOn k c.below.inside.pairing) c.requires.strands
    (term_noncrossing c.args.y.now.strands c.terms-below-items.result.now c.args.y.now.terms c.loop-below.below-index t c.below.inside.pairing
    c.loop-below-test.true c.below-item.is c.terms-below-items.ensures.value c.terms-below-items.ensures.noncrossing (ap (λ k. k.partner) c.below.view_is)) in
    at_strands n c.product-glued.result.pairing c.product-glued.result.pairing
    (add c.args.ring.now n c.args.sum.now.terms (map (term_on c.args.delta n c.args.above.now) (take c.loop-below.below-index c.terms-below-items.result.now))) c.loop-below.sum c.loop-below.invariant refl
    (subst (λ (k : ℕ). IsNoncrossingOn k c.product-glued.result.pairing) (sym c.requires.sum_strands)
    (subst P (sym c.product-glued.ensures.pairing) (product_of_noncrossing s c.above.inside.pairing c.below.inside.pairing above below)))

pub loop-below-preserved : goal.loop-below-preserved
loop-below-preserved c =
    let m = c.args.ring.now in
    let n = c.args.sum.now.strands in
    let z = c.args.sum.now.terms in
    let f : Term → Term = term_on c.args.delta n c.args.above.now in
    let xs = c.terms-below-items.result.now in
    let i = c.loop-below.below-index in
    let t : Term = c.below-item.result in
    let P : Element → Type 0 = λ e. IsSumSo m n z f xs (i + 1) e in
    elim c.if-below-ne0.branch [
      | then-below-ne0 w ↦
          subst P (sym w.sum-is)
          (one_more m n z f xs i t c.loop-below.sum w.collect.new.sum w.worth-weight.result w.product-glued.result.pairing c.requires.ring c.loop-below-test.true c.below-item.is c.loop-below.invariant
          (w.worth-weight.ensures.value
          ∙ same_worth m c.args.delta c.args.stack.now.strands n c.above.inside.weight c.below.inside.weight c.args.above.now.weight t.weight w.product-glued.result.loops
          c.above.inside.pairing c.below.inside.pairing c.args.above.now.partner t.partner c.requires.sum_strands
          (ap (λ k. k.partner) c.above.view_is) (ap (λ k. k.partner) c.below.view_is) (ap (λ k. k.weight) c.above.view_is) (ap (λ k. k.weight) c.below.view_is) w.product-glued.ensures.loops)
          (w.product-glued.ensures.pairing
          ∙ same_product c.args.stack.now.strands n c.above.inside.pairing c.below.inside.pairing c.args.above.now.partner t.partner c.requires.sum_strands
          (ap (λ k. k.partner) c.above.view_is) (ap (λ k. k.partner) c.below.view_is))
          w.collect.ensures.value)
      | else-below-ne0 w ↦
          subst P (sym w.sum-is)
          (one_skipped m n z f xs i t c.loop-below.sum c.requires.ring c.loop-below-test.true c.below-item.is c.loop-below.invariant
          (no_weight_below c.args.above.now.weight t.weight (c.args.delta ^ product_loops n c.args.above.now.partner t.partner) (sym (ap (λ k. k.weight) c.below.view_is) ∙ w.if-below-ne0.false)))
    ]
