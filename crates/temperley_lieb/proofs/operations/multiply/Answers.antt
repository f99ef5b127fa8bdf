use Rattle.std.proofs.Common.{ℕ, ◌≡◌, ◌+◌, ◌<◌, All, take, ap, subst, sym, ◌∙◌, arith}
use Rattle.std.specs.List.{flat_map}
use Rattle.state_sums.specs.Networks.{Term}
use Rattle.strand_algebra.specs.Elements.{collected}
use Rattle.temperley_lieb.specs.Elements.{Element, element_of}
use Rattle.temperley_lieb.proofs.Rows.{row, row_added, row_skipped}
use Rattle.temperley_lieb.proofs.TermLoops.{element_read}
use Rattle.temperley_lieb.proofs.operations.multiply.Goals as goal
use Rattle.temperley_lieb.proofs.operations.multiply.Goals.{then-above-ne0, else-above-ne0}

pub collect_row-requires-clause-sum : goal.collect_row-requires-clause-sum
collect_row-requires-clause-sum c =
    element_read c.ring-ring.result.now c.args.x.now.strands (flat_map (row c.loop_value-delta.result c.args.x.now.strands c.args.y.now.terms) (take c.loop-above.above-index c.terms-above-items.result.now)) c.loop-above.product (omega arith) c.loop-above.invariant

pub loop-above-preserved : goal.loop-above-preserved
loop-above-preserved c =
    let m = c.ring-ring.result.now in
    let d = c.loop_value-delta.result in
    let n = c.args.x.now.strands in
    let xs = c.terms-above-items.result.now in
    let ys = c.args.y.now.terms in
    let i = c.loop-above.above-index in
    let t : Term = c.above-item.result in
    let P : Element → Type 0 = λ e. e ≡ element_of n (collected m n (flat_map (row d n ys) (take (i + 1) xs))) in
    elim c.if-above-ne0.branch [
      | then-above-ne0 w ↦
          subst P (sym w.product-is) (row_added m d n xs ys i t c.loop-above.product w.collect_row.new.sum (omega arith) c.loop-above-test.true c.above-item.is c.loop-above.invariant w.collect_row.ensures)
      | else-above-ne0 w ↦
          subst P (sym w.product-is) (row_skipped m d n xs ys i t c.loop-above.product (omega arith) c.loop-above-test.true c.above-item.is c.loop-above.invariant (sym (ap (λ k. k.weight) c.above.view_is) ∙ w.if-above-ne0.false))
    ]

pub returns-clause-below : goal.returns-clause-below
returns-clause-below c =
    let whole = element_read c.ring-ring.result.now c.args.x.now.strands (flat_map (row c.loop_value-delta.result c.args.x.now.strands c.args.y.now.terms) (take c.loop-above.above-index c.terms-above-items.result.now)) c.loop-above.product (omega arith) c.loop-above.invariant in
    subst (λ (k : ℕ). All (λ term. term.weight < k) c.loop-above.product.terms) c.ring-ring.ensures whole.below
