use Rattle.std.proofs.Common.{ℕ, ◌&&◌, pred, sym, ap, ap₂, ◌∙◌, arith, add-one}
use Rattle.inertia_laws.specs.Fractions.{Fraction, plus, times}
use Rattle.inertia_laws.specs.Range.{add_fits, multiply_fits}
use Rattle.inertia_laws.specs.Checking.{sum_fits}
use Rattle.inertia_laws.proofs.FirstStep.{every-false}
use Rattle.list_lemmas.proofs.Bools.{and_first, and_second}
use Rattle.inertia_cert.specs.Values.{value}
use Rattle.inertia_cert.proofs.SumSteps.{sum_more, fits_more, sum_refused}
use Rattle.inertia_cert.proofs.sums.dot.Goals as goal

pub returns-in_err-sum : goal.returns-in_err-sum
returns-in_err-sum g c =
    let x = g.L.Line.gives c.args.left.now in
    let y = g.R.Line.gives c.args.right.now in
    rw c.from_residual.ensures
    (ap (λ b. b && sum_fits (pred c.args.count) (λ k. times (x k) (y k)))
    (every-false c.args.count 0 (λ k. multiply_fits (x k) (y k)) c.requires.some (sym (ap₂ multiply_fits c.at.ensures c.at-2.ensures) ∙ c.in_err-sum.ensures {u = tt})))

pub returns-in_err-sum-2 : goal.returns-in_err-sum-2
returns-in_err-sum-2 g c =
    let x = g.L.Line.gives c.args.left.now in
    let y = g.R.Line.gives c.args.right.now in
    let s = value c.loop-place.sum in
    rw c.from_residual-in_err-sum-2.ensures
    (sum_refused c.args.count c.loop-place.place (λ k. multiply_fits (x k) (y k)) (λ k. times (x k) (y k)) s (omega arith) (omega arith) c.loop-place.invariant.sum
    (sym (ap₂ (λ u v. multiply_fits u v && add_fits s (times u v)) c.at-in-loop-place.ensures c.at-in-loop-place-2.ensures) ∙ c.in_err-sum-2.ensures {u = tt}))

pub loop-place-preserved : goal.loop-place-preserved
loop-place-preserved g c =
    let x = g.L.Line.gives c.args.left.now in
    let y = g.R.Line.gives c.args.right.now in
    let f : ℕ → Fraction = λ k. times (x k) (y k) in
    let k = c.loop-place.place in
    let s = value c.loop-place.sum in
    let made = c.in_ok-sum-2.ensures {u = tt} in
    let fits = sym (ap₂ (λ u v. multiply_fits u v && add_fits s (times u v)) c.at-in-loop-place.ensures c.at-in-loop-place-2.ensures) ∙ made.0 in
    rw add-one
    (record {
      sum = made.1 ∙ (ap₂ (λ u v. plus s (times u v)) c.at-in-loop-place.ensures c.at-in-loop-place-2.ensures ∙ sum_more k f s (omega arith) c.loop-place.invariant.sum);
      fit = ap₂ (λ u v. u && v) c.loop-place.invariant.fit (and_first _ _ fits);
      sums_fit = fits_more k f s (omega arith) c.loop-place.invariant.sum c.loop-place.invariant.sums_fit (and_second _ _ fits);
    })
