use Rattle.std.proofs.Common.{◌≡◌, ◌<◌, ◌+◌, suc, Some, sym, ap, ◌∙◌, arith, add-one, subst}
use Rattle.inertia_laws.proofs.FirstStep.{FitBelow, FitBelow-more, leaves_at, leaves_nowhere}
use Rattle.inertia_cert.specs.SymmetricMatrices.{entry}
use Rattle.inertia_cert.specs.Eliminations.{size_of, state}
use Rattle.inertia_cert.proofs.Stages.{one_more, same_fit}
use Rattle.inertia_cert.proofs.certificate.eliminate.Goals as goal

pub returns-in-Err-OutOfBits-step-clause-range : goal.returns-in-Err-OutOfBits-step-clause-range
returns-in-Err-OutOfBits-step-clause-range c = λ at e.
    let n = c.args.matrix.now.size in
    let k = c.loop-place.place in
    let within : k < n = omega (arith, c.size-place-end.ensures.value) in
    let step_is : k + 1 ≡ at = cc in
    let fit = same_fit n (size_of c.loop-place.now) k (entry c.args.matrix.now) c.loop-place.invariant.sized within (state c.loop-place.now) c.loop-place.invariant.reached in
    let leaves = rw c.in-Err-OutOfBits-step.field-0-is at c.in-Err-OutOfBits-step.ensures.refused in
    leaves_at n (entry c.args.matrix.now) k within c.loop-place.invariant.fit (sym fit ∙ leaves) ∙ ap Some (let same : suc k ≡ at = omega arith in same)

pub loop-place-preserved : goal.loop-place-preserved
loop-place-preserved c =
    let n = c.args.matrix.now.size in
    let k = c.loop-place.place in
    let within : k < n = omega (arith, c.size-place-end.ensures.value) in
    let fit = same_fit n (size_of c.loop-place.now) k (entry c.args.matrix.now) c.loop-place.invariant.sized within (state c.loop-place.now) c.loop-place.invariant.reached in
    rw add-one
    (record {
      sized = c.in-Ok-step.ensures.sized ∙ c.loop-place.invariant.sized;
      reached = one_more n (size_of c.loop-place.now) k (entry c.args.matrix.now) c.loop-place.invariant.sized within (state c.loop-place.now) c.loop-place.invariant.reached (state c.in-Ok-step.next) c.in-Ok-step.ensures.made;
      fit = FitBelow-more n (entry c.args.matrix.now) k c.loop-place.invariant.fit (sym fit ∙ c.in-Ok-step.ensures.fit);
    })

pub returns-clause-in_range : goal.returns-clause-in_range
returns-clause-in_range c =
    let all : c.loop-place.place ≡ c.args.matrix.now.size = omega (arith, c.size-place-end.ensures.value) in
    leaves_nowhere c.args.matrix.now.size (entry c.args.matrix.now) (subst (FitBelow c.args.matrix.now.size (entry c.args.matrix.now)) all c.loop-place.invariant.fit)
