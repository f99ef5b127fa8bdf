use Rattle.std.proofs.Common.{ℕ, ◌+◌, ◌-◌, ◌<◌, List, [], ◌∷◌, ◌++◌, length, slice_index, sym, ap, ◌∙◌, append_assoc, arith}
use Rattle.planar_check.specs.Planar.{next_in_face}
use Rattle.planar_check.specs.Faces.{cycle_from}
use Rattle.planar_check.proofs.FaceSteps.{cycle_goes_on, cycle_ends}
use Rattle.planar_check.proofs.face.places_from.Goals as goal

pub returns-then-place-start : goal.returns-then-place-start
returns-then-place-start c =
    let next = next_in_face c.args.after.now c.args.others.now in
    let n = length c.args.others.now in
    let before = c.loop-step.places.items in
    c.in_ok-push.ensures.items
    ∙ sym (c.loop-step.invariant.cycle ∙ ap (λ (ps : List ℕ). before ++ ps) (cycle_ends next c.args.start c.loop-step.place c.loop-step._step n c.loop-step-test.true c.if-place-start.true))

pub loop-step-preserved : goal.loop-step-preserved
loop-step-preserved c =
    let next = next_in_face c.args.after.now c.args.others.now in
    let n = length c.args.others.now in
    let p = c.loop-step.place in
    let before = c.loop-step.places.items in
    let rest = cycle_from next c.args.start (next p) (n - (c.loop-step._step + 1)) in
    let across : slice_index c.args.others.now p < length c.args.after.now = omega (arith, c.requires.others_in_range p 0 c.loop-step.invariant.in_range, c.requires.same_length) in
    record {
      cycle = c.loop-step.invariant.cycle
          ∙ (ap (λ (ps : List ℕ). before ++ ps) (cycle_goes_on next c.args.start p c.loop-step._step n c.loop-step-test.true c.if-place-start.false)
          ∙ (sym (append_assoc before (p ∷ []) rest) ∙ ap (λ (ps : List ℕ). ps ++ rest) (sym c.in_ok-push.ensures.items)));
      in_range = c.requires.after_in_range (slice_index c.args.others.now p) 0 across;
    }
