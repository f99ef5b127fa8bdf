use Rattle.std.proofs.Common.{◌≡◌, ◌∙◌, ◌+◌, ◌∷◌, [], drop, length, length-append, Ok, sym, ap, subst, arith}
use Rattle.std.specs.List.{AllByRecursion}
use Rattle.text_shapes.proofs.Elements.{All-push}
use Rattle.script_values.specs.Drawings.{ColoursFit}
use Rattle.script_values.specs.Scripts.{Fails, drawings}
use Rattle.script_values.specs.declared.fault.ScriptFault.{ScriptFault}
use Rattle.script_values.proofs.Played.{before, begins, dropped, one_more_step, no_more_steps, no_steps_left}
use Rattle.script_values.proofs.script.drawings.Goals as goal

pub loop-index-init : goal.loop-index-init
loop-index-init c =
    let whole = drawings 1 c.args.first c.args.steps.now in
    record {
      count = ap length c.new-all.ensures.items;
      given = begins whole ∙ ap (λ done. before done whole) (sym c.new-all.ensures.items);
      room = omega arith;
      fit = λ p fits. (subst (AllByRecursion (ColoursFit p)) (sym c.new-all.ensures.items) tt, fits);
    }

pub apply-requires : goal.apply-requires
apply-requires c =
    let low = c.loop-index.invariant.room in let room = c.requires.room in let more = c.loop-index-test.true in
    record { room = omega (arith, low, room, more) }

pub returns-in-Err : goal.returns-in-Err
returns-in-Err c =
    let F : ScriptFault → Type 0 = λ f. Fails (drawings 1 c.args.first c.args.steps.now) f in
    record {
      drawings = subst F (sym c.of_step.ensures)
          (no_more_steps (c.loop-index.index + 1) c.loop-index.all.items c.loop-index.last (drop c.loop-index.index c.args.steps.now) _ _ (dropped c.args.steps.now c.loop-index.index _ c.loop-index-test.true)
          (drawings 1 c.args.first c.args.steps.now) c.loop-index.invariant.given c.in-Err.fault c.in-Err.ensures.refused);
      count = tt;
      fit = tt;
    }

pub loop-index-preserved : goal.loop-index-preserved
loop-index-preserved c =
    let whole = drawings 1 c.args.first c.args.steps.now in
    let rest = drop (c.loop-index.index + 1) c.args.steps.now in
    let made = one_more_step (c.loop-index.index + 1) c.loop-index.all.items c.loop-index.last (drop c.loop-index.index c.args.steps.now) rest _ (dropped c.args.steps.now c.loop-index.index _ c.loop-index-test.true)
    c.in-Ok.next c.in-Ok.ensures.made in
    let low = c.loop-index.invariant.room in let step = c.in-Ok.ensures.greatest in
    let items = c.in_ok-push.ensures.items in let more = length-append c.loop-index.all.items (c.loop-index.last ∷ []) in
    record {
      count = ap length items ∙ more ∙ ap (λ n. n + 1) c.loop-index.invariant.count;
      given = c.loop-index.invariant.given ∙ made ∙ ap (λ done. before done (drawings (c.loop-index.index + 1 + 1) c.in-Ok.next rest)) (sym items);
      room = omega (arith, low, step);
      fit = λ p fits.
          let so_far = c.loop-index.invariant.fit p fits in
          (subst (AllByRecursion (ColoursFit p)) (sym items) (All-push (ColoursFit p) c.loop-index.all.items c.loop-index.last so_far.0 so_far.1), c.in-Ok.ensures.fit p so_far.1);
    }

pub returns-clause-drawings : goal.returns-clause-drawings
returns-clause-drawings c =
    let past = c.loop-index-test.false in
    no_steps_left (drawings 1 c.args.first c.args.steps.now) (c.loop-index.index + 1) c.loop-index.index c.loop-index.all.items c.loop-index.last c.args.steps.now c.loop-index.invariant.given (omega (arith, past))
    ∙ ap Ok (sym c.in_ok-push-2.ensures.items)

pub returns-clause-count : goal.returns-clause-count
returns-clause-count c =
    let items = c.in_ok-push-2.ensures.items in let count = c.loop-index.invariant.count in let more = length-append c.loop-index.all.items (c.loop-index.last ∷ []) in
    let past = c.loop-index-test.false in let within = c.loop-index.auto.index-end in
    let all : c.loop-index.index ≡ length c.args.steps.now = omega (arith, past, within) in
    ap length items ∙ more ∙ ap (λ n. n + 1) (count ∙ all)

pub returns-clause-fit : goal.returns-clause-fit
returns-clause-fit c p fits =
    let so_far = c.loop-index.invariant.fit p fits in
    subst (AllByRecursion (ColoursFit p)) (sym c.in_ok-push-2.ensures.items) (All-push (ColoursFit p) c.loop-index.all.items c.loop-index.last so_far.0 so_far.1)
