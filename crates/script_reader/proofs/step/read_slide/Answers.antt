use Rattle.std.proofs.Common.{[], ◌∷◌, codes}
use Rattle.std.proofs.lemmas.Result.{err_from_is_err_and}
use Rattle.script_reader.specs.declared.argument.StepArgument.TheVariants as arguments
use Rattle.script_reader.proofs.StepCalls.{makes_slide, slide_word}
use Rattle.script_reader.proofs.StepReadings.{step_found, step_missed}
use Rattle.script_reader.proofs.step.read_slide.Goals as goal

pub read_pair-requires-clause-word : goal.read_pair-requires-clause-word
read_pair-requires-clause-word c = slide_word

pub returns-in_err-edge-clause-err : goal.returns-in_err-edge-clause-err
returns-in_err-edge-clause-err c =
    let p = err_from_is_err_and c.from_residual.result c.from_residual.ensures.1 in
    rw (p.1, p.2) (step_missed c.args.bytes.now c.args.at (codes "Slide") makes_slide c.in_err-edge.field-0.0 c.in_err-edge.ensures.err)

pub returns-clause-ok : goal.returns-clause-ok
returns-clause-ok c =
    step_found c.args.bytes.now c.args.at (codes "Slide") makes_slide (arguments.Number c.in_ok-edge.edge ∷ arguments.Number c.in_ok-edge.along ∷ []) c.in_ok-edge.next c.in_ok-edge.ensures.ok c.in_ok-edge.ensures.others
