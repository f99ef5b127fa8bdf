use Rattle.std.proofs.Common.{[], ◌∷◌, codes}
use Rattle.std.proofs.lemmas.Result.{err_from_is_err_and}
use Rattle.script_reader.specs.declared.argument.StepArgument.TheVariants as arguments
use Rattle.script_reader.proofs.StepCalls.{makes_r2, r2_word}
use Rattle.script_reader.proofs.StepReadings.{step_found, step_missed}
use Rattle.script_reader.proofs.step.read_r2.Goals as goal

pub read_pair-requires-clause-word : goal.read_pair-requires-clause-word
read_pair-requires-clause-word c = r2_word

pub returns-in_err-over-clause-err : goal.returns-in_err-over-clause-err
returns-in_err-over-clause-err c =
    let p = err_from_is_err_and c.from_residual.result c.from_residual.ensures.1 in
    rw (p.1, p.2) (step_missed c.args.bytes.now c.args.at (codes "R2") makes_r2 c.in_err-over.field-0.0 c.in_err-over.ensures.err)

pub returns-clause-ok : goal.returns-clause-ok
returns-clause-ok c =
    step_found c.args.bytes.now c.args.at (codes "R2") makes_r2 (arguments.Number c.in_ok-over.over ∷ arguments.Number c.in_ok-over.under ∷ []) c.in_ok-over.next c.in_ok-over.ensures.ok c.in_ok-over.ensures.others
