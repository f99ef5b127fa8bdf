use Rattle.std.proofs.Common.{ap, codes, subst}
use Rattle.std.proofs.lemmas.Result.{err_from_is_err_and}
use Rattle.text_shapes.specs.Readers.{Found}
use Rattle.planar_check.specs.declared.sign.Sign.{Sign}
use Rattle.script_reader.specs.declared.step.Step.{Step}
use Rattle.script_reader.specs.declared.step.Step.TheVariants as steps
use Rattle.script_reader.specs.StepTexts.{IsTextStep, step_tokens}
use Rattle.script_reader.proofs.StepCalls.{makes_blow_up, sign_in, blow_up_word}
use Rattle.script_reader.proofs.StepReadings.{step_found, step_missed}
use Rattle.script_reader.proofs.step.read_blow_up.Goals as goal

pub read_call-requires-clause-word : goal.read_call-requires-clause-word
read_call-requires-clause-word c = blow_up_word

pub returns-in_err-next-clause-err : goal.returns-in_err-next-clause-err
returns-in_err-next-clause-err c =
    let p = err_from_is_err_and c.from_residual.result c.from_residual.ensures.1 in
    rw (p.1, p.2) (step_missed c.args.bytes.now c.args.at (codes "BlowUp") makes_blow_up c.in_err-next.field-0.0 c.in_err-next.ensures.err)

pub returns-clause-ok : goal.returns-clause-ok
returns-clause-ok c =
    let same = ap (λ (v : Sign). steps.BlowUp v) (ap sign_in c.sign-sign.ensures) in
    subst (λ (step : Step). Found IsTextStep step_tokens c.args.bytes.now c.args.at step c.in_ok-next.next) same
    (step_found c.args.bytes.now c.args.at (codes "BlowUp") makes_blow_up c.read_call.new.slots c.in_ok-next.next c.in_ok-next.ensures.ok c.in_ok-next.ensures.others)
