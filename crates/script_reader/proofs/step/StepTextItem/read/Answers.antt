use Rattle.script_reader.proofs.StepReadings.{no_step}
use Rattle.script_reader.proofs.step.StepTextItem.read.Goals as goal

pub returns-clause-err : goal.returns-clause-err
returns-clause-err c =
    rw (c.max-6.ensures, c.max-5.ensures, c.max-4.ensures, c.max-3.ensures, c.max-2.ensures, c.max.ensures)
    (no_step c.args.bytes.now c.args.at c.in-Err.p c.in-Err-read_r2_undo.p c.in-Err-read_r3.p c.in-Err-read_curl.p c.in-Err-read_curl_undo.p c.in-Err-read_blow_up.p c.in-Err-read_slide.p
    c.in-Err.ensures.err c.in-Err-read_r2_undo.ensures.err c.in-Err-read_r3.ensures.err c.in-Err-read_curl.ensures.err c.in-Err-read_curl_undo.ensures.err c.in-Err-read_blow_up.ensures.err c.in-Err-read_slide.ensures.err)
