use Rattle.std.proofs.Common.{string_bytes}
use Rattle.std.proofs.lemmas.Result.{err_from_is_err_and}
use Rattle.wrt_commands.specs.Inputs.{IsPdOutcome}
use Rattle.wrt_commands.specs.SurgeryReports.{surgery_report}
use Rattle.wrt_commands.specs.WrtOutcomes.{framing_list}
use Rattle.wrt_commands.proofs.InputLemmas.{text_stops, text_answers}
use Rattle.wrt_commands.proofs.wrt.wrt_report.Goals as goal

pub returns-in_err-diagram : goal.returns-in_err-diagram
returns-in_err-diagram g c =
    let p = err_from_is_err_and c.from_residual.result c.from_residual.ensures.1 in
    rw p.1 (text_stops IsPdOutcome (surgery_report c.args.params.now c.args.sweep.now (framing_list c.args.framings.now)) c.args.bytes.now c.requires.length _ p.0 p.2 c.in_err-diagram.ensures)

pub returns : goal.returns
returns g c =
    text_answers IsPdOutcome (surgery_report c.args.params.now c.args.sweep.now (framing_list c.args.framings.now)) c.args.bytes.now string_bytes c.in_ok-diagram.diagram c.requires.length c.in_ok-diagram.ensures
    c.surgery_report.result (rw c.framing_list-framings.ensures at c.surgery_report.ensures)
