use Rattle.std.proofs.Common.{string_bytes}
use Rattle.std.proofs.lemmas.Result.{err_from_is_err_and}
use Rattle.wrt_commands.specs.Inputs.{IsScriptTextOutcome}
use Rattle.wrt_commands.specs.MovesReports.{moves_report}
use Rattle.wrt_commands.proofs.InputLemmas.{text_stops, text_answers}
use Rattle.wrt_commands.proofs.moves.script_report.Goals as goal

pub returns-in_err-script : goal.returns-in_err-script
returns-in_err-script g c =
    let p = err_from_is_err_and c.from_residual.result c.from_residual.ensures.1 in
    rw p.1 (text_stops IsScriptTextOutcome (moves_report c.args.params.now c.args.values.now) c.args.bytes.now c.requires _ p.0 p.2 c.in_err-script.ensures.answer)

pub returns : goal.returns
returns g c =
    text_answers IsScriptTextOutcome (moves_report c.args.params.now c.args.values.now) c.args.bytes.now string_bytes c.in_ok-script.script c.requires c.in_ok-script.ensures.answer c.moves_report.result
    c.moves_report.ensures
