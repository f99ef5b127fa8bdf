use Rattle.std.proofs.Common.{string_bytes}
use Rattle.std.proofs.lemmas.Result.{err_from_is_err_and}
use Rattle.wrt_commands.specs.ColouredReports.{coloured_report}
use Rattle.wrt_commands.specs.Inputs.{IsPdOutcome}
use Rattle.wrt_commands.proofs.InputLemmas.{text_stops, text_answers}
use Rattle.wrt_commands.proofs.colored.colored_report.Goals as goal

pub returns-in_err-diagram : goal.returns-in_err-diagram
returns-in_err-diagram c =
    let p = err_from_is_err_and c.from_residual.result c.from_residual.ensures.1 in
    rw p.1 (text_stops IsPdOutcome (coloured_report c.args.params.now c.args.sweep.now c.args.colours.now) c.args.bytes.now c.requires _ p.0 p.2 c.in_err-diagram.ensures)

pub returns : goal.returns
returns c =
    text_answers IsPdOutcome (coloured_report c.args.params.now c.args.sweep.now c.args.colours.now) c.args.bytes.now string_bytes c.in_ok-diagram.diagram c.requires c.in_ok-diagram.ensures c.coloured_report.result c.coloured_report.ensures
