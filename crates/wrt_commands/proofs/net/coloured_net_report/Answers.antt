use Rattle.std.proofs.Common.{string_bytes}
use Rattle.std.proofs.lemmas.Result.{err_from_is_err_and}
use Rattle.wrt_commands.specs.NetReports.{net_report}
use Rattle.wrt_commands.specs.Inputs.{IsNetTextOutcome}
use Rattle.wrt_commands.proofs.InputLemmas.{text_stops, text_answers}
use Rattle.wrt_commands.proofs.net.coloured_net_report.Goals as goal

pub returns-in_err-net : goal.returns-in_err-net
returns-in_err-net c =
    let p = err_from_is_err_and c.from_residual.result c.from_residual.ensures.1 in
    rw p.1 (text_stops IsNetTextOutcome (net_report c.args.params.now c.args.sweep.now c.args.colours.now) c.args.bytes.now c.requires _ p.0 p.2 c.in_err-net.ensures)

pub returns : goal.returns
returns c =
    text_answers IsNetTextOutcome (net_report c.args.params.now c.args.sweep.now c.args.colours.now) c.args.bytes.now string_bytes c.in_ok-net.net c.requires c.in_ok-net.ensures c.net_report.result c.net_report.ensures
