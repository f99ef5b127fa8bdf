use Rattle.std.proofs.Common.{string_bytes}
use Rattle.std.proofs.lemmas.Result.{err_from_is_err_and}
use Rattle.wrt_commands.specs.BraidOutcomes.{braid_report}
use Rattle.wrt_commands.specs.Inputs.{IsBraidTextOutcome}
use Rattle.wrt_commands.proofs.InputLemmas.{text_stops, text_answers}
use Rattle.wrt_commands.proofs.braid.closed_braid_report.Goals as goal

pub returns-in_err-braid : goal.returns-in_err-braid
returns-in_err-braid c =
    let p = err_from_is_err_and c.from_residual.result c.from_residual.ensures.1 in
    rw p.1 (text_stops IsBraidTextOutcome (braid_report c.args.params.now) c.args.bytes.now c.requires _ p.0 p.2 c.in_err-braid.ensures)

pub returns : goal.returns
returns c =
    text_answers IsBraidTextOutcome (braid_report c.args.params.now) c.args.bytes.now string_bytes c.in_ok-braid.braid c.requires c.in_ok-braid.ensures c.trace_report.result c.trace_report.ensures
