use Rattle.std.proofs.lemmas.Result.{err_from_is_err_and}
use Rattle.wrt_commands.proofs.NetLemmas.{net_fault_stops}
use Rattle.wrt_commands.proofs.net_report.fit_labels.Goals as goal

pub returns-in_err-check_net_colours-clause-answer : goal.returns-in_err-check_net_colours-clause-answer
returns-in_err-check_net_colours-clause-answer c =
    let p = err_from_is_err_and c.from_residual.result c.from_residual.ensures.1 in
    rw p.1 (net_fault_stops c.args.net.now c.args.colours.now _ _ c.top_colour.ensures _ p.0 c.in_err-check_net_colours.ensures.refused p.2)
