use Rattle.std.proofs.lemmas.Result.{err_from_is_err_and}
use Rattle.wrt_commands.specs.NetReports.{planar_net, fit_labels, fitted_net_report}
use Rattle.wrt_commands.proofs.SweptLemmas.{colours_stop, colours_fit}
use Rattle.wrt_commands.proofs.net_report.net_report.Goals as goal

pub returns-in_err-fit_labels : goal.returns-in_err-fit_labels
returns-in_err-fit_labels c =
    let p = err_from_is_err_and c.from_residual-in_err-fit_labels.result c.from_residual-in_err-fit_labels.ensures.1 in
    rw p.1 (colours_stop (planar_net c.args.net) (λ seen. fit_labels c.args.params.now seen c.args.colours.now) (fitted_net_report c.args.params.now c.args.sweep.now c.args.colours.now) c.in_ok-plane.plane c.in_ok-plane.ensures _ p.0 p.2 c.in_err-fit_labels.ensures.answer)

pub returns : goal.returns
returns c =
    colours_fit (planar_net c.args.net) (λ seen. fit_labels c.args.params.now seen c.args.colours.now) (fitted_net_report c.args.params.now c.args.sweep.now c.args.colours.now) c.in_ok-plane.plane c.in_ok-plane.ensures c.in_ok-fit_labels.ensures.answer c.fitted_net_report.result c.fitted_net_report.ensures
