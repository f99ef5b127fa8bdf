use Rattle.std.proofs.lemmas.Result.{err_from_is_err_and}
use Rattle.wrt_commands.specs.ColourFits.{fit_components}
use Rattle.wrt_commands.specs.ColouredReports.{fitted_report}
use Rattle.wrt_commands.specs.DiagramReports.{planar}
use Rattle.wrt_commands.proofs.SweptLemmas.{colours_stop, colours_fit}
use Rattle.wrt_commands.proofs.coloured_report.coloured_report.Goals as goal

pub returns-in_err-fit_components : goal.returns-in_err-fit_components
returns-in_err-fit_components c =
    let p = err_from_is_err_and c.from_residual-in_err-fit_components.result c.from_residual-in_err-fit_components.ensures.1 in
    rw p.1 (colours_stop (planar c.args.diagram) (λ seen. fit_components c.args.params.now seen c.args.colours.now) (fitted_report c.args.params.now c.args.sweep.now c.args.colours.now) c.in_ok-plane.plane c.in_ok-plane.ensures _ p.0 p.2 c.in_err-fit_components.ensures.answer)

pub returns : goal.returns
returns c =
    colours_fit (planar c.args.diagram) (λ seen. fit_components c.args.params.now seen c.args.colours.now) (fitted_report c.args.params.now c.args.sweep.now c.args.colours.now) c.in_ok-plane.plane c.in_ok-plane.ensures c.in_ok-fit_components.ensures.answer c.fitted_report.result c.fitted_report.ensures
