use Rattle.std.proofs.Common.{◌∙◌}
use Rattle.std.proofs.lemmas.Result.{err_from_is_err_and}
use Rattle.frontier_sweep.specs.Next.{next_of}
use Rattle.wrt_values.specs.Coloured.{coloured_value}
use Rattle.wrt_commands.specs.DiagramReports.{item_order}
use Rattle.wrt_commands.proofs.SweptLemmas.{order_stops, value_stops}
use Rattle.wrt_commands.proofs.coloured_report.fitted_report.Goals as goal

pub returns-in_err-chooser : goal.returns-in_err-chooser
returns-in_err-chooser c =
    let p = err_from_is_err_and c.from_residual.result c.from_residual.ensures.1 in
    rw p.1 (order_stops (item_order c.args.sweep.now.order) (λ next items. coloured_value next c.args.params.now items c.args.colours.now) c.args.sweep.now.turns c.args.plane.now _ (c.items.ensures.items ∙ c.diagram.ensures.diagram) _ p.0 p.2 c.in_err-chooser.ensures)

pub returns-in_err-value : goal.returns-in_err-value
returns-in_err-value c =
    let p = err_from_is_err_and c.from_residual-in_err-value.result c.from_residual-in_err-value.ensures.1 in
    rw p.1 (value_stops (item_order c.args.sweep.now.order) (λ next items. coloured_value next c.args.params.now items c.args.colours.now) c.args.sweep.now.turns c.args.plane.now _ (c.items.ensures.items ∙ c.diagram.ensures.diagram)
    (next_of c.in_ok-chooser.chooser) c.in_ok-chooser.ensures _ p.0 p.2 c.in_err-value.ensures)
