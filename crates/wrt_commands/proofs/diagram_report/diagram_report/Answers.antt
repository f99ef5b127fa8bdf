use Rattle.std.proofs.Common.{◌∙◌}
use Rattle.std.proofs.lemmas.Result.{err_from_is_err_and}
use Rattle.frontier_sweep.specs.Next.{next_of}
use Rattle.wrt_commands.proofs.DiagramLemmas.{order_stops, value_stops}
use Rattle.wrt_commands.proofs.diagram_report.diagram_report.Goals as goal

pub returns-in_err-chooser : goal.returns-in_err-chooser
returns-in_err-chooser c =
    let p = err_from_is_err_and c.from_residual-in_err-chooser.result c.from_residual-in_err-chooser.ensures.1 in
    rw p.1 (order_stops c.args.params.now c.args.sweep.now c.args.diagram c.in_ok-plane.plane c.in_ok-plane.ensures _ (c.items.ensures.items ∙ c.diagram.ensures.diagram) _ p.0 p.2 c.in_err-chooser.ensures)

pub returns-in_err-value : goal.returns-in_err-value
returns-in_err-value c =
    let p = err_from_is_err_and c.from_residual-in_err-value.result c.from_residual-in_err-value.ensures.1 in
    rw p.1 (value_stops c.args.params.now c.args.sweep.now c.args.diagram c.in_ok-plane.plane c.in_ok-plane.ensures _ (c.items.ensures.items ∙ c.diagram.ensures.diagram)
    (next_of c.in_ok-chooser.chooser) c.in_ok-chooser.ensures _ p.0 p.2 c.in_err-value.ensures)
