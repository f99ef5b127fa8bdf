use Rattle.std.proofs.Common.{◌∙◌, ◌++◌, List, ap}
use Rattle.pd_reader.specs.declared.item.Item.{Item}
use Rattle.planar_check.specs.Components.{least_labels}
use Rattle.diagram_moves.specs.Steps.{Moved}
use Rattle.move_results.specs.Laws.{added}
use Rattle.move_script.proofs.FramingsKept.{framed_after}
use Rattle.move_script.proofs.framed.apply_framed.Goals as goal

pub framed_with-requires : goal.framed_with-requires
framed_with-requires c =
    let labels = ap (λ (m : Moved). least_labels m.items) c.moved.view_is ∙ c.in_ok-moved.ensures.components ∙ ap (λ (its : List Item). least_labels its ++ added c.args.step.now its) c.planar.ensures.planar in
    framed_after c.args.framed.now c.args.step.now c.moved.inside.diagram c.deref.result.now c.planar.ensures.framed labels (c.deref.ensures.value ∙ c.in_ok-framings.ensures.framings)
