-- R2 keeps the coloured value: what an accepted step gives.
use Rattle.std.proofs.Common.{◌≡◌, List, length, sym, ap, ◌∙◌, subst}
use Rattle.pd_reader.specs.declared.item.Item.{Item}
use Rattle.pd_reader.specs.Diagrams.{IsDiagram}
use Rattle.diagram_moves.specs.Moves.{plain, pushed}
use Rattle.script_reader.specs.declared.step.Step.TheVariants.{R2}
use Rattle.diagram_moves.specs.Steps.{Moved}
use Rattle.diagram_moves.proofs.Accepted.{finished_Ok}
use Rattle.diagram_moves.proofs.Results.{push_accepted}
use Rattle.move_results.proofs.DiagramResults.{as_paired, diagram_again}
use Rattle.move_results.proofs.PushedComponents.{pushed_components}
use Rattle.coloured_values.specs.Coloured.{coloured}
use Rattle.coloured_moves.specs.Laws.{ColouredPushLaw}
use Rattle.coloured_moves.proofs.PushedCables.{pushed_coloured}

pub coloured_push : ColouredPushLaw
coloured_push p items e f moved colours is room has h =
    let r = push_accepted items e f moved h in
    let result : moved.items ≡ pushed items e f r.0 r.1 = ap (λ (w : Moved). w.items) (finished_Ok plain (pushed items e f r.0 r.1) moved r.5) in
    let pd = as_paired items is in
    let D : List Item → Type 0 = λ is. IsDiagram is in
    let again = subst D result (diagram_again items (R2 e f) moved is room h) in
    let comps = pushed_components items pd e f r.2 r.3 r.4 r.0 r.1 in
    ap (λ is. coloured p is colours) result
    ∙ pushed_coloured p items pd e f r.2 r.3 r.4 r.0 r.1 colours room again record { count = has.count ∙ sym (ap length comps); few = has.few }
