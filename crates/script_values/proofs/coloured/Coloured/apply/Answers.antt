use Rattle.std.proofs.Common.{◌∙◌, ℕ, List, sym, ap, subst}
use Rattle.planar_check.specs.Components.{least_labels}
use Rattle.diagram_moves.specs.Steps.{Moved}
use Rattle.script_values.specs.Colours.{HasFit, colours_after}
use Rattle.script_values.proofs.ColoursKept.{fit_after}
use Rattle.script_values.proofs.coloured.Coloured.apply.Goals as goal

pub returns-clause-fit : goal.returns-clause-fit
returns-clause-fit c p fit =
    fit_after p record { items = c.self.inside.planar; colours = c.self.inside.colours.items } c.moved.inside.diagram c.in_ok-colours.colours.items c.args.step.now
    (ap (λ (m : Moved). least_labels m.items) c.moved.view_is ∙ c.in_ok-moved.ensures.components)
    (c.in_ok-colours.ensures ∙ ap (λ (colours : List ℕ). colours_after colours c.args.step.now) c.deref-2.ensures.value)
    (subst (HasFit p) (sym c.self.view_is) fit)
