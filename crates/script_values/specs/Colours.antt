-- Diagrams whose components have colours, and their steps. (This project's own.)
--
--     ColouredDiagram                 the items of a diagram, and a colour for each of its components
--     colours_after colours step      the colours after a step: each component keeps its own, and a blow-up adds one of colour 1
--     moved_coloured coloured step    the diagram after a step with these colours, or why the step is refused
--     top_label items                 the greatest label
--     HasFit p coloured               there are as many colours as components, none past the top colour at the parameters p
use Rattle.std.specs.Prelude.{◌≡◌, ℕ, List, [], ◌∷◌, ◌++◌, length, None, Result, Ok, Err}
use Rattle.root_quantum.specs.Parameters.{Parameters, top_colour}
use Rattle.pd_reader.specs.declared.item.Item.{Item}
use Rattle.pd_reader.specs.Diagrams.{labels}
use Rattle.pd_reader.specs.Items.{item_labels}
use Rattle.planar_check.specs.Components.{greatest, least_labels}
use Rattle.skein_network.specs.Refusals.{colour_refusal}
use Rattle.script_reader.specs.declared.step.Step.{Step}
use Rattle.script_reader.specs.declared.step.Step.TheVariants.{R2, R2Undo, R3, Curl, CurlUndo, BlowUp, Slide}
use Rattle.diagram_moves.specs.declared.fault.MoveFault.{MoveFault}
use Rattle.diagram_moves.specs.Anchors.{applied_coloured}
use Rattle.diagram_moves.specs.Steps.{Answer}

pub record ColouredDiagram : Type 0 where
  pub items : List Item
  pub colours : List ℕ

-- The colour of a component that a step adds.
abbrev pub added_colours : Step → List ℕ
added_colours (R2 over under) = []
added_colours (R2Undo first second) = []
added_colours (R3 first second third) = []
added_colours (Curl edge sign) = []
added_colours (CurlUndo crossing) = []
added_colours (BlowUp sign) = 1 ∷ []
added_colours (Slide edge along) = []

abbrev pub colours_after : List ℕ → Step → List ℕ
colours_after colours step = colours ++ added_colours step

-- The result of a move with these colours.
abbrev pub with_colours : List ℕ → Answer → Result ColouredDiagram MoveFault
with_colours colours (Ok moved) = Ok record { items = moved.items; colours = colours }
with_colours colours (Err fault) = Err fault

abbrev pub moved_coloured : ColouredDiagram → Step → Result ColouredDiagram MoveFault
moved_coloured coloured step = with_colours (colours_after coloured.colours step) (applied_coloured coloured.items coloured.colours step)

abbrev pub top_label : List Item → ℕ
top_label items = greatest (labels item_labels items)

abbrev pub HasFit : Parameters → ColouredDiagram → Type 0
HasFit p coloured = colour_refusal (top_colour p) (length (least_labels coloured.items)) coloured.colours ≡ None
