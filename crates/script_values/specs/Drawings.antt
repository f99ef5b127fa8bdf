-- Diagrams of a script, each with what its value is about. (This project's own.)
--
--     made drawing step          the drawing after a step, or why the step is not made
--     value_in p drawing         its value at the parameters p, in the listed order, or the reason against it
--     greatest_label drawing     the greatest label of its diagram
--     ColoursFit p drawing       colours, where it has any, are not past the top colour at the parameters p
--
-- A diagram alone has its bracket, a framed one its surgery value, a coloured one its value with these colours and the diagram's own
-- framing. A slide asks for framings.
use Rattle.std.specs.Prelude.{ℕ, Result, Ok, Err}
use Rattle.root_quantum.specs.Parameters.{Parameters}
use Rattle.planar_check.specs.Framings.{FramedDiagram}
use Rattle.frontier_laws.specs.Orders.{listed_of}
use Rattle.script_reader.specs.declared.step.Step.{Step}
use Rattle.script_reader.specs.declared.step.Step.TheVariants.{Slide}
use Rattle.diagram_moves.specs.Scripts.{applied}
use Rattle.diagram_moves.specs.Steps.{Answer}
use Rattle.diagram_moves.specs.declared.fault.MoveFault.{MoveFault}
use Rattle.move_script.specs.FramedMoves.{applied_framed}
use Rattle.slide_laws.specs.Slides.{SlidDiagram, slid}
use Rattle.slide_laws.specs.declared.fault.SlideFault.{SlideFault}
use Rattle.wrt_values.specs.Coloured.{coloured_value}
use Rattle.wrt_values.specs.Surgery.{surgery_value}
use Rattle.wrt_values.specs.Values.{bracket_value}
use Rattle.wrt_values.specs.declared.fault.ValueRefusal.{ValueRefusal}
use Rattle.wrt_values.specs.declared.value.Value.{Value}
use Rattle.script_values.specs.declared.drawing.Drawing.{Drawing}
use Rattle.script_values.specs.declared.drawing.Drawing.TheVariants.{Plain, Framed, Coloured}
use Rattle.script_values.specs.declared.step_fault.StepFault.{StepFault}
use Rattle.script_values.specs.declared.step_fault.StepFault.TheVariants.{Refused}
use Rattle.script_values.specs.declared.step_refusal.StepRefusal.TheVariants.{SlideNeedsFramings}
use Rattle.script_values.specs.Colours.{ColouredDiagram, HasFit, moved_coloured, top_label}
use Rattle.script_values.specs.Refusals.{fault_of_move, fault_of_slide}

-- The diagram that a move gives, without its factor.
abbrev pub plain_of : Answer → Result Drawing StepFault
plain_of (Ok moved) = Ok (Plain moved.items)
plain_of (Err fault) = Err (fault_of_move fault)

-- The framed diagram that it gives.
abbrev pub framed_of : Result FramedDiagram MoveFault → Result Drawing StepFault
framed_of (Ok framed) = Ok (Framed framed)
framed_of (Err fault) = Err (fault_of_move fault)

-- The coloured diagram that it gives.
abbrev pub coloured_of : Result ColouredDiagram MoveFault → Result Drawing StepFault
coloured_of (Ok coloured) = Ok (Coloured coloured)
coloured_of (Err fault) = Err (fault_of_move fault)

-- The framed diagram that a slide gives.
abbrev pub slid_of : Result SlidDiagram SlideFault → Result Drawing StepFault
slid_of (Ok result) = Ok (Framed result.framed)
slid_of (Err fault) = Err (fault_of_slide fault)

abbrev pub made : Drawing → Step → Result Drawing StepFault
made (Plain items) (Slide edge along) = Err (Refused SlideNeedsFramings)
made (Plain items) step = plain_of (applied items step)
made (Framed framed) (Slide edge along) = slid_of (slid framed edge along)
made (Framed framed) step = framed_of (applied_framed framed step)
made (Coloured coloured) (Slide edge along) = Err (Refused SlideNeedsFramings)
made (Coloured coloured) step = coloured_of (moved_coloured coloured step)

abbrev pub value_in : Parameters → Drawing → Result Value ValueRefusal
value_in p (Plain items) = bracket_value listed_of p items
value_in p (Framed framed) = surgery_value listed_of p framed
value_in p (Coloured coloured) = coloured_value listed_of p coloured.items coloured.colours

abbrev pub greatest_label : Drawing → ℕ
greatest_label (Plain items) = top_label items
greatest_label (Framed framed) = top_label framed.items
greatest_label (Coloured coloured) = top_label coloured.items

abbrev pub ColoursFit : Parameters → Drawing → Type 0
ColoursFit p (Plain items) = Unit {0}
ColoursFit p (Framed framed) = Unit {0}
ColoursFit p (Coloured coloured) = HasFit p coloured
