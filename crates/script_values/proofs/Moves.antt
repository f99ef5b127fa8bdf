-- What a move, which is no slide, gives a drawing.
use Rattle.std.proofs.Common.{◌≡◌, ◌⊎◌, inl, inr, true, false, List, Err, refl, ap, ◌∙◌}
use Rattle.pd_reader.specs.declared.item.Item.{Item}
use Rattle.planar_check.specs.Framings.{FramedDiagram}
use Rattle.script_reader.specs.declared.step.Step.{Step}
use Rattle.script_reader.specs.declared.step.Step.TheVariants.{R2, R2Undo, R3, Curl, CurlUndo, BlowUp, Slide}
use Rattle.script_reader.specs.Steps.{is_slide}
use Rattle.diagram_moves.specs.declared.fault.MoveFault.{MoveFault}
use Rattle.diagram_moves.specs.declared.fault.MoveFault.TheVariants as moves
use Rattle.diagram_moves.specs.Scripts.{applied}
use Rattle.move_script.specs.FramedMoves.{applied_framed}
use Rattle.script_values.specs.declared.drawing.Drawing.TheVariants.{Plain, Framed, Coloured}
use Rattle.script_values.specs.declared.step_fault.StepFault.TheVariants as steps
use Rattle.script_values.specs.Colours.{ColouredDiagram, moved_coloured}
use Rattle.script_values.specs.Drawings.{coloured_of, framed_of, made, plain_of}
use Rattle.script_values.specs.Refusals.{fault_of_move}

pub plain_move : (items : List Item) (step : Step) → is_slide step ≡ false → made (Plain items) step ≡ plain_of (applied items step)
plain_move items (R2 over under) other = refl
plain_move items (R2Undo first second) other = refl
plain_move items (R3 first second third) other = refl
plain_move items (Curl edge sign) other = refl
plain_move items (CurlUndo crossing) other = refl
plain_move items (BlowUp sign) other = refl
plain_move items (Slide edge along) other = absurd (let e : true ≡ false = other in cc)

pub framed_move : (framed : FramedDiagram) (step : Step) → is_slide step ≡ false → made (Framed framed) step ≡ framed_of (applied_framed framed step)
framed_move framed (R2 over under) other = refl
framed_move framed (R2Undo first second) other = refl
framed_move framed (R3 first second third) other = refl
framed_move framed (Curl edge sign) other = refl
framed_move framed (CurlUndo crossing) other = refl
framed_move framed (BlowUp sign) other = refl
framed_move framed (Slide edge along) other = absurd (let e : true ≡ false = other in cc)

pub coloured_move : (coloured : ColouredDiagram) (step : Step) → is_slide step ≡ false → made (Coloured coloured) step ≡ coloured_of (moved_coloured coloured step)
coloured_move coloured (R2 over under) other = refl
coloured_move coloured (R2Undo first second) other = refl
coloured_move coloured (R3 first second third) other = refl
coloured_move coloured (Curl edge sign) other = refl
coloured_move coloured (CurlUndo crossing) other = refl
coloured_move coloured (BlowUp sign) other = refl
coloured_move coloured (Slide edge along) other = absurd (let e : true ≡ false = other in cc)

-- a coloured move that is refused, or for which memory was wanting, is told so
pub coloured_refused : (coloured : ColouredDiagram) (step : Step) (fault : MoveFault) → is_slide step ≡ false → (fault ≡ moves.Memory) ⊎ (moved_coloured coloured step ≡ Err fault) →
    (fault_of_move fault ≡ steps.Memory) ⊎ (made (Coloured coloured) step ≡ Err (fault_of_move fault))
coloured_refused coloured step fault other (inl memory) = inl (ap fault_of_move memory)
coloured_refused coloured step fault other (inr is) = inr (coloured_move coloured step other ∙ ap coloured_of is)
