-- The lines of refused scripts. (This project's own.)
--
--     fault_of_move fault        the fault of a step for this one of a move
--     fault_of_slide fault       the fault of a step for this one of a slide
--     text_of_step refusal       the line of a step's refusal, without the step's number
--     text_of_script refusal     the line of a script's refusal: `step K: ` or `line D: `, and the reason
--     fault_of_step k fault      the script's fault for this one of step k
--     fault_at_line d fault      the script's fault for this one of the value of diagram d
use Rattle.std.specs.Prelude.{ℕ, List, ◌++◌, codes, decimal}
use Rattle.diagram_moves.specs.declared.fault.MoveFault.{MoveFault}
use Rattle.diagram_moves.specs.declared.fault.MoveFault.TheVariants as moves
use Rattle.slide_laws.specs.declared.fault.SlideFault.{SlideFault}
use Rattle.slide_laws.specs.declared.fault.SlideFault.TheVariants as slides
use Rattle.wrt_values.specs.Refusals.{text_of_refusal}
use Rattle.wrt_values.specs.declared.fault.ValueFault.{ValueFault}
use Rattle.wrt_values.specs.declared.fault.ValueFault.TheVariants as values
use Rattle.script_values.specs.declared.step_refusal.StepRefusal.{StepRefusal}
use Rattle.script_values.specs.declared.step_refusal.StepRefusal.TheVariants.{NoEdge, NoCrossing, SameEdge, LoopEdge, NotSameFace, NotBigon, NotTriangle, NotCurl, TooMany, NotPlanar, AnchorInside, SlideNeedsFramings, SameComponent, OddSigns, FramingSize}
use Rattle.script_values.specs.declared.step_fault.StepFault.{StepFault}
use Rattle.script_values.specs.declared.step_fault.StepFault.TheVariants as steps
use Rattle.script_values.specs.declared.fault.ScriptFault.{ScriptFault}
use Rattle.script_values.specs.declared.fault.ScriptFault.TheVariants.{Refused, Memory}
use Rattle.script_values.specs.declared.fault.ScriptRefusal.{ScriptRefusal}
use Rattle.script_values.specs.declared.fault.ScriptRefusal.TheVariants.{Step, Line}

abbrev pub fault_of_move : MoveFault → StepFault
fault_of_move (moves.NoEdge edge) = steps.Refused (NoEdge edge)
fault_of_move (moves.NoCrossing crossing) = steps.Refused (NoCrossing crossing)
fault_of_move moves.SameEdge = steps.Refused SameEdge
fault_of_move (moves.LoopEdge edge) = steps.Refused (LoopEdge edge)
fault_of_move moves.NotSameFace = steps.Refused NotSameFace
fault_of_move moves.NotBigon = steps.Refused NotBigon
fault_of_move moves.NotTriangle = steps.Refused NotTriangle
fault_of_move moves.NotCurl = steps.Refused NotCurl
fault_of_move (moves.TooMany limit) = steps.Refused (TooMany limit)
fault_of_move (moves.NotPlanar faces wanted) = steps.Refused (NotPlanar faces wanted)
fault_of_move (moves.AnchorInside component) = steps.Refused (AnchorInside component)
fault_of_move moves.Memory = steps.Memory

abbrev pub fault_of_slide : SlideFault → StepFault
fault_of_slide (slides.NoEdge edge) = steps.Refused (NoEdge edge)
fault_of_slide (slides.LoopEdge edge) = steps.Refused (LoopEdge edge)
fault_of_slide slides.SameComponent = steps.Refused SameComponent
fault_of_slide (slides.OddSigns first second) = steps.Refused (OddSigns first second)
fault_of_slide (slides.TooMany limit) = steps.Refused (TooMany limit)
fault_of_slide slides.NotSameFace = steps.Refused NotSameFace
fault_of_slide (slides.FramingSize component) = steps.Refused (FramingSize component)
fault_of_slide (slides.NotPlanar faces wanted) = steps.Refused (NotPlanar faces wanted)
fault_of_slide slides.Memory = steps.Memory

abbrev pub text_of_step : StepRefusal → List ℕ
text_of_step (NoEdge edge) = codes "no edge " ++ decimal edge
text_of_step (NoCrossing crossing) = codes "no crossing " ++ decimal crossing
text_of_step SameEdge = codes "one edge is named twice"
text_of_step (LoopEdge edge) = codes "edge " ++ decimal edge ++ codes " is a loop"
text_of_step NotSameFace = codes "no common face"
text_of_step NotBigon = codes "no bigon to remove"
text_of_step NotTriangle = codes "no triangle with a strand on top"
text_of_step NotCurl = codes "no curl to remove"
text_of_step (TooMany limit) = codes "more than " ++ decimal limit ++ codes " items"
text_of_step (NotPlanar faces wanted) = codes "not planar: " ++ (decimal faces ++ (codes " faces, " ++ (decimal wanted ++ codes " wanted")))
text_of_step (AnchorInside component) = codes "the box of component " ++ (decimal component ++ codes " lies inside the move")
text_of_step SlideNeedsFramings = codes "a slide needs framings"
text_of_step SameComponent = codes "both edges are on one component"
text_of_step (OddSigns first second) = codes "components " ++ (decimal first ++ (codes " and " ++ (decimal second ++ codes " have an odd sum of signs")))
text_of_step (FramingSize component) = codes "framing of component " ++ (decimal component ++ codes " is out of range")

abbrev pub text_of_script : ScriptRefusal → List ℕ
text_of_script (Step step reason) = codes "step " ++ (decimal step ++ (codes ": " ++ text_of_step reason))
text_of_script (Line line reason) = codes "line " ++ (decimal line ++ (codes ": " ++ text_of_refusal reason))

abbrev pub fault_of_step : ℕ → StepFault → ScriptFault
fault_of_step k (steps.Refused reason) = Refused (Step k reason)
fault_of_step k steps.Memory = Memory

abbrev pub fault_at_line : ℕ → ValueFault → ScriptFault
fault_at_line d (values.Refused reason) = Refused (Line d reason)
fault_at_line d values.Memory = Memory
