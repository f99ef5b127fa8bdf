-- Moves of framed diagrams.
--
--     framings_after framed step     the framings after a step: each component keeps its own, and a blow-up adds one, +1 or -1
--     applied_framed framed step     the result of a move with these framings, or why the step is refused
use Rattle.std.specs.Prelude.{ℤ, List, [], ◌∷◌, ◌++◌, Result, Ok, Err}
use Rattle.planar_check.specs.Framings.{FramedDiagram}
use Rattle.planar_check.specs.Tables.{sign_value}
use Rattle.diagram_moves.specs.declared.fault.MoveFault.{MoveFault}
use Rattle.diagram_moves.specs.Scripts.{applied}
use Rattle.diagram_moves.specs.Steps.{Answer}
use Rattle.script_reader.specs.declared.step.Step.{Step}
use Rattle.script_reader.specs.declared.step.Step.TheVariants.{R2, R2Undo, R3, Curl, CurlUndo, BlowUp, Slide}

-- the framing of a component that a step adds
abbrev pub added_framings : Step → List ℤ
added_framings (R2 over under) = []
added_framings (R2Undo first second) = []
added_framings (R3 first second third) = []
added_framings (Curl edge sign) = []
added_framings (CurlUndo crossing) = []
added_framings (BlowUp sign) = sign_value sign ∷ []
added_framings (Slide edge along) = []

abbrev pub framings_after : FramedDiagram → Step → List ℤ
framings_after framed step = framed.framings ++ added_framings step

abbrev pub with_framings : List ℤ → Answer → Result FramedDiagram MoveFault
with_framings framings (Err fault) = Err fault
with_framings framings (Ok moved) = Ok record { items = moved.items; framings = framings }

abbrev pub applied_framed : FramedDiagram → Step → Result FramedDiagram MoveFault
applied_framed framed step = with_framings (framings_after framed step) (applied framed.items step)
