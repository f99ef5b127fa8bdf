-- Kinds of steps.
--
--     is_slide step     the step is a handle slide; each other step is a move of a diagram, with or without framings
use Rattle.std.specs.Prelude.{Bool, true, false}
use Rattle.script_reader.specs.declared.step.Step.{Step}
use Rattle.script_reader.specs.declared.step.Step.TheVariants.{R2, R2Undo, R3, Curl, CurlUndo, BlowUp, Slide}

abbrev pub is_slide : Step → Bool
is_slide (R2 over under) = false
is_slide (R2Undo first second) = false
is_slide (R3 first second third) = false
is_slide (Curl edge sign) = false
is_slide (CurlUndo crossing) = false
is_slide (BlowUp sign) = false
is_slide (Slide edge along) = true
