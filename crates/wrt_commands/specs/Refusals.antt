-- Refusals: each layer's status and line. (This project's own.)
--
--     status_of refusal       the status that the refusal ends with
--     text_of refusal         its line, without "wrtcalc: " before it and the line feed behind it
use Rattle.std.specs.Prelude.{ℕ, List}
use Rattle.wrt_values.specs.Refusals.{text_of_refusal}
use Rattle.script_values.specs.Refusals.{text_of_script}
use Rattle.wrt_commands.specs.declared.status.Status.{Status}
use Rattle.wrt_commands.specs.declared.refusal.Refusal.{Refusal}
use Rattle.wrt_commands.specs.declared.refusal.Refusal.TheVariants.{Words, Parameters, TooLong, Text, Plane, Arguments, Value, Script, Braid, Tetra}
use Rattle.wrt_commands.specs.WordsRefusals.{status_of_words, text_of_words}
use Rattle.wrt_commands.specs.ParametersRefusals.{status_of_parameters, text_of_parameters}
use Rattle.wrt_commands.specs.TooLongRefusals.{status_of_length, text_of_length}
use Rattle.wrt_commands.specs.TextRefusals.{status_of_text, text_of_text}
use Rattle.wrt_commands.specs.BraidRefusals.{status_of_braid, text_of_braid}
use Rattle.wrt_commands.specs.TetraRefusals.{status_of_tetra, text_of_tetra}
use Rattle.wrt_commands.specs.PlaneRefusals.{status_of_plane, text_of_plane}
use Rattle.wrt_commands.specs.ArgumentsRefusals.{status_of_arguments, text_of_arguments}
use Rattle.wrt_commands.specs.ScriptRefusals.{status_of_script}
use Rattle.wrt_commands.specs.ValueRefusals.{status_of_value}

abbrev pub status_of : Refusal → Status
status_of (Words refusal) = status_of_words refusal
status_of (Parameters refusal) = status_of_parameters refusal
status_of (TooLong refusal) = status_of_length refusal
status_of (Text refusal) = status_of_text refusal
status_of (Braid refusal) = status_of_braid refusal
status_of (Tetra refusal) = status_of_tetra refusal
status_of (Plane refusal) = status_of_plane refusal
status_of (Arguments refusal) = status_of_arguments refusal
status_of (Value refusal) = status_of_value refusal
status_of (Script refusal) = status_of_script refusal

abbrev pub text_of : Refusal → List ℕ
text_of (Words refusal) = text_of_words refusal
text_of (Parameters refusal) = text_of_parameters refusal
text_of (TooLong refusal) = text_of_length refusal
text_of (Text refusal) = text_of_text refusal
text_of (Braid refusal) = text_of_braid refusal
text_of (Tetra refusal) = text_of_tetra refusal
text_of (Plane refusal) = text_of_plane refusal
text_of (Arguments refusal) = text_of_arguments refusal
text_of (Value refusal) = text_of_refusal refusal
text_of (Script refusal) = text_of_script refusal
