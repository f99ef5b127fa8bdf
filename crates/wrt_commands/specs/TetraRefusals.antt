-- Refused texts of tetrahedra, and refused sums over them: their statuses and their lines. A place and a limit on items are refused as
-- in any text, a Delta without an inverse and the limits of a sum of states as those of any value. (This project's own.)
--
--     refusal_of_tetra fault    the refusal of a text for this fault of its reader; none for want of memory
--     stop_of_tetra fault       the stop of such a fault
--     refusal_of_sum fault      the refusal of the sum for this fault; none for want of memory
--     stop_of_sum fault         the stop of such a fault
use Rattle.std.specs.Prelude.{ℕ, List, ◌++◌, codes, decimal, Option, Some, None}
use Rattle.tetra_reader.specs.declared.fault.TetraText.{TetraText}
use Rattle.tetra_reader.specs.declared.fault.TetraText.TheVariants as readings
use Rattle.tetra_sum.specs.declared.fault.TetraFault.{TetraFault}
use Rattle.tetra_sum.specs.declared.fault.TetraFault.TheVariants as sums
use Rattle.wrt_values.specs.declared.fault.ValueRefusal.TheVariants as values
use Rattle.wrt_commands.specs.declared.tetra_refusal.TetraRefusal.{TetraRefusal}
use Rattle.wrt_commands.specs.declared.tetra_refusal.TetraRefusal.TheVariants.{Face, TooMany, Theta}
use Rattle.wrt_commands.specs.declared.refusal.Refusal.{Refusal}
use Rattle.wrt_commands.specs.declared.refusal.Refusal.TheVariants.{Text, Tetra, Value}
use Rattle.wrt_commands.specs.declared.status.Status.{Status}
use Rattle.wrt_commands.specs.declared.status.Status.TheVariants as statuses
use Rattle.wrt_commands.specs.declared.stop.Stop.{Stop}
use Rattle.wrt_commands.specs.declared.text_refusal.Counted.TheVariants.{Items}
use Rattle.wrt_commands.specs.declared.text_refusal.TextRefusal.TheVariants as texts
use Rattle.wrt_commands.specs.TextRefusals.{stop_of}

abbrev pub refusal_of_tetra : TetraText → Option Refusal
refusal_of_tetra (readings.Head at) = Some (Text (texts.Head at))
refusal_of_tetra (readings.Number at) = Some (Text (texts.Number at))
refusal_of_tetra (readings.Text at) = Some (Text (texts.Text at))
refusal_of_tetra (readings.TooMany limit) = Some (Text (texts.TooMany limit Items))
refusal_of_tetra (readings.Face tetrahedron) = Some (Tetra (Face tetrahedron))
refusal_of_tetra readings.Memory = None

abbrev pub stop_of_tetra : TetraText → Stop
stop_of_tetra fault = stop_of (refusal_of_tetra fault)

abbrev pub refusal_of_sum : TetraFault → Option Refusal
refusal_of_sum (sums.TooMany labels limit) = Some (Tetra (TooMany labels))
refusal_of_sum (sums.NoInverse index common) = Some (Value (values.NoInverse index common))
refusal_of_sum (sums.Wide colouring step ends) = Some (Value (values.Wide record { colouring = colouring; step = step } ends))
refusal_of_sum (sums.Table colouring step) = Some (Value (values.Table record { colouring = colouring; step = step }))
refusal_of_sum (sums.Theta colouring face common) = Some (Tetra (Theta colouring face common))
refusal_of_sum sums.Memory = None

abbrev pub stop_of_sum : TetraFault → Stop
stop_of_sum fault = stop_of (refusal_of_sum fault)

abbrev pub status_of_tetra : TetraRefusal → Status
status_of_tetra (Face tetrahedron) = statuses.Input
status_of_tetra (TooMany labels) = statuses.Limit
status_of_tetra (Theta colouring face common) = statuses.NoInverse

abbrev pub text_of_tetra : TetraRefusal → List ℕ
text_of_tetra (Face tetrahedron) = codes "tetrahedron " ++ decimal tetrahedron ++ codes " has a face that is not listed"
text_of_tetra (TooMany labels) = decimal labels ++ codes " labels give more than 65536 colourings"
text_of_tetra (Theta colouring face common) =
    codes "colouring "
    ++ (decimal colouring
    ++ (codes ": theta of face " ++ (decimal face ++ (codes " has the common factor " ++ (decimal common ++ codes " with the modulus")))))
