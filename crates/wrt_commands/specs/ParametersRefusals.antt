-- Refused parameters: their status and their lines. (This project's own.)
use Rattle.std.specs.Prelude.{ℕ, List, ◌++◌, codes, decimal, Some, None}
use Rattle.wrt_commands.specs.declared.status.Status.{Status}
use Rattle.wrt_commands.specs.declared.status.Status.TheVariants as statuses
use Rattle.wrt_commands.specs.declared.parameters_refusal.ParametersRefusal.{ParametersRefusal}
use Rattle.wrt_commands.specs.declared.parameters_refusal.ParametersRefusal.TheVariants.{Modulus, Root, Level, TetraLevel, EvenLevel, Order, EvenOrder}

abbrev pub status_of_parameters : ParametersRefusal → Status
status_of_parameters refusal = statuses.Words

abbrev pub text_of_parameters : ParametersRefusal → List ℕ
text_of_parameters Modulus = codes "modulus is out of range"
text_of_parameters Root = codes "root is out of range"
text_of_parameters Level = codes "level is not 3 to 10"
text_of_parameters TetraLevel = codes "level is not 3 to 6"
text_of_parameters EvenLevel = codes "level is not odd"
text_of_parameters (Order (Some found) wanted) = codes "order is " ++ decimal found ++ codes ", wanted " ++ decimal wanted
text_of_parameters (Order None wanted) = codes "no order up to " ++ decimal wanted ++ codes ", wanted " ++ decimal wanted
text_of_parameters (EvenOrder (Some found) greater lesser) =
    codes "order is " ++ decimal found ++ codes ", wanted " ++ decimal greater ++ codes " or " ++ decimal lesser
text_of_parameters (EvenOrder None greater lesser) =
    codes "no order up to " ++ decimal greater ++ codes ", wanted " ++ decimal greater ++ codes " or " ++ decimal lesser
