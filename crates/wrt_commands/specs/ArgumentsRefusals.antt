-- Arguments of the words that don't fit the diagram: their status and their lines. (This project's own.)
use Rattle.std.specs.Prelude.{ℕ, List, ◌++◌, codes, decimal}
use Rattle.wrt_commands.specs.declared.status.Status.{Status}
use Rattle.wrt_commands.specs.declared.status.Status.TheVariants as statuses
use Rattle.wrt_commands.specs.declared.arguments_refusal.ArgumentsRefusal.{ArgumentsRefusal}
use Rattle.wrt_commands.specs.declared.arguments_refusal.ArgumentsRefusal.TheVariants.{ColourCount, ColourTooLarge, Unequal, NotAdmissible, FramingCount, FramingSize, Order}

abbrev pub status_of_arguments : ArgumentsRefusal → Status
status_of_arguments refusal = statuses.Input

abbrev pub text_of_arguments : ArgumentsRefusal → List ℕ
text_of_arguments (ColourCount given wanted) = decimal given ++ (codes " colours given, " ++ (decimal wanted ++ codes " wanted"))
text_of_arguments (ColourTooLarge colour limit) = codes "colour " ++ (decimal colour ++ (codes " is above " ++ decimal limit))
text_of_arguments (Unequal edge) = codes "edge " ++ decimal edge ++ codes " changes its colour"
text_of_arguments (NotAdmissible vertex) = codes "vertex " ++ decimal vertex ++ codes " is not admissible"
text_of_arguments (FramingCount given wanted) = decimal given ++ (codes " framings given, " ++ (decimal wanted ++ codes " wanted"))
text_of_arguments (FramingSize component) = codes "framing of component " ++ decimal component ++ codes " is out of range"
text_of_arguments (Order items) = codes "order does not name each of " ++ decimal items ++ codes " items once"
