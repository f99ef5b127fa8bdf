-- `moves`: the report of the script on the input, of these values of its diagrams. (This project's own.)
use Rattle.std.specs.Prelude.{ℕ, List, Result}
use Rattle.root_quantum.specs.Parameters.{Parameters}
use Rattle.wrt_request.specs.declared.request.DiagramValues.{DiagramValues}
use Rattle.wrt_commands.specs.declared.refusal.Refusal.{Refusal}
use Rattle.wrt_commands.specs.Inputs.{IsInputOutcome, IsScriptTextOutcome}
use Rattle.wrt_commands.specs.MovesReports.{moves_report}

abbrev pub IsMovesOutcome : Parameters → DiagramValues → List ℕ → Result (List ℕ) Refusal → Type 0
IsMovesOutcome p values = IsInputOutcome IsScriptTextOutcome (moves_report p values)
