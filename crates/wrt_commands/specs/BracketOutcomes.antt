-- `bracket`: the report of the diagram on the input. (This project's own.)
use Rattle.std.specs.Prelude.{ℕ, List, Result}
use Rattle.root_quantum.specs.Parameters.{Parameters}
use Rattle.wrt_request.specs.declared.request.Sweep.{Sweep}
use Rattle.wrt_commands.specs.declared.refusal.Refusal.{Refusal}
use Rattle.wrt_commands.specs.DiagramReports.{diagram_report}
use Rattle.wrt_commands.specs.Inputs.{IsInputOutcome, IsPdOutcome}

abbrev pub IsBracketOutcome : Parameters → Sweep → List ℕ → Result (List ℕ) Refusal → Type 0
IsBracketOutcome p sweep = IsInputOutcome IsPdOutcome (diagram_report p sweep)
