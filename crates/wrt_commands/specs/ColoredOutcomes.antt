-- `colored`: the report of the diagram on the input, whose components have colours. (This project's own.)
use Rattle.std.specs.Prelude.{ℕ, List, Result}
use Rattle.root_quantum.specs.Parameters.{Parameters}
use Rattle.wrt_request.specs.declared.request.Sweep.{Sweep}
use Rattle.wrt_commands.specs.declared.refusal.Refusal.{Refusal}
use Rattle.wrt_commands.specs.ColouredReports.{coloured_report}
use Rattle.wrt_commands.specs.Inputs.{IsInputOutcome, IsPdOutcome}

abbrev pub IsColoredOutcome : Parameters → List ℕ → Sweep → List ℕ → Result (List ℕ) Refusal → Type 0
IsColoredOutcome p colours sweep = IsInputOutcome IsPdOutcome (coloured_report p sweep colours)
