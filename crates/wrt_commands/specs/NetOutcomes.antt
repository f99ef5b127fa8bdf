-- `net`: the report of the net on the input, whose labels have colours. (This project's own.)
use Rattle.std.specs.Prelude.{ℕ, List, Result}
use Rattle.root_quantum.specs.Parameters.{Parameters}
use Rattle.wrt_request.specs.declared.request.Sweep.{Sweep}
use Rattle.wrt_commands.specs.declared.refusal.Refusal.{Refusal}
use Rattle.wrt_commands.specs.NetReports.{net_report}
use Rattle.wrt_commands.specs.Inputs.{IsInputOutcome, IsNetTextOutcome}

abbrev pub IsNetOutcome : Parameters → List ℕ → Sweep → List ℕ → Result (List ℕ) Refusal → Type 0
IsNetOutcome p colours sweep = IsInputOutcome IsNetTextOutcome (net_report p sweep colours)
