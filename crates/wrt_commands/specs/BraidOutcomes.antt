-- `braid`: the report of the bracket of the closure of the braid on the input. (This project's own.)
use Rattle.std.specs.Prelude.{ℕ, List, None, Result, Ok}
use Rattle.root_quantum.specs.Parameters.{Parameters}
use Rattle.diagram_brackets.specs.Brackets.{bracket}
use Rattle.braid_trace.specs.Braids.{BraidWord}
use Rattle.braid_closures.specs.Closures.{closed}
use Rattle.wrt_commands.specs.declared.refusal.Refusal.{Refusal}
use Rattle.wrt_commands.specs.Inputs.{IsInputOutcome, IsBraidTextOutcome}
use Rattle.wrt_commands.specs.Reports.{report_of}

abbrev pub braid_report : Parameters → BraidWord → Result (List ℕ) Refusal
braid_report p braid = Ok (report_of (bracket p (closed braid)) None)

abbrev pub IsBraidOutcome : Parameters → List ℕ → Result (List ℕ) Refusal → Type 0
IsBraidOutcome p = IsInputOutcome IsBraidTextOutcome (braid_report p)
