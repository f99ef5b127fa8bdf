-- `wrt`: the report of the surgery value of the diagram on the input, whose components have framings. (This project's own.)
--
--     framing_list framings      the framings of the option; none without it
use Rattle.std.specs.Prelude.{ℕ, ℤ, List, [], Option, Result, unwrap_or}
use Rattle.root_quantum.specs.Parameters.{Parameters}
use Rattle.wrt_request.specs.declared.request.Sweep.{Sweep}
use Rattle.wrt_commands.specs.declared.refusal.Refusal.{Refusal}
use Rattle.wrt_commands.specs.Inputs.{IsInputOutcome, IsPdOutcome}
use Rattle.wrt_commands.specs.SurgeryReports.{surgery_report}

-- The framings of the option.
abbrev pub framing_list : Option (List ℤ) → List ℤ
framing_list framings = unwrap_or framings []

abbrev pub IsWrtOutcome : Parameters → Option (List ℤ) → Sweep → List ℕ → Result (List ℕ) Refusal → Type 0
IsWrtOutcome p framings sweep = IsInputOutcome IsPdOutcome (surgery_report p sweep (framing_list framings))
