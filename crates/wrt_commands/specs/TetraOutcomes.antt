-- `tv`: the report of the sum over the coloured tetrahedra on the input. (This project's own, after Turaev and Viro.)
--
--     by_refusal report refusal    the report, or the refusal where there is one
--     tetra_report p items         the report of the sum of the weights over all colourings, or its first refusal
use Rattle.std.specs.Prelude.{ℕ, List, Option, Some, None, Result, Ok, Err, option_and_then}
use Rattle.root_quantum.specs.Parameters.{Parameters}
use Rattle.tetra_reader.specs.declared.item.TetraItem.{TetraItem}
use Rattle.tetra_sum.specs.Refusals.{refusal}
use Rattle.tetra_sum.specs.Sums.{weight_sum}
use Rattle.wrt_commands.specs.declared.refusal.Refusal.{Refusal}
use Rattle.wrt_commands.specs.Inputs.{IsInputOutcome, IsTetraTextOutcome}
use Rattle.wrt_commands.specs.Reports.{report_of}
use Rattle.wrt_commands.specs.TetraRefusals.{refusal_of_sum}

abbrev pub by_refusal : List ℕ → Option Refusal → Result (List ℕ) Refusal
by_refusal report None = Ok report
by_refusal report (Some refusal) = Err refusal

abbrev pub tetra_report : Parameters → List TetraItem → Result (List ℕ) Refusal
tetra_report p items = by_refusal (report_of (weight_sum p items) None) (option_and_then refusal_of_sum (refusal p items))

abbrev pub IsTetraOutcome : Parameters → List ℕ → Result (List ℕ) Refusal → Type 0
IsTetraOutcome p = IsInputOutcome IsTetraTextOutcome (tetra_report p)
