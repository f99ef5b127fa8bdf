-- Words and bytes come to exactly one outcome.
use Rattle.std.proofs.Common.{◌≡◌, ◌∙◌, ℕ, List, false, Result, Ok, Err, refl, sym}
use Rattle.root_quantum.specs.Parameters.{Parameters}
use Rattle.wrt_request.specs.declared.request.Task.{Task}
use Rattle.wrt_request.specs.declared.request.Task.TheVariants.{Bracket, Colored, Net, Torus, Wrt, Moves, Braid, Tetrahedra}
use Rattle.wrt_commands.specs.declared.opening.Opened.{Opened}
use Rattle.wrt_commands.specs.declared.refusal.Refusal.{Refusal}
use Rattle.wrt_commands.specs.BraidOutcomes.{braid_report}
use Rattle.wrt_commands.specs.ColouredReports.{coloured_report}
use Rattle.wrt_commands.specs.DiagramReports.{diagram_report}
use Rattle.wrt_commands.specs.Inputs.{IsNetTextOutcome, IsPdOutcome, IsScriptTextOutcome, IsBraidTextOutcome, IsTetraTextOutcome}
use Rattle.wrt_commands.specs.Laws.{OutcomesAreUnique, OutcomesExist}
use Rattle.wrt_commands.specs.MovesReports.{moves_report}
use Rattle.wrt_commands.specs.NetReports.{net_report}
use Rattle.wrt_commands.specs.Openings.{opening, is_about_input, reads_input}
use Rattle.wrt_commands.specs.Outcomes.{Outcome, IsTaskOutcome, IsOutcomeAt}
use Rattle.wrt_commands.specs.SurgeryReports.{surgery_report}
use Rattle.wrt_commands.specs.TetraOutcomes.{tetra_report}
use Rattle.wrt_commands.specs.TorusOutcomes.{torus_outcome}
use Rattle.wrt_commands.specs.WrtOutcomes.{framing_list}
use Rattle.wrt_commands.proofs.InputLemmas.{one_input, some_input, pd_one_outcome, pd_outcome, net_one_outcome, net_outcome, script_one_outcome, script_outcome, braid_one_outcome, braid_outcome, tetra_one_outcome, tetra_outcome}

-- ---- at most one
one_of_task : (p : Parameters) (task : Task) (bytes : List ℕ) (x y : Outcome) → IsTaskOutcome p task bytes x → IsTaskOutcome p task bytes y → x ≡ y
one_of_task p (Bracket sweep) bytes x y h k = one_input IsPdOutcome (diagram_report p sweep) bytes pd_one_outcome x y h k
one_of_task p (Colored colours sweep) bytes x y h k = one_input IsPdOutcome (coloured_report p sweep colours) bytes pd_one_outcome x y h k
one_of_task p (Net colours sweep) bytes x y h k = one_input IsNetTextOutcome (net_report p sweep colours) bytes net_one_outcome x y h k
one_of_task p (Torus crossings sweep) bytes x y h k = sym h ∙ k
one_of_task p (Wrt framings workers even sweep) bytes x y h k = one_input IsPdOutcome (surgery_report p sweep (framing_list framings)) bytes pd_one_outcome x y h k
one_of_task p (Moves values) bytes x y h k = one_input IsScriptTextOutcome (moves_report p values) bytes script_one_outcome x y h k
one_of_task p Braid bytes x y h k = one_input IsBraidTextOutcome (braid_report p) bytes braid_one_outcome x y h k
one_of_task p Tetrahedra bytes x y h k = one_input IsTetraTextOutcome (tetra_report p) bytes tetra_one_outcome x y h k

one_outcome : (at : Result Opened Refusal) (bytes : List ℕ) (x y : Outcome) → IsOutcomeAt at bytes x → IsOutcomeAt at bytes y → x ≡ y
one_outcome (Ok asked) bytes x y h k = one_of_task asked.params asked.task bytes x y h k
one_outcome (Err refusal) bytes x y h k = sym h ∙ k

pub outcomes_are_unique_law : OutcomesAreUnique
outcomes_are_unique_law words bytes x y h k = one_outcome (opening words) bytes x y h k

-- ---- and one
of_task : (p : Parameters) (task : Task) (bytes : List ℕ) → (outcome : Outcome) × IsTaskOutcome p task bytes outcome
of_task p (Bracket sweep) bytes = some_input IsPdOutcome (diagram_report p sweep) bytes pd_outcome
of_task p (Colored colours sweep) bytes = some_input IsPdOutcome (coloured_report p sweep colours) bytes pd_outcome
of_task p (Net colours sweep) bytes = some_input IsNetTextOutcome (net_report p sweep colours) bytes net_outcome
of_task p (Torus crossings sweep) bytes = (torus_outcome p crossings sweep, refl)
of_task p (Wrt framings workers even sweep) bytes = some_input IsPdOutcome (surgery_report p sweep (framing_list framings)) bytes pd_outcome
of_task p (Moves values) bytes = some_input IsScriptTextOutcome (moves_report p values) bytes script_outcome
of_task p Braid bytes = some_input IsBraidTextOutcome (braid_report p) bytes braid_outcome
of_task p Tetrahedra bytes = some_input IsTetraTextOutcome (tetra_report p) bytes tetra_outcome

of_opening : (at : Result Opened Refusal) (bytes : List ℕ) → (outcome : Outcome) × IsOutcomeAt at bytes outcome
of_opening (Ok asked) bytes = of_task asked.params asked.task bytes
of_opening (Err refusal) bytes = (Err refusal, refl)

-- THERE IS AN OUTCOME
pub outcomes_exist_law : OutcomesExist
outcomes_exist_law words bytes = of_opening (opening words) bytes

-- ---- where the input isn't read
unread_task : (p : Parameters) (task : Task) (bytes other : List ℕ) (outcome : Outcome) → is_about_input task ≡ false → IsTaskOutcome p task bytes outcome → IsTaskOutcome p task other outcome
unread_task p (Bracket sweep) bytes other outcome unread h = absurd (cc)
unread_task p (Colored colours sweep) bytes other outcome unread h = absurd (cc)
unread_task p (Net colours sweep) bytes other outcome unread h = absurd (cc)
unread_task p (Torus crossings sweep) bytes other outcome unread h = h
unread_task p (Wrt framings workers even sweep) bytes other outcome unread h = absurd (cc)
unread_task p (Moves values) bytes other outcome unread h = absurd (cc)
unread_task p Braid bytes other outcome unread h = absurd (cc)
unread_task p Tetrahedra bytes other outcome unread h = absurd (cc)

-- other bytes come to the same
pub unread_outcome : (at : Result Opened Refusal) (bytes other : List ℕ) (outcome : Outcome) → reads_input at ≡ false → IsOutcomeAt at bytes outcome → IsOutcomeAt at other outcome
unread_outcome (Ok asked) bytes other outcome unread h = unread_task asked.params asked.task bytes other outcome unread h
unread_outcome (Err refusal) bytes other outcome unread h = h
