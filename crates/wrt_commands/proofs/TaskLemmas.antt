-- The answers of the commands as answers of a task.
use Rattle.std.proofs.Common.{String, Global, ◌≡◌, ◌∙◌, ◌<◌, inl, ℕ, ℤ, Bool, List, length, true, Option, Result, Ok, Err, refl, sym, ap, subst}
use Rattle.std.specs.Prelude.{MatchResult, string_bytes}
use Rattle.wrt_request.specs.declared.request.DiagramValues.{DiagramValues}
use Rattle.wrt_request.specs.declared.request.Sweep.{Sweep}
use Rattle.wrt_request.specs.declared.request.Task.{Task}
use Rattle.wrt_request.specs.declared.request.Task.TheVariants.{Bracket, Colored, Net, Wrt, Moves, Braid, Tetrahedra}
use Rattle.wrt_commands.specs.declared.input.TheConstants.{MOST_BYTES}
use Rattle.wrt_commands.specs.declared.opening.Opened.{Opened}
use Rattle.wrt_commands.specs.declared.refusal.Refusal.TheVariants as refusals
use Rattle.wrt_commands.specs.declared.stop.Stop.{Stop}
use Rattle.wrt_commands.specs.Openings.{is_about_input}
use Rattle.wrt_commands.specs.Outcomes.{IsTaskOutcome, IsOutcomeAt}
use Rattle.wrt_commands.specs.Runs.{IsTold, IsUnread, IsStoppedAt}
use Rattle.wrt_commands.specs.Stops.{Stops, Answers}
use Rattle.wrt_commands.specs.TooLongRefusals.{past_limit}
use Rattle.wrt_commands.proofs.RunLemmas.{input_stopped, task_stopped}

module _ (asked : Opened) where
  -- the answer of a command, by what its task comes to
  pub task_answer : (task : Task) (bytes : List ℕ) → asked.task ≡ task → (result : Result (String Global) Stop) → Answers (IsTaskOutcome asked.params task bytes) string_bytes result
      → MatchResult result (λ report. IsOutcomeAt (Ok asked) bytes (Ok (string_bytes report))) (IsStoppedAt (Ok asked) bytes)
  task_answer task bytes is (Ok report) h =
      let P : Task → Type 0 = λ t. IsTaskOutcome asked.params t bytes (Ok (string_bytes report)) in subst P (sym is) h
  task_answer task bytes is (Err stop) h =
      let P : Task → Type 0 = λ t. Stops (IsTaskOutcome asked.params t bytes) stop in task_stopped asked.params asked.task bytes stop (subst P (sym is) h)

  -- a task about an input that isn't read whole
  unread_task : (task : Task) → is_about_input task ≡ true → ((bytes : List ℕ) → MOST_BYTES < length bytes → IsTaskOutcome asked.params task bytes (Err (refusals.TooLong past_limit)))
      → (left : Option (List ℕ)) (of stop : Stop) → asked.task ≡ task → stop ≡ of → IsUnread left of → (bytes : List ℕ) × IsTold left bytes × IsStoppedAt (Ok asked) bytes stop
  unread_task task about long left of stop is same h =
      let P : List ℕ → Task → Type 0 = λ bytes t. IsTaskOutcome asked.params t bytes (Err (refusals.TooLong past_limit)) in
      input_stopped (Ok asked) left of stop same h (ap is_about_input is ∙ about) (λ bytes over. subst (P bytes) (sym is) (long bytes over))

  pub bracket_stopped : (sweep : Sweep) (left : Option (List ℕ)) (of stop : Stop) → asked.task ≡ Bracket sweep → stop ≡ of → IsUnread left of
      → (bytes : List ℕ) × IsTold left bytes × IsStoppedAt (Ok asked) bytes stop
  bracket_stopped sweep = unread_task (Bracket sweep) refl (λ bytes long. inl (long, refl))

  pub colored_stopped : (colours : List ℕ) (sweep : Sweep) (left : Option (List ℕ)) (of stop : Stop) → asked.task ≡ Colored colours sweep → stop ≡ of → IsUnread left of
      → (bytes : List ℕ) × IsTold left bytes × IsStoppedAt (Ok asked) bytes stop
  colored_stopped colours sweep = unread_task (Colored colours sweep) refl (λ bytes long. inl (long, refl))

  pub net_stopped : (colours : List ℕ) (sweep : Sweep) (left : Option (List ℕ)) (of stop : Stop) → asked.task ≡ Net colours sweep → stop ≡ of → IsUnread left of
      → (bytes : List ℕ) × IsTold left bytes × IsStoppedAt (Ok asked) bytes stop
  net_stopped colours sweep = unread_task (Net colours sweep) refl (λ bytes long. inl (long, refl))

  pub wrt_stopped : (framings : Option (List ℤ)) (workers : ℕ) (even : Bool) (sweep : Sweep) (left : Option (List ℕ)) (of stop : Stop) → asked.task ≡ Wrt framings workers even sweep → stop ≡ of → IsUnread left of
      → (bytes : List ℕ) × IsTold left bytes × IsStoppedAt (Ok asked) bytes stop
  wrt_stopped framings workers even sweep = unread_task (Wrt framings workers even sweep) refl (λ bytes long. inl (long, refl))

  pub moves_stopped : (values : DiagramValues) (left : Option (List ℕ)) (of stop : Stop) → asked.task ≡ Moves values → stop ≡ of → IsUnread left of
      → (bytes : List ℕ) × IsTold left bytes × IsStoppedAt (Ok asked) bytes stop
  moves_stopped values = unread_task (Moves values) refl (λ bytes long. inl (long, refl))

  pub braid_stopped : (left : Option (List ℕ)) (of stop : Stop) → asked.task ≡ Braid → stop ≡ of → IsUnread left of
      → (bytes : List ℕ) × IsTold left bytes × IsStoppedAt (Ok asked) bytes stop
  braid_stopped = unread_task Braid refl (λ bytes long. inl (long, refl))

  pub tetrahedra_stopped : (left : Option (List ℕ)) (of stop : Stop) → asked.task ≡ Tetrahedra → stop ≡ of → IsUnread left of
      → (bytes : List ℕ) × IsTold left bytes × IsStoppedAt (Ok asked) bytes stop
  tetrahedra_stopped = unread_task Tetrahedra refl (λ bytes long. inl (long, refl))
