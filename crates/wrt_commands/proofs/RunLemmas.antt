-- How a run without a report ends, from why there is none.
use Rattle.std.proofs.Common.{◌≡◌, ◌<◌, inl, inr, ℕ, List, [], length, true, Option, Some, None, Result, Ok, Err, refl, sym, subst}
use Rattle.std.specs.Prelude.{OnOk, take}
use Rattle.skein_io.specs.Faults.{Rose}
use Rattle.skein_io.specs.Sink.{Appends}
use Rattle.skein_io.specs.declared.writing.Wrote.{Wrote}
use Rattle.skein_io.specs.declared.writing.Wrote.TheVariants.{Fault}
use Rattle.root_quantum.specs.Parameters.{Parameters}
use Rattle.wrt_request.specs.declared.request.Task.{Task}
use Rattle.wrt_commands.specs.declared.input.TheConstants.{MOST_BYTES}
use Rattle.wrt_commands.specs.declared.opening.Opened.{Opened}
use Rattle.wrt_commands.specs.declared.refusal.Refusal.{Refusal}
use Rattle.wrt_commands.specs.declared.refusal.Refusal.TheVariants as refusals
use Rattle.wrt_commands.specs.declared.status.Status.{Status}
use Rattle.wrt_commands.specs.declared.status.Status.TheVariants as statuses
use Rattle.wrt_commands.specs.declared.stop.Stop.{Stop}
use Rattle.wrt_commands.specs.declared.stop.Stop.TheVariants.{Refused, ReadFault, Memory}
use Rattle.wrt_commands.specs.Openings.{opening, reads_input}
use Rattle.wrt_commands.specs.Outcomes.{IsTaskOutcome, IsOutcomeAt}
use Rattle.wrt_commands.specs.Refusals.{status_of}
use Rattle.wrt_commands.specs.Runs.{Written, IsUntouched, IsPart, Says, IsTold, IsUnread, IsStoppedAt, IsStopped, IsRefusedRun, RunsTo}
use Rattle.wrt_commands.specs.Stops.{Is, Stops, status_of_stop, stop_line}
use Rattle.wrt_commands.specs.TooLongRefusals.{past_limit}
use Rattle.wrt_commands.proofs.StatusLemmas.{is_refused, refused_status}

-- a source that doesn't tell is told any bytes
pub some_bytes : (left : Option (List ℕ)) → (bytes : List ℕ) × IsTold left bytes
some_bytes None = ([], tt)
some_bytes (Some bytes) = (bytes, refl)

-- ---- stopped runs
-- words that are refused, whatever the bytes
words_stopped_at : (words : List (List ℕ)) (bytes : List ℕ) (stop : Stop) → Stops (Is (opening words)) stop → IsStopped words bytes stop
words_stopped_at words bytes (Refused refusal) h = rw h refl
words_stopped_at words bytes ReadFault h = absurd h
words_stopped_at words bytes Memory h = tt

pub words_stopped : (words : List (List ℕ)) (bytes : List ℕ) (of stop : Stop) → stop ≡ of → Stops (Is (opening words)) of → IsStopped words bytes stop
words_stopped words bytes of stop same h = let P : Stop → Type 0 = λ s. IsStopped words bytes s in subst P (sym same) (words_stopped_at words bytes of h)

-- a task that stops, behind its input
pub task_stopped : (p : Parameters) (task : Task) (bytes : List ℕ) (stop : Stop) → Stops (IsTaskOutcome p task bytes) stop → IsStoppedAt (Ok (record { params = p; task = task })) bytes stop
task_stopped p task bytes (Refused refusal) h = h
task_stopped p task bytes ReadFault h = absurd h
task_stopped p task bytes Memory h = tt

-- an input that isn't read whole
input_stopped_at : (at : Result Opened Refusal) (left : Option (List ℕ)) (stop : Stop) → IsUnread left stop → reads_input at ≡ true
    → ((bytes : List ℕ) → MOST_BYTES < length bytes → IsOutcomeAt at bytes (Err (refusals.TooLong past_limit)))
    → (bytes : List ℕ) × IsTold left bytes × IsStoppedAt at bytes stop
input_stopped_at at left (Refused refusal) h reads long =
    let P : Refusal → Type 0 = λ r. IsOutcomeAt at h.0 (Err r) in (h.0, h.1, subst P (sym h.3) (long h.0 h.2))
input_stopped_at at left ReadFault h reads long = let b = some_bytes left in (b.0, b.1, reads)
input_stopped_at at left Memory h reads long = let b = some_bytes left in (b.0, b.1, tt)

pub input_stopped : (at : Result Opened Refusal) (left : Option (List ℕ)) (of stop : Stop) → stop ≡ of → IsUnread left of → reads_input at ≡ true
    → ((bytes : List ℕ) → MOST_BYTES < length bytes → IsOutcomeAt at bytes (Err (refusals.TooLong past_limit)))
    → (bytes : List ℕ) × IsTold left bytes × IsStoppedAt at bytes stop
input_stopped at left of stop same h reads long =
    let P : Stop → Type 0 = λ s. (bytes : List ℕ) × IsTold left bytes × IsStoppedAt at bytes s in
    subst P (sym same) (input_stopped_at at left of h reads long)

-- ---- the fault line
-- what a failed write of a piece did
pub part_law : (w : Written) (piece : List ℕ) (wrote : Result (Unit {0}) Wrote) (fault : Wrote) → wrote ≡ Err fault
    → ((sent : ℕ) → wrote ≡ Err (Fault sent) → Rose w.faults_before w.faults_after)
    → ((sent : ℕ) → wrote ≡ Err (Fault sent) → Appends w.before (take sent piece) w.after)
    → ((sent : ℕ) → wrote ≡ Err (Fault sent) → sent < length piece)
    → IsPart w piece
part_law w piece wrote (Fault sent) is rose part short = record { sent = sent; short = short sent is; appended = part sent is; rose = rose sent is }

-- what a write of a piece did
pub says_law : (w : Written) (piece : List ℕ) (wrote : Result (Unit {0}) Wrote) → OnOk wrote (Appends w.before piece w.after) → OnOk wrote (w.faults_after ≡ w.faults_before)
    → ((sent : ℕ) → wrote ≡ Err (Fault sent) → Rose w.faults_before w.faults_after)
    → ((sent : ℕ) → wrote ≡ Err (Fault sent) → Appends w.before (take sent piece) w.after)
    → ((sent : ℕ) → wrote ≡ Err (Fault sent) → sent < length piece)
    → Says w piece
says_law w piece (Ok _) whole kept rose part short = inl (whole, kept)
says_law w piece (Err fault) whole kept rose part short = inr (part_law w piece (Err fault) fault refl rose part short)

-- ---- the end
-- a run that is refused ends with one of four statuses
refused_run : (words : List (List ℕ)) (bytes : List ℕ) (status : Status) (out err : Written) → is_refused status ≡ true → IsRefusedRun words bytes status out err → RunsTo words bytes status out err
refused_run words bytes statuses.Done out err is h = absurd (cc)
refused_run words bytes statuses.Input out err is h = h
refused_run words bytes statuses.Words out err is h = h
refused_run words bytes statuses.ReadFault out err is h = absurd (cc)
refused_run words bytes statuses.WriteFault out err is h = absurd (cc)
refused_run words bytes statuses.Limit out err is h = h
refused_run words bytes statuses.NoInverse out err is h = h
refused_run words bytes statuses.Memory out err is h = absurd (cc)

pub runs_stopped : (words : List (List ℕ)) (bytes : List ℕ) (stop : Stop) (out err : Written) → IsStopped words bytes stop → IsUntouched out → Says err (stop_line stop)
    → RunsTo words bytes (status_of_stop stop) out err
runs_stopped words bytes (Refused refusal) out err h kept says =
    refused_run words bytes (status_of refusal) out err (refused_status refusal) (refusal, h, refl, kept, says)
runs_stopped words bytes ReadFault out err h kept says = (h, kept, says)
runs_stopped words bytes Memory out err h kept says = (kept, says)
