-- How a run ends, by the outcome of its words and bytes: what each status says of the output and of the error output.
-- (This project's own.)
--
--     Written                       what a sink had taken and has taken, and its count of faults, before a call and after it
--     IsUntouched w, IsWhole w bytes, IsPart w bytes      nothing was appended; the bytes were; a fault came after a part of them
--     Says w line                   the line was appended whole where the count didn't rise, and otherwise a part of it
--     IsTold left bytes             the source tells these bytes, or tells none
--     IsAtEnd before after          nothing is left in a source that tells what is left
--     IsRead left bytes             all bytes of the source, within the limit
--     IsUnread left stop            its bytes are no input: they are too many, or a read failed, or memory was wanting
--     IsStoppedAt opening bytes stop       there is no report for this reason, where the words come to the opening
--     RunsTo words bytes status out err    the run ends with the status, and has written that to the two sinks
--     Settles opening outcome status       the outcome settles with which status a run may end
use Rattle.std.specs.Prelude.{◌≡◌, ◌⊎◌, ℕ, ◌<◌, ◌≤◌, List, [], length, take, true, Option, Some, None, Result, Ok, Err}
use Rattle.skein_io.specs.Faults.{Rose}
use Rattle.skein_io.specs.Sink.{Appends}
use Rattle.wrt_commands.specs.declared.input.TheConstants.{MOST_BYTES}
use Rattle.wrt_commands.specs.declared.opening.Opened.{Opened}
use Rattle.wrt_commands.specs.declared.refusal.Refusal.{Refusal}
use Rattle.wrt_commands.specs.declared.refusal.Refusal.TheVariants.{TooLong}
use Rattle.wrt_commands.specs.declared.status.Status.{Status}
use Rattle.wrt_commands.specs.declared.status.Status.TheVariants.{Done, Input, Words, ReadFault, WriteFault, Limit, NoInverse, Memory}
use Rattle.wrt_commands.specs.declared.stop.Stop.{Stop}
use Rattle.wrt_commands.specs.declared.stop.Stop.TheVariants as stops
use Rattle.wrt_commands.specs.Openings.{opening, reads_input}
use Rattle.wrt_commands.specs.Outcomes.{Outcome, IsOutcome, IsOutcomeAt}
use Rattle.wrt_commands.specs.Refusals.{status_of}
use Rattle.wrt_commands.specs.Stops.{stop_line, write_line}
use Rattle.wrt_commands.specs.TooLongRefusals.{past_limit}

-- What a sink had taken and has taken, where it tells, and its count of faults, before a call and after it.
pub record Written : Type 0 where
  pub before : Option (List ℕ)
  pub after : Option (List ℕ)
  pub faults_before : ℕ
  pub faults_after : ℕ

abbrev pub written : Option (List ℕ) → Option (List ℕ) → ℕ → ℕ → Written
written before after faults_before faults_after =
    record { before = before; after = after; faults_before = faults_before; faults_after = faults_after }

abbrev pub IsUntouched : Written → Type 0
IsUntouched w = (w.after ≡ w.before) × (w.faults_after ≡ w.faults_before)

abbrev pub IsWhole : Written → List ℕ → Type 0
IsWhole w bytes = Appends w.before bytes w.after × (w.faults_after ≡ w.faults_before)

pub record IsPart (w : Written) (bytes : List ℕ) : Type 0 where
  pub sent : ℕ
  pub short : sent < length bytes
  pub appended : Appends w.before (take sent bytes) w.after
  pub rose : Rose w.faults_before w.faults_after

abbrev pub Says : Written → List ℕ → Type 0
Says w line = IsWhole w line ⊎ IsPart w line

-- The source tells these bytes, or tells none.
abbrev pub IsTold : Option (List ℕ) → List ℕ → Type 0
IsTold None bytes = Unit {0}
IsTold (Some left) bytes = bytes ≡ left

-- Nothing is left in a source that tells what is left.
abbrev pub IsAtEnd : Option (List ℕ) → Option (List ℕ) → Type 0
IsAtEnd None after = after ≡ None
IsAtEnd (Some left) after = after ≡ Some []

-- All bytes of a source, within the limit.
abbrev pub IsRead : Option (List ℕ) → List ℕ → Type 0
IsRead left bytes = IsTold left bytes × (length bytes ≤ MOST_BYTES)

-- Why they aren't read.
abbrev pub IsUnread : Option (List ℕ) → Stop → Type 0
IsUnread left (stops.Refused refusal) = (bytes : List ℕ) × IsTold left bytes × (MOST_BYTES < length bytes) × (refusal ≡ TooLong past_limit)
IsUnread left stops.ReadFault = Unit {0}
IsUnread left stops.Memory = Unit {0}

-- There is no report for this reason: a refusal is the outcome's, and a read fails only where the input is read.
abbrev pub IsStoppedAt : Result Opened Refusal → List ℕ → Stop → Type 0
IsStoppedAt at bytes (stops.Refused refusal) = IsOutcomeAt at bytes (Err refusal)
IsStoppedAt at bytes stops.ReadFault = reads_input at ≡ true
IsStoppedAt at bytes stops.Memory = Unit {0}

-- The same, by the words.
abbrev pub IsStopped : List (List ℕ) → List ℕ → Stop → Type 0
IsStopped words bytes stop = IsStoppedAt (opening words) bytes stop

-- The run is refused for what the outcome says.
abbrev pub IsRefusedRun : List (List ℕ) → List ℕ → Status → Written → Written → Type 0
IsRefusedRun words bytes status out err =
    (refusal : Refusal) × IsOutcome words bytes (Err refusal) × (status ≡ status_of refusal) × IsUntouched out × Says err (stop_line (stops.Refused refusal))

-- The run ends with the status, by the outcome of the words and the bytes.
abbrev pub RunsTo : List (List ℕ) → List ℕ → Status → Written → Written → Type 0
RunsTo words bytes Done out err = (report : List ℕ) × IsOutcome words bytes (Ok report) × IsWhole out report × IsUntouched err
RunsTo words bytes WriteFault out err = (report : List ℕ) × IsOutcome words bytes (Ok report) × IsPart out report × Says err write_line
RunsTo words bytes ReadFault out err = (reads_input (opening words) ≡ true) × IsUntouched out × Says err (stop_line stops.ReadFault)
RunsTo words bytes Memory out err = IsUntouched out × Says err (stop_line stops.Memory)
RunsTo words bytes Input out err = IsRefusedRun words bytes Input out err
RunsTo words bytes Words out err = IsRefusedRun words bytes Words out err
RunsTo words bytes Limit out err = IsRefusedRun words bytes Limit out err
RunsTo words bytes NoInverse out err = IsRefusedRun words bytes NoInverse out err

-- Memory was wanting, or a read failed, which comes only where the input is read.
abbrev pub IsInterrupted : Result Opened Refusal → Status → Type 0
IsInterrupted at status = (status ≡ Memory) ⊎ ((status ≡ ReadFault) × (reads_input at ≡ true))

-- With which status a run may end, by the outcome: a report's run is done, or a write failed; a refusal's ends with its status; or the
-- run was interrupted.
abbrev pub Settles : Result Opened Refusal → Outcome → Status → Type 0
Settles at (Ok report) status = ((status ≡ Done) ⊎ (status ≡ WriteFault)) ⊎ IsInterrupted at status
Settles at (Err refusal) status = (status ≡ status_of refusal) ⊎ IsInterrupted at status
