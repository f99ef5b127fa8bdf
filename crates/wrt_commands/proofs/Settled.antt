-- What a run ends with is settled by the outcome, but for want of memory and faults of the streams; and a run whose outcome is a report,
-- and in which no stream failed, ends with it or for want of memory.
use Rattle.std.proofs.Common.{◌≡◌, ◌≢◌, ◌⊎◌, inl, inr, ℕ, List, Some, Option, Result, Ok, Err, refl, subst, sym, Bool, true, false}
use Rattle.skein_io.specs.Faults.{Rose}
use Rattle.wrt_commands.specs.declared.opening.Opened.{Opened}
use Rattle.wrt_commands.specs.declared.refusal.Refusal.{Refusal}
use Rattle.wrt_commands.specs.declared.status.Status.{Status}
use Rattle.wrt_commands.specs.declared.status.Status.TheVariants.{Done, Input, Words, ReadFault, WriteFault, Limit, NoInverse, Memory}
use Rattle.wrt_commands.specs.Openings.{opening, reads_input}
use Rattle.wrt_commands.specs.Outcomes.{Outcome, IsOutcome, IsOutcomeAt}
use Rattle.wrt_commands.specs.Runs.{Written, IsTold, IsRefusedRun, RunsTo, IsInterrupted, Settles}
use Rattle.wrt_commands.proofs.UniqueOutcomes.{outcomes_are_unique_law, unread_outcome}

module _ (words : List (List ℕ)) (bytes : List ℕ) where
  -- the outcome is this one
  settled_by : (is outcome : Outcome) (status : Status) → IsOutcome words bytes is → IsOutcome words bytes outcome → Settles (opening words) is status → Settles (opening words) outcome status
  settled_by is outcome status h k settled =
      let P : Outcome → Type 0 = λ o. Settles (opening words) o status in subst P (outcomes_are_unique_law words bytes is outcome h k) settled

  -- an interruption settles with any outcome
  interrupted : (outcome : Outcome) (status : Status) → IsInterrupted (opening words) status → Settles (opening words) outcome status
  interrupted (Ok report) status h = inr h
  interrupted (Err refusal) status h = inr h

  of_refused : (outcome : Outcome) (status : Status) (out err : Written) → IsRefusedRun words bytes status out err → IsOutcome words bytes outcome → Settles (opening words) outcome status
  of_refused outcome status out err runs h = settled_by (Err runs.0) outcome status runs.1 h (inl runs.2)

  -- THE OUTCOME SETTLES THE STATUS
  pub settles : (outcome : Outcome) (status : Status) (out err : Written) → RunsTo words bytes status out err → IsOutcome words bytes outcome → Settles (opening words) outcome status
  settles outcome Done out err runs h = settled_by (Ok runs.0) outcome Done runs.1 h (inl (inl refl))
  settles outcome WriteFault out err runs h = settled_by (Ok runs.0) outcome WriteFault runs.1 h (inl (inr refl))
  settles outcome ReadFault out err runs h = interrupted outcome ReadFault (inr (refl, runs.0))
  settles outcome Memory out err runs h = interrupted outcome Memory (inl refl)
  settles outcome Input out err runs h = of_refused outcome Input out err runs h
  settles outcome Words out err runs h = of_refused outcome Words out err runs h
  settles outcome Limit out err runs h = of_refused outcome Limit out err runs h
  settles outcome NoInverse out err runs h = of_refused outcome NoInverse out err runs h

-- the same beside what the run ends with, for the bytes that the source tells
pub with_settled : (words : List (List ℕ)) (left : Option (List ℕ)) (bytes : List ℕ) (status : Status) (out err : Written) → IsTold left bytes → RunsTo words bytes status out err
    → (told : List ℕ) × IsTold left told × RunsTo words told status out err × ((outcome : Outcome) → IsOutcome words told outcome → Settles (opening words) outcome status)
with_settled words left bytes status out err told runs = (bytes, told, runs, λ outcome h. settles words bytes outcome status out err runs h)

-- ---- completeness
-- a fault of the output is one where the status is that of a failed write
rose : (words : List (List ℕ)) (bytes : List ℕ) (status : Status) (out err : Written) → RunsTo words bytes status out err → status ≡ WriteFault → Rose out.faults_before out.faults_after
rose words bytes status out err runs is =
    let P : Status → Type 0 = λ s. RunsTo words bytes s out err in let h = subst P is runs in h.2.rose

by_report : (words : List (List ℕ)) (bytes report : List ℕ) (status : Status) (out err : Written) → RunsTo words bytes status out err → Settles (opening words) (Ok report) status
    → status ≢ ReadFault → ¬ Rose out.faults_before out.faults_after → (status ≡ Done) ⊎ (status ≡ Memory)
by_report words bytes report status out err runs (inl (inl done)) read write = inl done
by_report words bytes report status out err runs (inl (inr fault)) read write = absurd (write (rose words bytes status out err runs fault))
by_report words bytes report status out err runs (inr (inl memory)) read write = inr memory
by_report words bytes report status out err runs (inr (inr fault)) read write = absurd (read fault.0)

-- the bytes that the source tells, or any where it isn't read
told_outcome : (at : Result Opened Refusal) (left : Option (List ℕ)) (bytes told : List ℕ) (outcome : Outcome) → (reads : Bool) → reads_input at ≡ reads → (reads ≡ true → left ≡ Some bytes) → IsTold left told
    → IsOutcomeAt at bytes outcome → IsOutcomeAt at told outcome
told_outcome at left bytes told outcome true is tells same h =
    let e : told ≡ bytes = subst (λ l. IsTold l told) (tells refl) same in
    subst (λ b. IsOutcomeAt at b outcome) (sym e) h
told_outcome at left bytes told outcome false is tells same h = unread_outcome at bytes told outcome is h

pub completes : (words : List (List ℕ)) (left : Option (List ℕ)) (bytes told report : List ℕ) (status : Status) (out err : Written) → (reads_input (opening words) ≡ true → left ≡ Some bytes) → IsTold left told
    → IsOutcome words bytes (Ok report) → RunsTo words told status out err → status ≢ ReadFault → ¬ Rose out.faults_before out.faults_after → (status ≡ Done) ⊎ (status ≡ Memory)
completes words left bytes told report status out err tells same h runs read write =
    let outcome = told_outcome (opening words) left bytes told (Ok report) (reads_input (opening words)) refl tells same h in
    by_report words told report status out err runs (settles words told (Ok report) status out err runs outcome) read write
