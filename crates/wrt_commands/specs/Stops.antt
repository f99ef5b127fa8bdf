-- Why a run has no report, and what a stage of it answers. (This project's own.)
--
--     status_of_stop stop         the status with which the run ends
--     text_of_stop stop           the fault line, without "wrtcalc: " before it and the line feed behind it
--     stop_line stop              the whole line
--     write_line                  the line of a failed write
--     refused_as wrap result      the same result, where the refusal of a layer is one of the run
--     Is defined outcome          the outcome is the definition's
--     Stops P stop                the stage stops for a refusal that is an outcome, or for want of memory
--     Answers P view result       it answers with a value that, so viewed, is an outcome; or it stops so
use Rattle.std.specs.Prelude.{◌≡◌, ℕ, List, [], ◌∷◌, ◌++◌, codes, Result, Ok, Err}
use Rattle.wrt_values.specs.declared.fault.ValueFault.{ValueFault}
use Rattle.wrt_values.specs.declared.fault.ValueFault.TheVariants as values
use Rattle.wrt_commands.specs.declared.status.Status.{Status}
use Rattle.wrt_commands.specs.declared.status.Status.TheVariants as statuses
use Rattle.wrt_commands.specs.declared.refusal.Refusal.{Refusal}
use Rattle.wrt_commands.specs.declared.refusal.Refusal.TheVariants.{Value}
use Rattle.wrt_commands.specs.declared.stop.Stop.{Stop}
use Rattle.wrt_commands.specs.declared.stop.Stop.TheVariants.{Refused, ReadFault, Memory}
use Rattle.wrt_commands.specs.Refusals.{status_of, text_of}

abbrev pub status_of_stop : Stop → Status
status_of_stop (Refused refusal) = status_of refusal
status_of_stop ReadFault = statuses.ReadFault
status_of_stop Memory = statuses.Memory

abbrev pub text_of_stop : Stop → List ℕ
text_of_stop (Refused refusal) = text_of refusal
text_of_stop ReadFault = codes "read failed"
text_of_stop Memory = codes "out of memory"

abbrev pub stop_line : Stop → List ℕ
stop_line stop = codes "wrtcalc: " ++ text_of_stop stop ++ 10 ∷ []

abbrev pub write_line : List ℕ
write_line = codes "wrtcalc: write failed" ++ 10 ∷ []

-- A value that is refused, or for which there was no memory.
abbrev pub stop_of_value : ValueFault → Stop
stop_of_value (values.Refused refusal) = Refused (Value refusal)
stop_of_value values.Memory = Memory

-- The refusal of a layer, as one of the run.
abbrev pub refused_as : {A R : Type 0} → (R → Refusal) → Result A R → Result A Refusal
refused_as wrap (Ok value) = Ok value
refused_as wrap (Err refusal) = Err (wrap refusal)

-- ---- the one form of a stage's contract
abbrev pub Is : {A : Type 0} → Result A Refusal → Result A Refusal → Type 0
Is defined outcome = defined ≡ outcome

abbrev pub Stops : {A : Type 0} → (Result A Refusal → Type 0) → Stop → Type 0
Stops P (Refused refusal) = P (Err refusal)
Stops P ReadFault = ⊥
Stops P Memory = Unit {0}

abbrev pub Answers : {A B : Type 0} → (Result A Refusal → Type 0) → (B → A) → Result B Stop → Type 0
Answers P view (Ok value) = P (Ok (view value))
Answers P view (Err stop) = Stops P stop
