-- The stages of a run, one behind the other: where a stage stops, the run stops so, and else it goes on with what follows.
use Rattle.std.proofs.Common.{◌≡◌, Result, Ok, Err, refl, sym, subst}
use Rattle.wrt_commands.specs.declared.refusal.Refusal.{Refusal}
use Rattle.wrt_commands.specs.declared.stop.Stop.{Stop}
use Rattle.wrt_commands.specs.declared.stop.Stop.TheVariants.{Refused, ReadFault, Memory}
use Rattle.wrt_request.specs.Stages.{after}
use Rattle.wrt_commands.specs.Stops.{Is, Stops, Answers}

-- a stop of one stage as that of another whose outcomes have the same refusals
module _ {A B : Type 0} (P : Result A Refusal → Type 0) (Q : Result B Refusal → Type 0) (refusals : (refusal : Refusal) → P (Err refusal) → Q (Err refusal)) where
  stopped : (stop : Stop) → Stops P stop → Stops Q stop
  stopped (Refused refusal) h = refusals refusal h
  stopped ReadFault h = h
  stopped Memory h = tt

  pub stops_as : (of stop : Stop) → stop ≡ of → Stops P of → Stops Q stop
  stops_as of stop same h = let T : Stop → Type 0 = λ s. Stops Q s in subst T (sym same) (stopped of h)

-- the answers of one stage as those of another
pub answers_as : {A B : Type 0} (P Q : Result A Refusal → Type 0) (view : B → A) → ((outcome : Result A Refusal) → P outcome → Q outcome) → (result : Result B Stop) → Answers P view result
    → Answers Q view result
answers_as P Q view outcomes (Ok value) h = outcomes (Ok (view value)) h
answers_as P Q view outcomes (Err stop) h = stopped P Q (λ refusal. outcomes (Err refusal)) stop h

-- ---- what is bound behind a stage that gives a value answers for both
pub goes_on : {A B C : Type 0} (first : Result A Refusal) (next : A → Result B Refusal) (view : C → B) (value : A) → first ≡ Ok value → (result : Result C Stop) → Answers (Is (next value)) view result
    → Answers (Is (after first next)) view result
goes_on first next view value is result h = let P : Result _ Refusal → Type 0 = λ f. Answers (Is (after f next)) view result in subst P (sym is) h

-- ---- THROUGH `?`
-- a stage that stops ends what is bound behind it
pub ends : {A B : Type 0} (first : Result A Refusal) (next : A → Result B Refusal) → (of stop : Stop) → stop ≡ of → Stops (Is first) of → Stops (Is (after first next)) stop
ends first next = stops_as (Is first) (Is (after first next)) (λ refusal h. rw h refl)
