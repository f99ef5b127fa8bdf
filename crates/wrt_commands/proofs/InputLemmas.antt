-- What the bytes of an input come to, from what their reading does; that this is one thing, and something, where the shape of text has
-- its two laws; and that each shape has them: its reader's readings do, and each of its faults but want of memory is a refusal.
use Rattle.std.proofs.Common.{◌≡◌, ◌≢◌, ◌≤◌, ◌∙◌, inl, inr, ℕ, List, length, Option, Some, Result, Ok, Err, refl, sym, ap, arith}
use Rattle.std.proofs.lemmas.Bool.{cases_lt}
use Rattle.pd_reader.specs.declared.fault.TextFault.{TextFault}
use Rattle.pd_reader.specs.declared.fault.TextFault.TheVariants as texts
use Rattle.pd_reader.specs.Faults.{cause, no_memory}
use Rattle.pd_reader.specs.Refusals.{IsPdReading, IsNetReading}
use Rattle.pd_reader.proofs.OneReading.{readings_are_unique_lem, readings_exist_lem}
use Rattle.script_reader.specs.ScriptTexts.{IsScriptReading}
use Rattle.script_reader.proofs.OneScriptReading.{script_readings_are_unique, script_readings_exist}
use Rattle.braid_trace.specs.declared.fault.BraidFault.{BraidFault}
use Rattle.braid_trace.specs.declared.fault.BraidFault.TheVariants as braids
use Rattle.braid_trace.specs.Faults.{IsBraidReading}
use Rattle.braid_trace.proofs.OneReading as braid_readings
use Rattle.tetra_reader.specs.declared.fault.TetraText.{TetraText}
use Rattle.tetra_reader.specs.declared.fault.TetraText.TheVariants as tetras
use Rattle.tetra_reader.specs.Faults.{IsTetraReading}
use Rattle.tetra_reader.proofs.OneReading as tetra_readings
use Rattle.wrt_commands.specs.declared.input.TheConstants.{MOST_BYTES}
use Rattle.wrt_commands.specs.declared.refusal.Refusal.{Refusal}
use Rattle.wrt_commands.specs.declared.refusal.Refusal.TheVariants as refusals
use Rattle.wrt_commands.specs.declared.stop.Stop.{Stop}
use Rattle.wrt_commands.specs.declared.text_refusal.Counted.{Counted}
use Rattle.wrt_commands.specs.declared.text_refusal.Counted.TheVariants.{Items}
use Rattle.wrt_commands.specs.Inputs.{IsTextOutcome, IsInputOutcome, IsPdOutcome, IsNetTextOutcome, IsScriptTextOutcome, HasOneOutcome, HasOutcome, IsBraidTextOutcome, IsTetraTextOutcome}
use Rattle.wrt_request.specs.Stages.{after}
use Rattle.wrt_commands.specs.Stops.{Is, Stops, Answers}
use Rattle.wrt_commands.specs.TextRefusals.{counted_in, script_text_refusal, text_refusal}
use Rattle.wrt_commands.specs.BraidRefusals.{refusal_of_braid}
use Rattle.wrt_commands.specs.TetraRefusals.{refusal_of_tetra}
use Rattle.wrt_commands.specs.TooLongRefusals.{past_limit}
use Rattle.wrt_commands.proofs.StageLemmas.{stops_as, answers_as}

-- ---- any shape
module _ {A B : Type 0} (is_text : List ℕ → Result A Refusal → Type 0) (next : A → Result B Refusal) (bytes : List ℕ) where
  -- a text that is refused
  pub text_stops : length bytes ≤ MOST_BYTES → (of stop : Stop) → stop ≡ of → Stops (is_text bytes) of → Stops (IsInputOutcome is_text next bytes) stop
  text_stops short = stops_as (is_text bytes) (IsInputOutcome is_text next bytes) (λ refusal h. inr (short, (Err refusal, h, refl)))

  -- one that is read
  pub text_answers : {C : Type 0} (view : C → B) (value : A) → length bytes ≤ MOST_BYTES → is_text bytes (Ok value) → (result : Result C Stop) → Answers (Is (next value)) view result
      → Answers (IsInputOutcome is_text next bytes) view result
  text_answers view value short read = answers_as (Is (next value)) (IsInputOutcome is_text next bytes) view (λ outcome h. inr (short, (Ok value, read, sym h)))

  -- at most one thing
  pub one_input : HasOneOutcome is_text → (x y : Result B Refusal) → IsInputOutcome is_text next bytes x → IsInputOutcome is_text next bytes y → x ≡ y
  one_input one x y (inl h) (inl k) = h.1 ∙ sym k.1
  one_input one x y (inl h) (inr k) = let long = h.0 in let short = k.0 in absurd (omega (arith, long, short))
  one_input one x y (inr h) (inl k) = let short = h.0 in let long = k.0 in absurd (omega (arith, long, short))
  one_input one x y (inr h) (inr k) = h.1.2 ∙ ap (λ read. after read next) (one bytes h.1.0 k.1.0 h.1.1 k.1.1) ∙ sym k.1.2

  -- and something
  pub some_input : HasOutcome is_text → (outcome : Result B Refusal) × IsInputOutcome is_text next bytes outcome
  some_input some =
      elim (cases_lt MOST_BYTES (length bytes)) [
        | inl long ↦ (Err (refusals.TooLong past_limit), inl (long, refl))
        | inr fits ↦ (let r = some bytes in (after r.0 next, inr (fits, (r.0, r.1, refl))))
      ]

-- ---- the laws of a shape, by those of its reader
module _ {A F : Type 0} (reading : List ℕ → Result A F → Type 0) (refusal_of : F → Option Refusal) where
  one_outcome_of_text : ((bytes : List ℕ) (x y : Result A F) → reading bytes x → reading bytes y → x ≡ y) → HasOneOutcome (IsTextOutcome reading refusal_of)
  one_outcome_of_text one bytes (Ok x) (Ok y) h k = let e = one bytes (Ok x) (Ok y) h k in cc
  one_outcome_of_text one bytes (Ok x) (Err refusal) h k = let e = one bytes (Ok x) (Err k.0) h k.1 in absurd (cc)
  one_outcome_of_text one bytes (Err refusal) (Ok y) h k = let e = one bytes (Ok y) (Err h.0) k h.1 in absurd (cc)
  one_outcome_of_text one bytes (Err refusal) (Err other) h k =
      let e = one bytes (Err h.0) (Err k.0) h.1 k.1 in
      let same : h.0 ≡ k.0 = cc in
      let told = ap refusal_of same in
      let left = h.2 in let right = k.2 in
      let refused : refusal ≡ other = cc in
      ap Err refused

  text_of_reading : ((bytes : List ℕ) (fault : F) → reading bytes (Err fault) → (refusal : Refusal) × (refusal_of fault ≡ Some refusal)) → (bytes : List ℕ) → (read : Result A F) → reading bytes read
      → (text : Result A Refusal) × IsTextOutcome reading refusal_of bytes text
  text_of_reading told bytes (Ok value) h = (Ok value, h)
  text_of_reading told bytes (Err fault) h = let t = told bytes fault h in (Err t.0, (fault, h, t.1))

-- ---- a fault of a text's reader, but for want of memory, is a refusal
text_told : (counted : Counted) (fault : TextFault) → cause fault ≢ no_memory → (refusal : Refusal) × (text_refusal counted fault ≡ Some refusal)
text_told counted (texts.Head at) some = (_, refl)
text_told counted (texts.Number at) some = (_, refl)
text_told counted (texts.Text at) some = (_, refl)
text_told counted (texts.TooMany limit) some = (_, refl)
text_told counted (texts.Label label count) some = (_, refl)
text_told counted texts.Memory some = absurd (some refl)

-- ---- diagrams
pub pd_one_outcome : HasOneOutcome IsPdOutcome
pd_one_outcome = one_outcome_of_text IsPdReading (text_refusal Items) readings_are_unique_lem.0

pub pd_outcome : HasOutcome IsPdOutcome
pd_outcome bytes = let r = readings_exist_lem.0 bytes in text_of_reading IsPdReading (text_refusal Items) (λ of fault h. text_told Items fault h.0) bytes r.0 r.1

-- ---- nets
pub net_one_outcome : HasOneOutcome IsNetTextOutcome
net_one_outcome = one_outcome_of_text IsNetReading (text_refusal Items) readings_are_unique_lem.1

pub net_outcome : HasOutcome IsNetTextOutcome
net_outcome bytes = let r = readings_exist_lem.1 bytes in text_of_reading IsNetReading (text_refusal Items) (λ of fault h. text_told Items fault h.0) bytes r.0 r.1

-- ---- scripts
pub script_one_outcome : HasOneOutcome IsScriptTextOutcome
script_one_outcome = one_outcome_of_text IsScriptReading script_text_refusal script_readings_are_unique

pub script_outcome : HasOutcome IsScriptTextOutcome
script_outcome bytes = let r = script_readings_exist bytes in text_of_reading IsScriptReading script_text_refusal (λ of fault h. text_told (counted_in fault) fault h.0) bytes r.0 r.1

-- ---- braids
pub braid_one_outcome : HasOneOutcome IsBraidTextOutcome
braid_one_outcome = one_outcome_of_text IsBraidReading refusal_of_braid braid_readings.readings_are_unique_lem

braid_told : (bytes : List ℕ) (fault : BraidFault) → IsBraidReading bytes (Err fault) → (refusal : Refusal) × (refusal_of_braid fault ≡ Some refusal)
braid_told bytes (braids.Head at) h = (_, refl)
braid_told bytes (braids.Number at) h = (_, refl)
braid_told bytes (braids.Text at) h = (_, refl)
braid_told bytes (braids.Strands given) h = (_, refl)
braid_told bytes (braids.TooMany limit) h = (_, refl)
braid_told bytes (braids.Entry at strands) h = (_, refl)
braid_told bytes braids.Memory h = absurd (h.0 refl)

pub braid_outcome : HasOutcome IsBraidTextOutcome
braid_outcome bytes = let r = braid_readings.readings_exist_lem bytes in text_of_reading IsBraidReading refusal_of_braid braid_told bytes r.0 r.1

-- ---- tetrahedra
pub tetra_one_outcome : HasOneOutcome IsTetraTextOutcome
tetra_one_outcome = one_outcome_of_text IsTetraReading refusal_of_tetra tetra_readings.readings_are_unique_lem

tetra_told : (bytes : List ℕ) (fault : TetraText) → IsTetraReading bytes (Err fault) → (refusal : Refusal) × (refusal_of_tetra fault ≡ Some refusal)
tetra_told bytes (tetras.Head at) h = (_, refl)
tetra_told bytes (tetras.Number at) h = (_, refl)
tetra_told bytes (tetras.Text at) h = (_, refl)
tetra_told bytes (tetras.TooMany limit) h = (_, refl)
tetra_told bytes (tetras.Face tetrahedron) h = (_, refl)
tetra_told bytes tetras.Memory h = absurd (h.0 refl)

pub tetra_outcome : HasOutcome IsTetraTextOutcome
tetra_outcome bytes = let r = tetra_readings.readings_exist_lem bytes in text_of_reading IsTetraReading refusal_of_tetra tetra_told bytes r.0 r.1
