-- What the bytes of an input come to, for any shape of text. A shape says what the bytes are read as, in a relation: a value, or a
-- fault of its reader, which is the refusal that `refusal_of` tells, and none for want of memory. (This project's own.)
--
--     IsTextOutcome reading refusal_of bytes outcome    the bytes are read as this value, or are refused so
--     IsInputOutcome is_text next bytes outcome         what the bytes come to, where a value comes to what `next` tells: they are
--                                                       too long, or they are a text, of a value or refused
--     HasOneOutcome, HasOutcome is_text                 the two laws of a shape: bytes come to at most one outcome, and to one at least
--     IsPdOutcome bytes outcome                         the shape of diagrams: `PD[..]`
--     IsNetTextOutcome bytes outcome                    the shape of nets: `Net[..]`
--     IsScriptTextOutcome bytes outcome                 the shape of scripts: `Moves[..]`
--     IsBraidTextOutcome bytes outcome                  the shape of braids: `BR[n,{..}]`
--     IsTetraTextOutcome bytes outcome                  the shape of tetrahedra: `TV[..]`
use Rattle.std.specs.Prelude.{◌≡◌, ◌⊎◌, ℕ, ◌<◌, ◌≤◌, List, length, Option, Some, Result, Ok, Err}
use Rattle.braid_trace.specs.Braids.{BraidWord}
use Rattle.braid_trace.specs.Faults.{IsBraidReading}
use Rattle.pd_reader.specs.declared.item.Item.{Item}
use Rattle.pd_reader.specs.declared.item.NetItem.{NetItem}
use Rattle.pd_reader.specs.Refusals.{IsPdReading, IsNetReading}
use Rattle.tetra_reader.specs.declared.item.TetraItem.{TetraItem}
use Rattle.tetra_reader.specs.Faults.{IsTetraReading}
use Rattle.script_reader.specs.ScriptTexts.{ScriptParts, IsScriptReading}
use Rattle.wrt_commands.specs.declared.input.TheConstants.{MOST_BYTES}
use Rattle.wrt_commands.specs.declared.refusal.Refusal.{Refusal}
use Rattle.wrt_commands.specs.declared.refusal.Refusal.TheVariants.{TooLong}
use Rattle.wrt_commands.specs.declared.text_refusal.Counted.TheVariants.{Items}
use Rattle.wrt_commands.specs.TextRefusals.{text_refusal, script_text_refusal}
use Rattle.wrt_commands.specs.BraidRefusals.{refusal_of_braid}
use Rattle.wrt_commands.specs.TetraRefusals.{refusal_of_tetra}
use Rattle.wrt_commands.specs.TooLongRefusals.{past_limit}
use Rattle.wrt_request.specs.Stages.{after}

-- The bytes are refused as texts of the shape: for a fault of its reader that is this refusal.
abbrev pub IsRefusedText : {A F : Type 0} → (List ℕ → Result A F → Type 0) → (F → Option Refusal) → List ℕ → Refusal → Type 0
IsRefusedText {F = F} reading refusal_of bytes refusal = (fault : F) × reading bytes (Err fault) × (refusal_of fault ≡ Some refusal)

-- The bytes are read as this value, or are refused so.
abbrev pub IsTextOutcome : {A F : Type 0} → (List ℕ → Result A F → Type 0) → (F → Option Refusal) → List ℕ → Result A Refusal → Type 0
IsTextOutcome reading refusal_of bytes (Ok value) = reading bytes (Ok value)
IsTextOutcome reading refusal_of bytes (Err refusal) = IsRefusedText reading refusal_of bytes refusal

-- What the bytes come to.
abbrev pub IsInputOutcome : {A B : Type 0} → (List ℕ → Result A Refusal → Type 0) → (A → Result B Refusal) → List ℕ → Result B Refusal → Type 0
IsInputOutcome {A = A} is_text next bytes outcome =
    ((MOST_BYTES < length bytes) × (outcome ≡ Err (TooLong past_limit)))
    ⊎ ((length bytes ≤ MOST_BYTES) × ((read : Result A Refusal) × is_text bytes read × (outcome ≡ after read next)))

-- ---- the laws of a shape
abbrev pub HasOneOutcome : {A : Type 0} → (List ℕ → Result A Refusal → Type 0) → Type 0
HasOneOutcome {A = A} is_text = (bytes : List ℕ) (x y : Result A Refusal) → is_text bytes x → is_text bytes y → x ≡ y

abbrev pub HasOutcome : {A : Type 0} → (List ℕ → Result A Refusal → Type 0) → Type 0
HasOutcome {A = A} is_text = (bytes : List ℕ) → (read : Result A Refusal) × is_text bytes read

-- ---- the shapes
-- Diagrams: their limit is on items.
abbrev pub IsPdOutcome : List ℕ → Result (List Item) Refusal → Type 0
IsPdOutcome = IsTextOutcome IsPdReading (text_refusal Items)

-- Nets: likewise.
abbrev pub IsNetTextOutcome : List ℕ → Result (List NetItem) Refusal → Type 0
IsNetTextOutcome = IsTextOutcome IsNetReading (text_refusal Items)

-- Scripts: their limits are on items, and on steps.
abbrev pub IsScriptTextOutcome : List ℕ → Result ScriptParts Refusal → Type 0
IsScriptTextOutcome = IsTextOutcome IsScriptReading script_text_refusal

-- Braids: with limits of their own.
abbrev pub IsBraidTextOutcome : List ℕ → Result BraidWord Refusal → Type 0
IsBraidTextOutcome = IsTextOutcome IsBraidReading refusal_of_braid

-- Tetrahedra: their limit is on items, and each face is listed.
abbrev pub IsTetraTextOutcome : List ℕ → Result (List TetraItem) Refusal → Type 0
IsTetraTextOutcome = IsTextOutcome IsTetraReading refusal_of_tetra
