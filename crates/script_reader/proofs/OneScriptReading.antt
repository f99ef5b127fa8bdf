-- Each input has exactly one reading as a script.
use Rattle.std.proofs.Common.{inl, inr, ◌≡◌, ◌⊎◌, ℕ, Bool, true, false, cond, codes, List, [], ◌∷◌, Some, refl, sym, ap, ◌∙◌, arith}
use Rattle.text_shapes.specs.Tokens.{is_space, number_tokens, one_is_a_number}
use Rattle.text_shapes.specs.Reach.{AreTokens, BeginsUnclosed, IsToken}
use Rattle.text_shapes.specs.Readers.{IsReadable, TextRead}
use Rattle.text_shapes.proofs.Arguments.{HasSome}
use Rattle.text_shapes.proofs.Choosing.{choice_readable}
use Rattle.text_shapes.proofs.Elements.{All-append}
use Rattle.text_shapes.proofs.Listing.{behind_readable, list_readable}
use Rattle.text_shapes.proofs.Readings.{through, token_readable, text_read, read_unique}
use Rattle.text_shapes.proofs.Scanning.{number_readable}
use Rattle.text_shapes.proofs.TokenLists.{inside-tokens}
use Rattle.pd_reader.specs.declared.fault.DiagramFault.{DiagramFault}
use Rattle.pd_reader.specs.declared.fault.DiagramFault.TheVariants as reasons
use Rattle.pd_reader.specs.declared.fault.TextFault.{TextFault}
use Rattle.pd_reader.specs.declared.fault.TextFault.TheVariants as faults
use Rattle.pd_reader.specs.declared.item.Item.{Item}
use Rattle.pd_reader.specs.declared.item.Item.TheVariants as items
use Rattle.pd_reader.specs.Diagrams.{refusal}
use Rattle.pd_reader.specs.Faults.{Cause, at_place, against, no_memory, cause, of_items, of_place}
use Rattle.pd_reader.specs.Items.{item_labels}
use Rattle.pd_reader.specs.Texts.{IsOfKind, IsTextItem, item_tokens, pd_tokens}
use Rattle.pd_reader.proofs.ItemCalls.{x_word, loop_word, head, numbers, slots_of, item_of, item_calls, makes_x, makes_loop, all_heads}
use Rattle.pd_reader.proofs.OneReading.{is_against, is_at}
use Rattle.pd_reader.proofs.Readings.{Gave, each_is_read, one_reading}
use Rattle.pd_reader.proofs.TextTokens.{pd_are_tokens}
use Rattle.script_reader.specs.declared.script.TheConstants.{MOST_STEPS}
use Rattle.script_reader.specs.declared.step.Step.{Step}
use Rattle.script_reader.specs.Laws.{ScriptReadingsExist, ScriptReadingsAreUnique}
use Rattle.script_reader.specs.StepTexts.{IsTextStep, step_begins_unclosed, step_tokens}
use Rattle.script_reader.specs.ScriptTexts.{ScriptParts, IsTextScript, script_refusal, script_tokens, steps_tokens}
use Rattle.script_reader.proofs.PartsOfScripts.{FitSteps, bracket_is_token, bracketed, inside, items_lack, items_lead, least_fits, moves_is_token, parts, pd_is_token}
use Rattle.script_reader.proofs.StepReadings.{step_are_tokens, step_readable}

-- ---- readable
some_number : HasSome IsOfKind
some_number = record { some = λ _. 1; some_fits = λ _. one_is_a_number }

item_readable : IsReadable IsTextItem item_tokens
item_readable =
    choice_readable number_tokens IsOfKind IsTextItem item_tokens slots_of item_of head numbers item_calls some_number (λ _. number_readable) (codes "Loop") (codes "X" ∷ [])
    (record { word = loop_word; makes = makes_loop; some = omega arith }) (record { word = x_word; makes = makes_x; some = omega arith }, tt) all_heads

item_begins : (v : Item) → IsTextItem v → BeginsUnclosed (item_tokens v)
item_begins (items.X slots) h = refl
item_begins (items.Loop label) h = refl

inside_readable : IsReadable IsTextScript inside
inside_readable bytes at le = elim (list_readable IsTextItem item_tokens item_begins item_readable (codes "PD") pd_is_token bytes at le) [
  | inl found ↦ through IsTextScript inside FitSteps steps_tokens (parts found.0) bytes at found.1 (items_lead bytes at found.1 found.0 found.2)
      (behind_readable 93 refl IsTextStep step_tokens step_begins_unclosed step_readable bytes found.1 found.2.within)
  | inr missed ↦ inr (missed.0, items_lack bytes at missed.0 missed.1)
]

script_readable : IsReadable IsTextScript script_tokens
script_readable =
    token_readable IsTextScript (codes "Moves") bracketed moves_is_token (parts [] []) least_fits
    (token_readable IsTextScript (codes "[") inside bracket_is_token (parts [] []) least_fits inside_readable)

-- ---- of tokens
steps_are_tokens : (steps : List Step) → FitSteps steps → AreTokens (steps_tokens steps)
unfolding is_space
steps_are_tokens [] h = (refl, tt)
steps_are_tokens (step ∷ steps) h = (refl, inside-tokens 93 refl IsTextStep step_tokens step_are_tokens (step ∷ steps) h)

pub script_are_tokens : (script : ScriptParts) → IsTextScript script → AreTokens (script_tokens script)
script_are_tokens script h =
    (moves_is_token, (bracket_is_token, All-append IsToken (pd_tokens script.diagram) (steps_tokens script.steps) (pd_are_tokens script.diagram h.are_items) (steps_are_tokens script.steps h.are_steps)))

-- ---- the reasons
reason_kept : (many : Bool) (items : List Item) (first : DiagramFault) → cond many (Some (reasons.TooMany MOST_STEPS)) (refusal item_labels items) ≡ Some first → cause (of_items first) ≡ against first
reason_kept true items first e = (let same : reasons.TooMany MOST_STEPS ≡ first = cc in rw (sym same) refl)
reason_kept false items first e = is_against item_labels items first e

pub script_is_against : (script : ScriptParts) (first : DiagramFault) → script_refusal script ≡ Some first → cause (of_items first) ≡ against first
script_is_against script first e = reason_kept _ script.diagram first e

-- what the check of the script gave
pub gave_reason : (script : ScriptParts) (fault : DiagramFault) → (fault ≡ reasons.Memory) ⊎ (script_refusal script ≡ Some fault) → Gave (cause (of_items fault)) (script_refusal script)
gave_reason script fault (inl e) = inl (ap (λ (f : DiagramFault). cause (of_items f)) e)
gave_reason script fault (inr e) = inr (fault, script_is_against script fault e, e)

script_read : (bytes : List ℕ) → TextRead IsTextScript script_tokens bytes
script_read bytes = text_read IsTextScript script_tokens script_readable bytes

-- a fault is told by its cause
fault_of : Cause DiagramFault → TextFault
fault_of (at_place place) = of_place place
fault_of (against first) = of_items first
fault_of no_memory = faults.Memory

is_fault_of : (f : TextFault) → fault_of (cause f) ≡ f
unfolding fault_of
is_fault_of (faults.Head n) = refl
is_fault_of (faults.Number n) = refl
is_fault_of (faults.Text n) = refl
is_fault_of (faults.TooMany limit) = refl
is_fault_of (faults.Label label count) = refl
is_fault_of faults.Memory = refl

told_apart : (f g : TextFault) → cause f ≡ cause g → f ≡ g
told_apart f g e = sym (is_fault_of f) ∙ ap fault_of e ∙ is_fault_of g

-- THERE IS ONE
pub script_readings_exist : ScriptReadingsExist
script_readings_exist bytes = each_is_read IsTextScript script_tokens script_refusal cause script_are_tokens bytes of_place of_items is_at script_is_against (script_read bytes)

-- AND ONE ONLY
pub script_readings_are_unique : ScriptReadingsAreUnique
script_readings_are_unique bytes x y h k =
    one_reading IsTextScript script_tokens script_refusal bytes (λ v w s t. read_unique IsTextScript script_tokens script_are_tokens bytes (script_read bytes) v w s t) cause told_apart x y h k
