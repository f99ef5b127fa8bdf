-- Texts of scripts: Moves[PD[item,..,item],step,..,step], a diagram and the steps that are made from it on.
-- (This project's own.)
--
--     IsScriptText bytes script      the bytes are a text of this diagram and these steps
--     script_refusal script          the first reason against it: more than 256 items, more than 1,000 steps, or a
--                                    label that doesn't stand twice
--     IsScriptRefusal bytes fault    a refusal of bytes that want of memory apart says what they are
--     IsScriptReading bytes result   the bytes are a text of this script, or are refused for that fault
--
-- "Moves[PD[Loop[1]],BlowUp[+]]" is a text of the diagram Loop 1 and the step BlowUp of the sign Plus.
use Rattle.std.specs.Prelude.{ℕ, cond, nat_lt, nat_le, ◌&&◌, codes, List, ◌∷◌, ◌++◌, length, Option, Some, Result}
use Rattle.std.specs.List.{AllByRecursion}
use Rattle.text_shapes.specs.Shapes.{IsText, items_behind}
use Rattle.pd_reader.specs.declared.diagram.TheConstants.{MOST_ITEMS}
use Rattle.pd_reader.specs.declared.fault.DiagramFault.{DiagramFault}
use Rattle.pd_reader.specs.declared.fault.DiagramFault.TheVariants as faults
use Rattle.pd_reader.specs.declared.fault.TextFault.{TextFault}
use Rattle.pd_reader.specs.declared.item.Item.{Item}
use Rattle.pd_reader.specs.Answers.{IsReadAs, IsRefusal}
use Rattle.pd_reader.specs.Diagrams.{refusal}
use Rattle.pd_reader.specs.Faults.{cause}
use Rattle.pd_reader.specs.Items.{item_labels}
use Rattle.pd_reader.specs.Texts.{IsTextItem, pd_tokens}
use Rattle.script_reader.specs.declared.script.TheConstants.{MOST_STEPS}
use Rattle.script_reader.specs.declared.step.Step.{Step}
use Rattle.script_reader.specs.StepTexts.{IsTextStep, step_tokens}

-- a script: the items of a diagram, and steps
pub record ScriptParts : Type 0 where
  pub diagram : List Item
  pub steps : List Step

pub record IsTextScript (script : ScriptParts) : Type 0 where
  pub are_items : AllByRecursion IsTextItem script.diagram
  pub are_steps : AllByRecursion IsTextStep script.steps

-- each step behind a comma, and the bracket that closes
abbrev pub steps_tokens : List Step → List (List ℕ)
steps_tokens = items_behind 93 step_tokens

abbrev pub script_tokens : ScriptParts → List (List ℕ)
script_tokens script = codes "Moves" ∷ codes "[" ∷ (pd_tokens script.diagram ++ steps_tokens script.steps)

abbrev pub IsScriptText : List ℕ → ScriptParts → Type 0
IsScriptText = IsText IsTextScript script_tokens

-- the items' number, the steps' number, then the labels
abbrev pub script_refusal : ScriptParts → Option DiagramFault
script_refusal script =
    cond (nat_le (length script.diagram) MOST_ITEMS && nat_lt MOST_STEPS (length script.steps)) (Some (faults.TooMany MOST_STEPS))
    (refusal item_labels script.diagram)

abbrev pub IsScriptRefusal : List ℕ → TextFault → Type 0
IsScriptRefusal bytes fault = IsRefusal IsTextScript script_tokens script_refusal bytes (cause fault)

abbrev pub IsScriptReading : List ℕ → Result ScriptParts TextFault → Type 0
IsScriptReading = IsReadAs IsTextScript script_tokens script_refusal cause
