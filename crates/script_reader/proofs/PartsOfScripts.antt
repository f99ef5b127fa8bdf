-- The parts of a script's text: Moves[, the text of a diagram, then the steps.
use Rattle.std.proofs.Common.{inl, inr, ℕ, codes, List, [], ◌∷◌, ◌++◌, refl, ap, ◌∙◌, append_assoc, arith}
use Rattle.std.specs.List.{AllByRecursion}
use Rattle.text_shapes.specs.Tokens.{is_space}
use Rattle.text_shapes.specs.Reach.{IsToken, IsMarked, is_word_byte, place}
use Rattle.text_shapes.specs.Readers.{Found, LeadsTo, Missed, Stands}
use Rattle.text_shapes.proofs.Chain.{LeadsTo-then, token_stands}
use Rattle.pd_reader.specs.declared.fault.Stop.{Stop}
use Rattle.pd_reader.specs.declared.fault.Stop.TheVariants as stops
use Rattle.pd_reader.specs.declared.item.Item.{Item}
use Rattle.pd_reader.specs.Stops.{MissesAt}
use Rattle.pd_reader.specs.Texts.{IsTextItem, pd_tokens}
use Rattle.script_reader.specs.declared.step.Step.{Step}
use Rattle.script_reader.specs.StepTexts.{IsTextStep}
use Rattle.script_reader.specs.ScriptTexts.{ScriptParts, IsTextScript, script_tokens, steps_tokens}

abbrev pub FitItems : List Item → Type 0
FitItems = AllByRecursion IsTextItem

abbrev pub FitSteps : List Step → Type 0
FitSteps = AllByRecursion IsTextStep

-- the text of a diagram and the steps, and the same behind a bracket
abbrev pub inside : ScriptParts → List (List ℕ)
inside script = pd_tokens script.diagram ++ steps_tokens script.steps

abbrev pub bracketed : ScriptParts → List (List ℕ)
bracketed script = codes "[" ∷ inside script

abbrev pub parts : List Item → List Step → ScriptParts
parts items steps = record { diagram = items; steps = steps }

-- some text: Moves[PD[]]
pub least_fits : IsTextScript (parts [] [])
least_fits = record { are_items = tt; are_steps = tt }

pub bracket_is_token : IsToken (codes "[")
unfolding is_space
bracket_is_token = refl

pub moves_is_token : IsToken (codes "Moves")
unfolding is_space
moves_is_token = refl

pub pd_is_token : IsToken (codes "PD")
unfolding is_space
pd_is_token = refl

steps_marked : (steps : List Step) (more : List (List ℕ)) → IsMarked (steps_tokens steps ++ more)
unfolding is_word_byte
steps_marked [] more = refl
steps_marked (step ∷ steps) more = refl

-- behind a diagram stand the steps
pub items_lead : (bytes : List ℕ) (at next : ℕ) (items : List Item) → Found FitItems pd_tokens bytes at items next → LeadsTo IsTextScript inside FitSteps steps_tokens (parts items) bytes at next
items_lead bytes at next items f = record {
  from = omega (arith, f.from);
  within = f.within;
  onto = λ steps h. record { are_items = f.fits_shape; are_steps = h };
  same = λ steps more. ap (place bytes at) (append_assoc (pd_tokens items) (steps_tokens steps) more) ∙ f.same (steps_tokens steps ++ more);
  others = λ script more h. elim (f.others script.diagram (steps_tokens script.steps ++ more) h.are_items (steps_marked script.steps more)) [
    | inl e ↦ inl (script.steps, ap (λ (xs : List Item). parts xs script.steps) e, h.are_steps)
    | inr le ↦ inr (let same = ap (place bytes at) (append_assoc (pd_tokens script.diagram) (steps_tokens script.steps) more) in omega (arith, le, same))
  ];
}

-- where no diagram stands, no script goes on
pub items_lack : (bytes : List ℕ) (at p : ℕ) → Missed FitItems pd_tokens bytes at p → Missed IsTextScript inside bytes at p
items_lack bytes at p m = record {
  within = m.within;
  furthest = parts m.furthest [];
  fits_shape = record { are_items = m.fits_shape; are_steps = tt };
  reached = λ more. ap (place bytes at) (append_assoc (pd_tokens m.furthest) (steps_tokens []) more) ∙ m.reached (steps_tokens [] ++ more);
  most = λ script more h. let same = ap (place bytes at) (append_assoc (pd_tokens script.diagram) (steps_tokens script.steps) more) in let le = m.most script.diagram (steps_tokens script.steps ++ more) h.are_items in omega (arith, le, same);
}

pub items_stop : (bytes : List ℕ) (at : ℕ) (stop : Stop) → MissesAt FitItems pd_tokens bytes at stop → MissesAt IsTextScript inside bytes at stop
items_stop bytes at (stops.At p) m = items_lack bytes at p m
items_stop bytes at stops.Memory m = tt

-- behind Moves[ stands the rest
pub opened : (bytes : List ℕ) (head next : ℕ) → Stands bytes 0 (codes "Moves") head → Stands bytes head (codes "[") next → LeadsTo IsTextScript script_tokens IsTextScript inside (λ script. script) bytes 0 next
opened bytes head next s o =
    LeadsTo-then IsTextScript script_tokens IsTextScript bracketed IsTextScript inside (λ script. script) (λ script. script) bytes 0 head next
    (token_stands IsTextScript (codes "Moves") bracketed bytes 0 head moves_is_token s) (token_stands IsTextScript (codes "[") inside bytes head next bracket_is_token o)

-- and behind the diagram the steps
pub steps_behind : (bytes : List ℕ) (head next after : ℕ) (items : List Item) → Stands bytes 0 (codes "Moves") head → Stands bytes head (codes "[") next → Found FitItems pd_tokens bytes next items after
    → LeadsTo IsTextScript script_tokens FitSteps steps_tokens (parts items) bytes 0 after
steps_behind bytes head next after items s o f =
    LeadsTo-then IsTextScript script_tokens IsTextScript inside FitSteps steps_tokens (λ script. script) (parts items) bytes 0 next after (opened bytes head next s o) (items_lead bytes next after items f)
