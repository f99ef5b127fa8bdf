-- Scripts played: first all steps, one after another, then the values of all diagrams. (This project's own.)
--
--     drawings k first steps     the first drawing and what each step gives, the first step having the number k; or the refusal of
--                                the first step that is refused
--     values p d all             the residues of the drawings, the first of which has the number d, at the parameters p; or the refusal
--                                of the first that has none
--     script_values p first steps    the residues of a script's diagrams, or the first refusal
--     Gives view defined result  a call answers so: the definition's value, or its refusal, or want of memory
--
-- At 41, 2, 5 an unknot has the bracket 6, and 36 after a blow-up.
use Rattle.std.specs.Prelude.{◌≡◌, ℕ, ◌+◌, List, [], ◌∷◌, Result, Ok, Err}
use Rattle.root_quantum.specs.Parameters.{Parameters}
use Rattle.script_reader.specs.declared.step.Step.{Step}
use Rattle.wrt_values.specs.declared.fault.ValueRefusal.{ValueRefusal}
use Rattle.wrt_values.specs.declared.value.Value.{Value}
use Rattle.script_values.specs.declared.drawing.Drawing.{Drawing}
use Rattle.script_values.specs.declared.fault.ScriptFault.{ScriptFault}
use Rattle.script_values.specs.declared.fault.ScriptFault.TheVariants.{Refused, Memory}
use Rattle.script_values.specs.declared.fault.ScriptRefusal.{ScriptRefusal}
use Rattle.script_values.specs.declared.fault.ScriptRefusal.TheVariants.{Step as StepRefused, Line}
use Rattle.script_values.specs.declared.step_fault.StepFault.{StepFault}
use Rattle.script_values.specs.declared.step_fault.StepFault.TheVariants as steps
use Rattle.script_values.specs.Drawings.{made, value_in}

-- What follows from a result, or its refusal.
abbrev pub after : {A B : Type 0} → Result A ScriptRefusal → (A → Result B ScriptRefusal) → Result B ScriptRefusal
after (Ok value) next = next value
after (Err refusal) next = Err refusal

-- The values with one before them.
abbrev pub behind : {A : Type 0} → A → Result (List A) ScriptRefusal → Result (List A) ScriptRefusal
behind first (Ok rest) = Ok (first ∷ rest)
behind first (Err refusal) = Err refusal

-- ---- steps
-- What step k gives, or its refusal; no definition of a step is in want of memory.
abbrev pub stepped : ℕ → Drawing → Result Drawing StepFault → Result Drawing ScriptRefusal
stepped k drawing (Ok next) = Ok next
stepped k drawing (Err (steps.Refused reason)) = Err (StepRefused k reason)
stepped k drawing (Err steps.Memory) = Ok drawing

abbrev pub drawings : ℕ → Drawing → List Step → Result (List Drawing) ScriptRefusal
drawings k first [] = Ok (first ∷ [])
drawings k first (step ∷ steps) = after (stepped k first (made first step)) (λ next. behind first (drawings (k + 1) next steps))

-- ---- values
abbrev pub at_line : ℕ → Result Value ValueRefusal → Result ℕ ScriptRefusal
at_line d (Ok value) = Ok value.residue
at_line d (Err reason) = Err (Line d reason)

abbrev pub values : Parameters → ℕ → List Drawing → Result (List ℕ) ScriptRefusal
values p d [] = Ok []
values p d (drawing ∷ rest) = after (at_line d (value_in p drawing)) (λ residue. behind residue (values p (d + 1) rest))

abbrev pub script_values : Parameters → Drawing → List Step → Result (List ℕ) ScriptRefusal
script_values p first steps = after (drawings 1 first steps) (values p 0)

-- ---- answers of calls
abbrev pub Fails : {A : Type 0} → Result A ScriptRefusal → ScriptFault → Type 0
Fails defined (Refused refusal) = defined ≡ Err refusal
Fails defined Memory = Unit {0}

abbrev pub Gives : {A B : Type 0} → (B → A) → Result A ScriptRefusal → Result B ScriptFault → Type 0
Gives view defined (Ok value) = defined ≡ Ok (view value)
Gives view defined (Err fault) = Fails defined fault
