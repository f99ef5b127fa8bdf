-- The texts of steps: R2[n,n], R2Undo[n,n], R3[n,n,n], Curl[n,s], CurlUndo[n], BlowUp[s] and Slide[n,n], where a
-- sign s is + or -. (This project's own.)
--
--     head step                the word that a step begins with
--     arguments_of step        what stands between its brackets: numbers and signs
--     step_tokens step         its tokens
--     IsTextStep step          its numbers are numbers of a text
--     IsStepOf word step       the same of a step with this head
--     IsArgumentOf slot a      the argument is of the slot's kind: a number of a text, or a sign
use Rattle.std.specs.Prelude.{◌≡◌, ℕ, codes, List, [], ◌∷◌, refl}
use Rattle.std.specs.List.{AllByRecursion}
use Rattle.text_shapes.specs.Tokens.{IsNumber, number_tokens, one_is_a_number}
use Rattle.text_shapes.specs.Shapes.{call}
use Rattle.text_shapes.specs.Reach.{BeginsUnclosed}
use Rattle.planar_check.specs.declared.sign.Sign.{Sign}
use Rattle.planar_check.specs.declared.sign.Sign.TheVariants as signs
use Rattle.script_reader.specs.declared.argument.StepArgument.{StepArgument}
use Rattle.script_reader.specs.declared.argument.StepArgument.TheVariants as arguments
use Rattle.script_reader.specs.declared.step.Step.{Step}
use Rattle.script_reader.specs.declared.step.Step.TheVariants as steps

-- ---- arguments

abbrev pub IsSign : Sign → Type 0
IsSign sign = Unit {0}

abbrev pub sign_tokens : Sign → List (List ℕ)
sign_tokens signs.Plus = codes "+" ∷ []
sign_tokens signs.Minus = codes "-" ∷ []

abbrev pub argument_tokens : StepArgument → List (List ℕ)
argument_tokens (arguments.Number n) = number_tokens n
argument_tokens (arguments.Sign sign) = sign_tokens sign

-- a number is one of a text
abbrev pub IsTextArgument : StepArgument → Type 0
IsTextArgument (arguments.Number n) = IsNumber n
IsTextArgument (arguments.Sign sign) = IsSign sign

abbrev pub IsNumberArgument : StepArgument → Type 0
IsNumberArgument (arguments.Number n) = Unit {0}
IsNumberArgument (arguments.Sign sign) = ⊥

abbrev pub IsSignArgument : StepArgument → Type 0
IsSignArgument (arguments.Number n) = ⊥
IsSignArgument (arguments.Sign sign) = Unit {0}

-- of the slot's kind
abbrev pub IsArgumentOf : StepArgument → StepArgument → Type 0
IsArgumentOf (arguments.Number slot) a = IsNumberArgument a × IsTextArgument a
IsArgumentOf (arguments.Sign slot) a = IsSignArgument a × IsTextArgument a

-- the slots of a call with two numbers
abbrev pub pair_slots : List StepArgument
pair_slots = arguments.Number 1 ∷ arguments.Number 1 ∷ []

-- some argument of the slot's kind
abbrev pub some_argument : StepArgument → StepArgument
some_argument (arguments.Number slot) = arguments.Number 1
some_argument (arguments.Sign slot) = arguments.Sign signs.Plus

pub some_is_argument : (slot : StepArgument) → IsArgumentOf slot (some_argument slot)
some_is_argument (arguments.Number slot) = (tt, one_is_a_number)
some_is_argument (arguments.Sign slot) = (tt, tt)

-- ---- steps

abbrev pub head : Step → List ℕ
head (steps.R2 over under) = codes "R2"
head (steps.R2Undo first second) = codes "R2Undo"
head (steps.R3 first second third) = codes "R3"
head (steps.Curl edge sign) = codes "Curl"
head (steps.CurlUndo crossing) = codes "CurlUndo"
head (steps.BlowUp sign) = codes "BlowUp"
head (steps.Slide edge along) = codes "Slide"

abbrev pub arguments_of : Step → List StepArgument
arguments_of (steps.R2 over under) = arguments.Number over ∷ arguments.Number under ∷ []
arguments_of (steps.R2Undo first second) = arguments.Number first ∷ arguments.Number second ∷ []
arguments_of (steps.R3 first second third) = arguments.Number first ∷ arguments.Number second ∷ arguments.Number third ∷ []
arguments_of (steps.Curl edge sign) = arguments.Number edge ∷ arguments.Sign sign ∷ []
arguments_of (steps.CurlUndo crossing) = arguments.Number crossing ∷ []
arguments_of (steps.BlowUp sign) = arguments.Sign sign ∷ []
arguments_of (steps.Slide edge along) = arguments.Number edge ∷ arguments.Number along ∷ []

abbrev pub step_tokens : Step → List (List ℕ)
step_tokens step = call argument_tokens (head step) (arguments_of step)

abbrev pub IsTextStep : Step → Type 0
IsTextStep step = AllByRecursion IsTextArgument (arguments_of step)

-- a step with this head
abbrev pub IsStepOf : List ℕ → Step → Type 0
IsStepOf word step = (head step ≡ word) × IsTextStep step

pub step_begins_unclosed : (step : Step) → IsTextStep step → BeginsUnclosed (step_tokens step)
step_begins_unclosed (steps.R2 over under) h = refl
step_begins_unclosed (steps.R2Undo first second) h = refl
step_begins_unclosed (steps.R3 first second third) h = refl
step_begins_unclosed (steps.Curl edge sign) h = refl
step_begins_unclosed (steps.CurlUndo crossing) h = refl
step_begins_unclosed (steps.BlowUp sign) h = refl
step_begins_unclosed (steps.Slide edge along) h = refl
