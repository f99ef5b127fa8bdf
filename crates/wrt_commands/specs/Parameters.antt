-- Parameters from the numbers of a command, in the full form or in the even one. (This project's own.)
--
--     parameters_of form numbers         the parameters that the numbers are in the form, or the first reason against them
--
-- 41, 2, 5 are parameters of the full form; at 13, 3, 3 the order of 3 is 3, where 12 is wanted, and in the even form 12 or 6
-- (proofs/Examples.antt).
use Rattle.std.specs.Prelude.{◌≡◌, ℕ, ◌-◌, ◌*◌, ◌^◌, min, Option, Some, None, Result, Ok, Err, refl}
use Rattle.root_quantum.specs.declared.form.Form.{Form}
use Rattle.root_quantum.specs.declared.form.Form.TheVariants.{All, Even}
use Rattle.root_quantum.specs.Parameters.{Parameters}
use Rattle.root_quantum.specs.Refusals as conditions
use Rattle.root_quantum.specs.declared.fault.ParamFault.{ParamFault}
use Rattle.root_quantum.specs.declared.fault.ParamFault.TheVariants as against
use Rattle.root_quantum.proofs.RefusalProofs.{accepted_law}
use Rattle.wrt_request.specs.declared.request.Numbers.{Numbers}
use Rattle.wrt_commands.specs.declared.parameters_refusal.ParametersRefusal.{ParametersRefusal}
use Rattle.wrt_commands.specs.declared.parameters_refusal.ParametersRefusal.TheVariants as parameters

-- R as a level: past 32 bits it is out of range anyway.
abbrev pub level_of : Numbers → ℕ
level_of numbers = min numbers.level (2 ^ 32 - 1)

-- The reason against the order of A: wanted is 4R, and in the even form 4R or 2R.
abbrev pub against_order : Form → ℕ → Option ℕ → ParametersRefusal
against_order All level found = parameters.Order found (4 * level)
against_order Even level found = parameters.EvenOrder found (4 * level) (2 * level)

-- The reason against numbers, by the reason against them as parameters of the form. The full form takes even levels.
abbrev pub against_parameters : Form → ℕ → ParamFault → ParametersRefusal
against_parameters form level against.Modulus = parameters.Modulus
against_parameters form level against.Root = parameters.Root
against_parameters form level against.Level = parameters.Level
against_parameters form level against.EvenLevel = parameters.EvenLevel
against_parameters form level (against.Order found) = against_order form level found

-- The parameters of numbers, or the reason against them, by the judgement on the numbers.
abbrev pub judged : (form : Form) (m a r : ℕ) (judgement : Option ParamFault) → conditions.refusal form m a r ≡ judgement → Result Parameters ParametersRefusal
judged form m a r None none = Ok (record { modulus = m; root = a; level = r; form = form; meets = (accepted_law form m a r).1 none })
judged form m a r (Some fault) some = Err (against_parameters form r fault)

-- The parameters that the numbers are, or the first reason against them.
unfoldable pub parameters_of : Form → Numbers → Result Parameters ParametersRefusal
parameters_of form numbers =
    judged form numbers.modulus numbers.root (level_of numbers) (conditions.refusal form numbers.modulus numbers.root (level_of numbers)) refl
