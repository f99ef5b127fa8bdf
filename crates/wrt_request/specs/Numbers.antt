-- The numbers behind a command. (This project's own.)
--
--     numbers_from position texts    the numbers that the texts write, the first of which stands at the position; or the
--                                    position of the first text that writes none
--     numbers_of wanted texts        the same, where there are as many as are wanted
use Rattle.std.specs.Prelude.{◌==◌, ◌+◌, ℕ, List, [], ◌∷◌, length, Option, Some, None, Result, Ok, Err, if◌then◌else◌}
use Rattle.wrt_request.specs.Decimals.{decimal_value}
use Rattle.wrt_request.specs.declared.fault.PartsRefusal.{PartsRefusal}
use Rattle.wrt_request.specs.declared.fault.PartsRefusal.TheVariants.{Takes, Number}

-- One number more before the others.
abbrev pub with_first : ℕ → Result (List ℕ) PartsRefusal → Result (List ℕ) PartsRefusal
with_first n (Ok numbers) = Ok (n ∷ numbers)
with_first n (Err refusal) = Err refusal

-- The number at the position before the others.
abbrev pub with_number : ℕ → Option ℕ → Result (List ℕ) PartsRefusal → Result (List ℕ) PartsRefusal
with_number position (Some n) others = with_first n others
with_number position None others = Err (Number position)

-- The numbers that the texts write, from the position on.
abbrev pub numbers_from : ℕ → List (List ℕ) → Result (List ℕ) PartsRefusal
numbers_from position [] = Ok []
numbers_from position (text ∷ texts) = with_number position (decimal_value text) (numbers_from (position + 1) texts)

-- The numbers that the texts write, as many as are wanted.
unfoldable pub numbers_of : ℕ → List (List ℕ) → Result (List ℕ) PartsRefusal
numbers_of wanted texts = if length texts == wanted then numbers_from 1 texts else Err (Takes wanted)
