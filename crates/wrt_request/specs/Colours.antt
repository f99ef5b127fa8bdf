-- The colours, as the value of `--colors` says them. (This project's own.)
--
--     colours_of value      none where there is no value; else the list that it writes
use Rattle.std.specs.Prelude.{ℕ, List, Option, Some, None, Result, Ok, Err}
use Rattle.wrt_parts.specs.Texts.{Text}
use Rattle.wrt_request.specs.Lists.{list_value}
use Rattle.wrt_request.specs.declared.option_name.OptionName.TheVariants.{Colors}
use Rattle.wrt_request.specs.declared.fault.PartsRefusal.{PartsRefusal}
use Rattle.wrt_request.specs.declared.fault.PartsRefusal.TheVariants as refusals

-- A list as colours that are given.
abbrev pub given_colours : Option (List ℕ) → Result (Option (List ℕ)) PartsRefusal
given_colours (Some list) = Ok (Some list)
given_colours None = Err (refusals.List Colors)

-- The colours that the value says, where there is one.
abbrev pub colours_of : Option Text → Result (Option (List ℕ)) PartsRefusal
colours_of None = Ok None
colours_of (Some text) = given_colours (list_value text)
