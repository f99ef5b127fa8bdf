-- The order in which crossings are taken, as the value of `--order` says it. (This project's own.)
--
--     order_of value      `listed` where there is no value; else `listed`, `greedy`, or a list
use Rattle.std.specs.Prelude.{List, Option, Some, None, Result, Ok, Err, if◌then◌else◌, codes, ℕ}
use Rattle.std.specs.Str.{bytes_eq}
use Rattle.wrt_parts.specs.Texts.{Text}
use Rattle.wrt_request.specs.Lists.{list_value}
use Rattle.wrt_request.specs.declared.order.OrderWord.{OrderWord}
use Rattle.wrt_request.specs.declared.order.OrderWord.TheVariants.{Listed, Greedy, Given}
use Rattle.wrt_request.specs.declared.option_name.OptionName.TheVariants.{Order}
use Rattle.wrt_request.specs.declared.fault.PartsRefusal.{PartsRefusal}
use Rattle.wrt_request.specs.declared.fault.PartsRefusal.TheVariants as refusals

-- A list as an order.
abbrev pub given_order : Option (List ℕ) → Result OrderWord PartsRefusal
given_order (Some list) = Ok (Given list)
given_order None = Err (refusals.List Order)

-- The order that the value says.
abbrev pub order_of : Option Text → Result OrderWord PartsRefusal
order_of None = Ok Listed
order_of (Some text) =
    if bytes_eq text (codes "listed") then Ok Listed
    else (if bytes_eq text (codes "greedy") then Ok Greedy else given_order (list_value text))
