-- Why three numbers are no parameters of a form: the first of five conditions that fails. (This project's own.)
--
--     IsRefused form m a r fault       m, A and r are refused for that fault, and for no earlier one:
--                                      13, 3, 3 for the order 3, where 12 is wanted, or in the even form 12 or 6
--     refusal form m a r               that fault, or None where they are parameters: it computes
use Rattle.std.specs.Prelude.{ℕ, ◌*◌, ◌^◌, Option, Some, None, Bool, not, ◌&&◌, nat_le, nat_lt, if◌then◌else◌}
use Rattle.ring_identities.specs.Powers.{IsOrderUpTo, order_up_to}
use Rattle.root_quantum.specs.Forms.{HasParity, IsUnwanted, takes_level, takes_order}
use Rattle.root_quantum.specs.Parameters.{IsModulus, IsRoot, IsLevel}
use Rattle.root_quantum.specs.declared.form.Form.{Form}
use Rattle.root_quantum.specs.declared.fault.ParamFault.{ParamFault}
use Rattle.root_quantum.specs.declared.fault.ParamFault.TheVariants.{Modulus, Root, Level, EvenLevel, Order}

-- the conditions before it hold, and its own doesn't
abbrev pub IsRefused : Form → ℕ → ℕ → ℕ → ParamFault → Type 0
IsRefused form m a r Modulus = ¬ IsModulus m
IsRefused form m a r Root = IsModulus m × ¬ IsRoot m a
IsRefused form m a r Level = IsModulus m × IsRoot m a × ¬ IsLevel r
IsRefused form m a r EvenLevel = IsModulus m × IsRoot m a × IsLevel r × ¬ HasParity form r
IsRefused form m a r (Order found) =
    IsModulus m × IsRoot m a × IsLevel r × HasParity form r × IsOrderUpTo m a (4 * r) found × IsUnwanted form r found

-- tests of the ranges
abbrev pub is_modulus : ℕ → Bool
is_modulus m = nat_le 2 m && nat_lt m (2 ^ 62)

abbrev pub is_root : ℕ → ℕ → Bool
is_root m a = nat_le 1 a && nat_lt a m

abbrev pub is_level : ℕ → Bool
is_level r = nat_le 3 r && nat_le r 10

-- an order that isn't one of those wanted
abbrev pub order_refusal : Form → ℕ → Option ℕ → Option ParamFault
order_refusal form r found = if takes_order form r found then None else Some (Order found)

-- the conditions one after another
unfoldable pub refusal : Form → ℕ → ℕ → ℕ → Option ParamFault
refusal form m a r =
    if not (is_modulus m) then Some Modulus else (
    if not (is_root m a) then Some Root else (
    if not (is_level r) then Some Level else (
    if not (takes_level form r) then Some EvenLevel else
    order_refusal form r (order_up_to m a (4 * r)))))
