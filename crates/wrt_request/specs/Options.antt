-- The options of the program's commands. (This project's own.)
--
--     name_of option            the name of the option, without "--" before it
--     is_given texts option     the option is among the parts of a command line
use Rattle.std.specs.Prelude.{ℕ, Bool, List, codes, is_some}
use Rattle.wrt_parts.specs.Texts.{Texts}
use Rattle.wrt_request.specs.declared.option_name.OptionName.{OptionName}
use Rattle.wrt_request.specs.declared.option_name.OptionName.TheVariants.{Colors, Framing, Workers, Order, Turns, Even}

-- The name of the option.
abbrev pub name_of : OptionName → List ℕ
name_of Colors = codes "colors"
name_of Framing = codes "framing"
name_of Workers = codes "workers"
name_of Order = codes "order"
name_of Turns = codes "turns"
name_of Even = codes "even"

-- The option is among the parts.
abbrev pub is_given : Texts → OptionName → Bool
is_given texts Colors = is_some texts.colors
is_given texts Framing = is_some texts.framing
is_given texts Workers = is_some texts.workers
is_given texts Order = is_some texts.order
is_given texts Turns = texts.turns
is_given texts Even = texts.even
