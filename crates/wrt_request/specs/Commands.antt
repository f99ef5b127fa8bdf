-- The table of the program's commands. (This project's own.)
--
--     row_of command                   the command's row: its name, how many numbers stand before M, A and R, its options
--     command_of name                  the command of this name
--     has_option options option        the option is one of these
--     is_foreign command texts option  the option is given and doesn't belong to the command
--     check_options command texts      all options that are given belong to the command, or the refusal of the first that
--                                      doesn't
--
-- All take M, A and R, and `torus` N before them; `--order` and `--turns` belong to all but `moves`, `braid` and `tv`, `--colors` to `colored`,
-- `net` and `moves`, `--framing` to `wrt` and `moves`, `--workers` and `--even` to `wrt`.
use Rattle.std.specs.Prelude.{◌&&◌, ℕ, Bool, true, false, not, List, [], ◌∷◌, Option, Some, None, Result, Ok, Err, codes, find}
use Rattle.std.specs.Str.{bytes_eq}
use Rattle.wrt_parts.specs.Texts.{Text, Texts}
use Rattle.wrt_request.specs.Options.{is_given}
use Rattle.wrt_request.specs.declared.command.Command.{Command}
use Rattle.wrt_request.specs.declared.command.Command.TheVariants.{Bracket, Colored, Net, Torus, Wrt, Moves, Braid, Tetrahedra}
use Rattle.wrt_request.specs.declared.command.Options.{Options}
use Rattle.wrt_request.specs.declared.option_name.OptionName.{OptionName}
use Rattle.wrt_request.specs.declared.option_name.OptionName.TheVariants.{Colors, Framing, Workers, Order, Turns, Even}
use Rattle.wrt_request.specs.declared.fault.PartsRefusal.{PartsRefusal}
use Rattle.wrt_request.specs.declared.fault.PartsRefusal.TheVariants as refusals

-- A row of the table.
pub record CommandRow : Type 0 where
  pub name : Text
  pub own_numbers : ℕ
  pub options : Options

-- No option.
abbrev pub no_options : Options
no_options = record { colors = false; framing = false; workers = false; order = false; turns = false; even = false }

-- `--order` and `--turns`.
abbrev pub order_and_turns : Options
order_and_turns = record no_options { order = true; turns = true }

-- `--colors`, `--order` and `--turns`.
abbrev pub colors_and_order : Options
colors_and_order = record order_and_turns { colors = true }

-- `--framing`, `--workers`, `--order`, `--turns` and `--even`.
abbrev pub surgery_options : Options
surgery_options = record order_and_turns { framing = true; workers = true; even = true }

-- `--colors` and `--framing`.
abbrev pub colors_or_framing : Options
colors_or_framing = record no_options { colors = true; framing = true }

-- The table.
abbrev pub row_of : Command → CommandRow
row_of Bracket = record { name = codes "bracket"; own_numbers = 0; options = order_and_turns }
row_of Colored = record { name = codes "colored"; own_numbers = 0; options = colors_and_order }
row_of Net = record { name = codes "net"; own_numbers = 0; options = colors_and_order }
row_of Torus = record { name = codes "torus"; own_numbers = 1; options = order_and_turns }
row_of Wrt = record { name = codes "wrt"; own_numbers = 0; options = surgery_options }
row_of Moves = record { name = codes "moves"; own_numbers = 0; options = colors_or_framing }
row_of Braid = record { name = codes "braid"; own_numbers = 0; options = no_options }
row_of Tetrahedra = record { name = codes "tv"; own_numbers = 0; options = no_options }

-- All commands.
abbrev pub all_commands : List Command
all_commands = Bracket ∷ Colored ∷ Net ∷ Torus ∷ Wrt ∷ Moves ∷ Braid ∷ Tetrahedra ∷ []

-- The command that was found, or the refusal where there is none.
abbrev pub known_command : Option Command → Result Command PartsRefusal
known_command (Some command) = Ok command
known_command None = Err refusals.UnknownCommand

-- The command of this name.
abbrev pub command_of : Text → Result Command PartsRefusal
command_of name = known_command (find (λ command. bytes_eq name (row_of command).name) all_commands)

-- The option is one of these.
abbrev pub has_option : Options → OptionName → Bool
has_option options Colors = options.colors
has_option options Framing = options.framing
has_option options Workers = options.workers
has_option options Order = options.order
has_option options Turns = options.turns
has_option options Even = options.even

-- All options, in the order in which they are looked at.
abbrev pub all_options : List OptionName
all_options = Colors ∷ Framing ∷ Workers ∷ Order ∷ Turns ∷ Even ∷ []

-- The option is given and doesn't belong to the command.
abbrev pub is_foreign : Command → Texts → OptionName → Bool
is_foreign command texts option = is_given texts option && not (has_option (row_of command).options option)

-- No option is foreign, or the refusal of the one that is.
abbrev pub against_option : Option OptionName → Result (Unit {0}) PartsRefusal
against_option None = Ok tt
against_option (Some option) = Err (refusals.Option option)

-- All options that are given belong to the command, or the refusal of the first that doesn't.
abbrev pub check_options : Command → Texts → Result (Unit {0}) PartsRefusal
check_options command texts = against_option (find (is_foreign command texts) all_options)
