-- The program's one command, as it is handed to `clap`. (This project's own, in the words of `clap`'s definition.)
--
--     option_rule name     the option `--name` with one value
--     flag_rule name       the option `--name` without a value
--     command_rule         the command word, which has to stand
--     numbers_rule         all further words that are no options
--     program_app          the command with all its arguments
use Rattle.std.specs.Prelude.{true, Some, codes}
use Rattle.clap.specs.Walk.{Rule}
use Rattle.clap.specs.Simple.{App, new_app, new_rule, with_rule}
use Rattle.clap.specs.declared.builder.action.ArgAction.TheVariants.{Set, Append, SetTrue}
use Rattle.wrt_parts.specs.Texts.{Text}

-- The option with one value.
abbrev pub option_rule : Text → Rule
option_rule name = record (new_rule name) { long = Some name; action = Some Set }

-- The option without a value.
abbrev pub flag_rule : Text → Rule
flag_rule name = record (new_rule name) { long = Some name; action = Some SetTrue }

-- The command word.
abbrev pub command_rule : Rule
command_rule = record (new_rule (codes "command")) { action = Some Set; required = true }

-- All further words that are no options.
abbrev pub numbers_rule : Rule
numbers_rule = record (new_rule (codes "numbers")) { action = Some Append }

-- The positional arguments of the command.
abbrev pub positional_app : App
positional_app = with_rule (with_rule (new_app (codes "wrtcalc")) command_rule) numbers_rule

-- The command with the positional arguments, four options and two flags.
unfoldable pub program_app : App
program_app =
    with_rule (with_rule (with_rule (with_rule (with_rule (with_rule positional_app
    (option_rule (codes "colors"))) (option_rule (codes "framing"))) (option_rule (codes "workers"))) (option_rule (codes "order")))
    (flag_rule (codes "turns"))) (flag_rule (codes "even"))
