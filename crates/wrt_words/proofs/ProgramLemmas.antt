-- The command that the program builds is the one of the definition, and `clap` calls it simple.
use Rattle.std.proofs.Common.{◌≡◌, ◌∙◌, ap₂, refl, true, false}
use Rattle.clap.specs.Walk.{Rule, rule_of}
use Rattle.clap.specs.Built.{AddsArg}
use Rattle.clap.specs.Simple.{App, app_of, is_simple, with_rule}
use Rattle.clap.specs.Faults.{is_simple_and_free}
use Rattle.clap.specs.declared.builder.arg.Arg.{Arg}
use Rattle.clap.specs.declared.builder.command.Command.{Command}
use Rattle.clap.proofs.OnLiterals.{clap_on_literals}
use Rattle.wrt_words.specs.Program.{program_app}

-- One more argument.
pub app_more : (old new : Command) (a : Arg) (app : App) (rule : Rule) → AddsArg old a new → a.global ≡ false
    → app_of old ≡ app → rule_of a ≡ rule → app_of new ≡ with_rule app rule
app_more old new a app rule added local is_app is_rule = added.shape local ∙ ap₂ with_rule is_app is_rule

pub app_simple : is_simple program_app ≡ true
unfolding program_app clap_on_literals
app_simple = refl

pub app_free : is_simple_and_free program_app ≡ true
unfolding program_app clap_on_literals
app_free = refl
