use Rattle.std.proofs.Common.{◌≡◌, drop}
use Rattle.std.specs.Prelude.{find}
use Rattle.wrt_parts.specs.Texts.{texts_of}
use Rattle.wrt_request.specs.Commands.{all_options, is_foreign}
use Rattle.wrt_request.proofs.command.Command.check_options.Given as goal

-- No option before this one is given and doesn't belong to the command.
abbrev pub invariant-loop-option : goal.invariant-loop-option
invariant-loop-option l =
    find (is_foreign l.self (texts_of l.parts)) all_options ≡ find (is_foreign l.self (texts_of l.parts)) (drop l.option-index l.option-items)
