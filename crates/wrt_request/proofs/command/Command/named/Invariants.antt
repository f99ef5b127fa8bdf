use Rattle.std.proofs.Common.{◌≡◌, drop}
use Rattle.std.specs.Prelude.{find}
use Rattle.std.specs.Str.{bytes_eq}
use Rattle.wrt_request.specs.Commands.{all_commands, row_of}
use Rattle.wrt_request.proofs.command.Command.named.Given as goal

-- No command before this one has the name.
abbrev pub invariant-loop-command : goal.invariant-loop-command
invariant-loop-command l =
    find (λ command. bytes_eq l.name (row_of command).name) all_commands ≡ find (λ command. bytes_eq l.name (row_of command).name) (drop l.command-index l.command-items)
