use Rattle.std.proofs.Common.{◌+◌, ap, map}
use Rattle.std.proofs.lemmas.Result.{err_from_is_err_and}
use Rattle.wrt_parts.specs.Texts.{texts_of}
use Rattle.wrt_request.specs.Commands.{command_of}
use Rattle.wrt_request.specs.Numbers.{numbers_of}
use Rattle.wrt_request.proofs.WalkLemmas.{ends, refuses, request-command, request-numbers, request-rest, with_command, with_numbers}
use Rattle.wrt_request.proofs.request.read_request.Goals as goal

pub returns-in_err-command-clause-request : goal.returns-in_err-command-clause-request
returns-in_err-command-clause-request c =
    let p = err_from_is_err_and c.from_residual.result c.from_residual.ensures.1 in
    let texts = texts_of c.args.parts.now in
    rw (p.1, request-command texts) (refuses (command_of texts.command) (with_command texts) _ p.0 c.in_err-command.ensures p.2)

pub returns-in_err-numbers-clause-request : goal.returns-in_err-numbers-clause-request
returns-in_err-numbers-clause-request c =
    let p = err_from_is_err_and c.from_residual-in_err-numbers.result c.from_residual-in_err-numbers.ensures.1 in
    let texts = texts_of c.args.parts.now in
    let command = c.in_ok-command.command in
    let own = c.own_numbers.result in
    rw (p.1, request-numbers texts command own _ c.in_ok-command.ensures c.own_numbers.ensures (ap (map (λ s. s.now)) c.deref.ensures.value))
    (ends (numbers_of (own + 3) _) (with_numbers texts command) _ p.0 p.2 c.in_err-numbers.ensures.numbers)

pub returns-clause-request : goal.returns-clause-request
returns-clause-request c =
    let texts = texts_of c.args.parts.now in
    let command = c.in_ok-command.command in
    rw (request-rest texts command c.own_numbers.result _ c.in_ok-numbers.numbers.items c.in_ok-command.ensures c.own_numbers.ensures (ap (map (λ s. s.now)) c.deref.ensures.value) c.in_ok-numbers.ensures.numbers)
    (rw c.deref-2.ensures.value at c.read_rest.ensures.request)
