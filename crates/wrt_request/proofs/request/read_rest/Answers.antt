use Rattle.std.proofs.lemmas.Result.{err_from_is_err_and}
use Rattle.wrt_parts.specs.Texts.{texts_of}
use Rattle.wrt_request.specs.Commands.{check_options}
use Rattle.wrt_request.specs.Requests.{arguments_of, task_of}
use Rattle.wrt_request.proofs.WalkLemmas.{ends, refuses, rest-options, rest-arguments, rest-task, rest-all, with_options, with_arguments, with_task}
use Rattle.wrt_request.proofs.request.read_rest.Goals as goal

pub returns-in_err-check_options-clause-request : goal.returns-in_err-check_options-clause-request
returns-in_err-check_options-clause-request c =
    let p = err_from_is_err_and c.from_residual.result c.from_residual.ensures.1 in
    let command = c.args.command in let numbers = c.args.numbers.now in let texts = texts_of c.args.parts.now in
    rw (p.1, rest-options command numbers texts) (refuses (check_options command texts) (with_options command numbers texts) _ p.0 c.in_err-check_options.ensures p.2)

pub returns-in_err-arguments-clause-request : goal.returns-in_err-arguments-clause-request
returns-in_err-arguments-clause-request c =
    let p = err_from_is_err_and c.from_residual-in_err-arguments.result c.from_residual-in_err-arguments.ensures.1 in
    let command = c.args.command in let numbers = c.args.numbers.now in let texts = texts_of c.args.parts.now in
    rw (p.1, rest-arguments command numbers texts c.in_ok-check_options.ensures)
    (ends (arguments_of texts) (with_arguments command numbers texts) _ p.0 p.2 c.in_err-arguments.ensures.value)

pub returns-in_err-task-clause-request : goal.returns-in_err-task-clause-request
returns-in_err-task-clause-request c =
    let p = err_from_is_err_and c.from_residual-in_err-task.result c.from_residual-in_err-task.ensures.1 in
    let command = c.args.command in let numbers = c.args.numbers.now in let texts = texts_of c.args.parts.now in
    let arguments = c.in_ok-arguments.arguments in
    rw (p.1, rest-task command numbers texts arguments c.in_ok-check_options.ensures c.in_ok-arguments.ensures.value)
    (refuses (task_of command numbers arguments) (with_task command numbers texts) _ p.0 c.in_err-task.ensures.value p.2)

pub returns-clause-request : goal.returns-clause-request
returns-clause-request c =
    let command = c.args.command in let numbers = c.args.numbers.now in let texts = texts_of c.args.parts.now in
    rw (c.shared_numbers.ensures) (rest-all command numbers texts c.in_ok-arguments.arguments c.in_ok-task.task c.in_ok-check_options.ensures c.in_ok-arguments.ensures.value c.in_ok-task.ensures.value)
