use Rattle.std.proofs.lemmas.Result.{err_from_is_err_and}
use Rattle.script_reader.proofs.SignArguments.{no_number_argument, no_sign_argument, number_argument, sign_argument}
use Rattle.script_reader.proofs.argument.StepArgumentArgument.read.Goals as goal

pub returns-in_err-number-in-Number-clause-err : goal.returns-in_err-number-in-Number-clause-err
returns-in_err-number-in-Number-clause-err c =
    let p = err_from_is_err_and c.from_residual.result c.from_residual.ensures.1 in
    rw (p.1, p.2, c.in-Number.is) (no_number_argument c.args.bytes.now c.args.at c.in-Number.field-0 c.in_err-number-in-Number.field-0.0 c.in_err-number-in-Number.ensures.err)

pub returns-in_err-sign-in-Sign-clause-err : goal.returns-in_err-sign-in-Sign-clause-err
returns-in_err-sign-in-Sign-clause-err c =
    let p = err_from_is_err_and c.from_residual-in_err-sign-in-Sign.result c.from_residual-in_err-sign-in-Sign.ensures.1 in
    rw (p.1, p.2, c.in-Sign.is) (no_sign_argument c.args.bytes.now c.args.at c.in-Sign.field-0 c.in_err-sign-in-Sign.field-0.0 c.in_err-sign-in-Sign.ensures.err)

pub returns-in_ok-number-in-Number-clause-ok : goal.returns-in_ok-number-in-Number-clause-ok
returns-in_ok-number-in-Number-clause-ok c =
    rw c.in-Number.is (number_argument c.args.bytes.now c.args.at c.in-Number.field-0 c.in_ok-number-in-Number.number c.in_ok-number-in-Number.next c.in_ok-number-in-Number.ensures.ok)

pub returns-in_ok-sign-in-Sign-clause-ok : goal.returns-in_ok-sign-in-Sign-clause-ok
returns-in_ok-sign-in-Sign-clause-ok c =
    rw c.in-Sign.is (sign_argument c.args.bytes.now c.args.at c.in-Sign.field-0 c.in_ok-sign-in-Sign.sign c.in_ok-sign-in-Sign.next c.in_ok-sign-in-Sign.ensures.ok)
