use Rattle.inertia_cert.proofs.Verdict.{inverse_refused, congruence_refused, all_fit, no_certificate, by_congruence}
use Rattle.inertia_cert.proofs.checking.checked.Goals as goal

pub returns-in_err-inverse : goal.returns-in_err-inverse
returns-in_err-inverse c =
    rw c.from_residual.ensures
    (inverse_refused c.args.matrix.now c.args.done.now c.requires c.size-size.result c.size-size.ensures.value (c.in_err-inverse.ensures {u = tt}))

pub returns-in_err-congruence : goal.returns-in_err-congruence
returns-in_err-congruence c =
    rw c.from_residual-in_err-congruence.ensures
    (congruence_refused c.args.matrix.now c.args.done.now c.requires c.size-size.result c.size-size.ensures.value (c.in_err-congruence.ensures {u = tt}))

pub returns-then-inverse : goal.returns-then-inverse
returns-then-inverse c =
    let first = c.in_ok-inverse.ensures {u = tt} in
    let second = c.in_ok-congruence.ensures {u = tt} in (
      all_fit c.args.matrix.now c.args.done.now c.requires c.size-size.result c.size-size.ensures.value first.0 second.0,
      by_congruence c.args.matrix.now c.args.done.now c.requires c.size-size.result c.size-size.ensures.value c.in_ok-inverse.inverse first.1 c.in_ok-congruence.congruence second.1 c.if-inverse.true,
    )

pub returns-else-inverse : goal.returns-else-inverse
returns-else-inverse c =
    let first = c.in_ok-inverse.ensures {u = tt} in
    let second = c.in_ok-congruence.ensures {u = tt} in (
      all_fit c.args.matrix.now c.args.done.now c.requires c.size-size.result c.size-size.ensures.value first.0 second.0,
      no_certificate c.args.matrix.now c.args.done.now c.requires c.size-size.result c.size-size.ensures.value c.in_ok-inverse.inverse first.1 c.if-inverse.false,
    )
