use Rattle.std.proofs.Common.{subst}
use Rattle.std.proofs.lemmas.Result.{err_from_is_err_and}
use Rattle.inertia_cert.specs.Grids.{CausedBy}
use Rattle.inertia_cert.specs.Eliminations.{size_of}
use Rattle.inertia_cert.proofs.Stages.{every_place_true}
use Rattle.inertia_cert.proofs.steps.exchange.Goals as goal

pub returns-in_err-matrix-clause-refused : goal.returns-in_err-matrix-clause-refused
returns-in_err-matrix-clause-refused c =
    let p = err_from_is_err_and c.from_residual.result c.from_residual.ensures.1 in
    rw (p.1, p.2) (subst (CausedBy _) (every_place_true (size_of c.args.now.now)) c.in_err-matrix.ensures.refused)
