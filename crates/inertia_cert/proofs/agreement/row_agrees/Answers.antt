use Rattle.std.proofs.Common.{◌&&◌, arith}
use Rattle.inertia_laws.proofs.FirstStep.{every-false}
use Rattle.inertia_cert.proofs.agreement.row_agrees.Goals as goal

pub returns-in_err-entry_agrees : goal.returns-in_err-entry_agrees
returns-in_err-entry_agrees g c =
    rw c.from_residual.ensures
    (every-false c.args.size c.loop-column.column (λ j. g.W.Rule.fits c.args.wanted.now c.args.row j && g.M.Rule.fits c.args.made.now c.args.row j) (omega arith) (c.in_err-entry_agrees.ensures {u = tt}))
