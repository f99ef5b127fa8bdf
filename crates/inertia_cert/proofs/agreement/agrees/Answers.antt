use Rattle.std.proofs.Common.{◌&&◌, arith}
use Rattle.inertia_laws.specs.Range.{every}
use Rattle.inertia_laws.proofs.FirstStep.{every-false}
use Rattle.inertia_cert.proofs.agreement.agrees.Goals as goal

pub returns-in_err-row_agrees : goal.returns-in_err-row_agrees
returns-in_err-row_agrees g c =
    rw c.from_residual.ensures
    (every-false c.args.size c.loop-row.row (λ i. every c.args.size (λ j. g.W.Rule.fits c.args.wanted.now i j && g.M.Rule.fits c.args.made.now i j)) (omega arith) (c.in_err-row_agrees.ensures {u = tt}))
