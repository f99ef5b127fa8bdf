use Rattle.std.proofs.Common.{◌&&◌, ap₂, arith, add-one}
use Rattle.inertia_laws.specs.Range.{gather_place_fits}
use Rattle.inertia_laws.proofs.FirstStep.{every-false}
use Rattle.inertia_cert.specs.Grids.{at}
use Rattle.inertia_cert.proofs.parts.gathered.Goals as goal

pub returns-in_err-sum : goal.returns-in_err-sum
returns-in_err-sum c =
    rw c.from_residual.ensures
    (every-false c.args.matrix.now.size c.loop-place.place (gather_place_fits c.args.pivot (at c.args.matrix.now) (at c.args.grid.now) c.args.column) (omega arith) (c.in_err-sum.ensures {u = tt}))

pub loop-place-preserved : goal.loop-place-preserved
loop-place-preserved c =
    rw add-one
    (record {
      sum = (c.in_ok-sum.ensures {u = tt}).1;
      fit = ap₂ (λ u v. u && v) c.loop-place.invariant.fit (c.in_ok-sum.ensures {u = tt}).0;
    })
