use Rattle.std.proofs.Common.{arith, add-one}
use Rattle.inertia_laws.specs.Checking.{image_fits}
use Rattle.inertia_laws.proofs.FirstStep.{every-false}
use Rattle.inertia_cert.specs.SymmetricMatrices.{entry}
use Rattle.inertia_cert.specs.Grids.{at}
use Rattle.inertia_cert.proofs.ColumnFits.{images_more}
use Rattle.inertia_cert.proofs.products.write_image.Goals as goal

pub returns-in_err-image_column : goal.returns-in_err-image_column
returns-in_err-image_column c =
    let n = c.args.matrix.now.size in
    rw c.from_residual.ensures
    (every-false n c.loop-row.row (λ k. image_fits n (entry c.args.matrix.now) (at c.args.p.now) k c.args.column) (omega (arith, c.requires.same_size)) (c.in_err-image_column.ensures {u = tt}))

pub loop-row-preserved : goal.loop-row-preserved
loop-row-preserved c =
    let made = c.in_ok-image_column.ensures {u = tt} in
    rw add-one
    (images_more c.args.matrix.now.size (entry c.args.matrix.now) (at c.args.p.now) c.args.column c.loop-row.row c.loop-row.image_column c.in_ok-image_column.field-0
    (omega (arith, c.requires.room, c.requires.same_size, c.loop-row.auto.image_column)) c.loop-row.invariant made.0 made.1)
