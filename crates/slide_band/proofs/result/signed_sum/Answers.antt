use Rattle.std.proofs.Common.{◌≡◌, ℤ, negsuc, ◌*ℤ◌, unsigned_abs, ap, arith}
use Rattle.std.proofs.lemmas.Int.{ints}
use Rattle.planar_check.specs.Signs.{sign_sum}
use Rattle.planar_check.specs.Tables.{sign_value}
use Rattle.slide_band.proofs.Early.{sum_few}
use Rattle.slide_band.proofs.result.signed_sum.Goals as goal

pub overflow_sub-result : goal.overflow_sub-result
overflow_sub-result c =
    let e = ap unsigned_abs c.sign_sum-sum.ensures in
    let s = sum_few c.args.planar.now c.args.i c.args.j c.requires.diagram in
    omega (arith, ints, e, s)

pub returns-in-Plus-clause-small : goal.returns-in-Plus-clause-small
returns-in-Plus-clause-small c =
    let e = ap unsigned_abs c.sign_sum-sum.ensures in
    let s = sum_few c.args.planar.now c.args.i c.args.j c.requires.diagram in
    omega (arith, ints, e, s)

pub returns-in-Minus-clause-sum : goal.returns-in-Minus-clause-sum
returns-in-Minus-clause-sum c =
    let e = ap unsigned_abs c.sign_sum-sum.ensures in
    let is = c.sign_sum-sum.ensures in
    let s = sum_few c.args.planar.now c.args.i c.args.j c.requires.diagram in
    let value : sign_value c.args.sign ≡ negsuc 0 = ap sign_value c.in-Minus.is in
    let product : sign_value c.args.sign *ℤ sign_sum c.args.planar.now c.args.i c.args.j ≡ negsuc 0 *ℤ sign_sum c.args.planar.now c.args.i c.args.j = ap (λ (z : ℤ). z *ℤ sign_sum c.args.planar.now c.args.i c.args.j) value in
    omega (arith, ints, e, s, is, product)

pub returns-in-Minus-clause-small : goal.returns-in-Minus-clause-small
returns-in-Minus-clause-small c =
    let e = ap unsigned_abs c.sign_sum-sum.ensures in
    let s = sum_few c.args.planar.now c.args.i c.args.j c.requires.diagram in
    omega (arith, ints, e, s)
