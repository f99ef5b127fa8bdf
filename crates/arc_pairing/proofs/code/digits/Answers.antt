use Rattle.std.proofs.Common.{◌-◌, ◌<◌, length, arith}
use Rattle.arc_pairing.proofs.CodeDigits.{digits_rest}
use Rattle.arc_pairing.proofs.code.digits.Goals as goal

pub overflow_mul-sum : goal.overflow_mul-sum
overflow_mul-sum c = let d = digits_rest c.args.partner.now c.loop-at.at c.requires.small c.requires.few in let e = c.loop-at.invariant.is in omega (arith, d, e)

pub overflow_add-sum : goal.overflow_add-sum
overflow_add-sum c =
    let d = digits_rest c.args.partner.now c.loop-at.at c.requires.small c.requires.few in let e = c.loop-at.invariant.is in
    let x = c.requires.small _ (let t = c.loop-at-test.true in let w = c.loop-at.invariant.within in let r : c.loop-at.at - 1 < length c.args.partner.now = omega (arith, t, w) in r) in
    omega (arith, d, e, x, c.from.ensures)

pub returns-clause-bound : goal.returns-clause-bound
returns-clause-bound c = let d = digits_rest c.args.partner.now c.loop-at.at c.requires.small c.requires.few in let e = c.loop-at.invariant.is in omega (arith, d, e)
