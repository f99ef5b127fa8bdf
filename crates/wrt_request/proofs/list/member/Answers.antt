use Rattle.std.proofs.Common.{◌∙◌, arith}
use Rattle.wrt_request.proofs.Members.{member_value-long, member_value-short, member-small}
use Rattle.wrt_request.proofs.list.member.Goals as goal

pub returns-then-text-gt9 : goal.returns-then-text-gt9
returns-then-text-gt9 c = member_value-long c.args.text.now (omega (arith, c.if-text-gt9.true))

pub overflow_cast-result : goal.overflow_cast-result
overflow_cast-result c =
    let small = member-small c.args.text.now c.in-Some.number (omega (arith, c.if-text-gt9.false)) c.in-Some.ensures in
    omega (arith, small)

pub returns-in-Some : goal.returns-in-Some
returns-in-Some c = c.in-Some.ensures ∙ member_value-short c.args.text.now (omega (arith, c.if-text-gt9.false))

pub returns-in-None : goal.returns-in-None
returns-in-None c = c.in-None.ensures ∙ member_value-short c.args.text.now (omega (arith, c.if-text-gt9.false))
