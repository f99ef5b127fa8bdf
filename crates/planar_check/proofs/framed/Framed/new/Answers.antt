use Rattle.std.proofs.Common.{ap, arith, length}
use Rattle.planar_check.proofs.FramingLemmas.{none_large}
use Rattle.planar_check.proofs.framed.Framed.new.Goals as goal

pub invariant_of-result : goal.invariant_of-result
invariant_of-result c = record {
  count = omega (arith, c.if-framings-wanted.false, ap length c.in_ok-framings.ensures.items, c.components-wanted.ensures);
  small = none_large c.first_large.result c.args.framings.now _ c.first_large.ensures c.in_default.not-Some c.in_ok-framings.ensures.items;
}

pub returns-clause-framed : goal.returns-clause-framed
returns-clause-framed c = record {
  count = omega (arith, c.if-framings-wanted.false, ap length c.in_ok-framings.ensures.items, c.components-wanted.ensures);
  small = none_large c.first_large.result c.args.framings.now _ c.first_large.ensures c.in_default.not-Some c.in_ok-framings.ensures.items;
}
