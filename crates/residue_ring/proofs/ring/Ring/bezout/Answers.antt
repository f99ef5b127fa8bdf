-- One division keeps both multiples and the common divisors.
use Rattle.std.proofs.Common.{sym, arith}
use Rattle.std.proofs.lemmas.Nat.Gcd.{IsGcd-from_mod}
use Rattle.residue_ring.proofs.EuclidSteps.{zero_multiple, one_multiple, next_multiple, divisor_of_zero}
use Rattle.residue_ring.proofs.ring.Ring.bezout.Goals as goal

pub loop-rest-init : goal.loop-rest-init
loop-rest-init c = record {
  of_divisor_below = omega arith;
  of_rest_below = omega arith;
  divisor_is = zero_multiple c.self.inside.modulus c.args.x;
  rest_is = one_multiple c.self.inside.modulus c.args.x;
  same_divisors = λ g same. same;
}

pub loop-rest-preserved : goal.loop-rest-preserved
loop-rest-preserved c =
    let before = c.loop-rest.invariant in
    let at = c.loop-rest in
    record {
      of_divisor_below = before.of_rest_below;
      of_rest_below = omega arith;
      divisor_is = before.rest_is;
      rest_is = next_multiple c.self.inside.modulus c.args.self.now c.args.x at.divisor at.rest at.of_divisor at.of_rest c.mul.result c.sub-of_remainder.result (omega arith) (sym c.self.view_is) before.divisor_is before.rest_is c.mul.ensures.product c.sub-of_remainder.ensures.difference;
      same_divisors = λ g divides. before.same_divisors g (IsGcd-from_mod at.divisor at.rest g divides);
    }

pub returns-clause-divisor : goal.returns-clause-divisor
returns-clause-divisor c =
    divisor_of_zero c.self.inside.modulus c.args.self.now c.args.x c.loop-rest.divisor c.loop-rest.rest c.loop-rest-test.false c.self.view_is c.loop-rest.invariant.same_divisors
