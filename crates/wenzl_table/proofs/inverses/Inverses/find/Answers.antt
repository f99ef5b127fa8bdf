use Rattle.std.proofs.Common.{ℕ, ◌<◌, length, refl, subst, ◌∙◌, arith}
use Rattle.std.specs.Int.{IsGcd}
use Rattle.std.proofs.Math.ListN.{length-set}
use Rattle.std.proofs.lemmas.Bool.{false≢true}
use Rattle.root_quantum.specs.QuantumNumbers.{delta}
use Rattle.wenzl_table.proofs.FoundInverses.{up_to, put_inverse, put_below}
use Rattle.wenzl_table.proofs.inverses.Inverses.find.Goals as goal

pub returns-in-Err-clause-common : goal.returns-in-Err-clause-common
returns-in-Err-clause-common c =
    let p = c.args.params.now in
    let fault = c.in-Err.ensures {u = tt} in
    record {
      above = omega arith;
      below = c.loop-index-test.true;
      divisor = fault.common;
      shared = λ e. let P : ℕ → Type 0 = λ g. IsGcd (delta p c.loop-index.index) p.modulus g in absurd (false≢true (fault.coprime.1 (subst P e fault.common)));
      before = c.loop-index.invariant.coprime;
    }

pub loop-index-preserved : goal.loop-index-preserved
loop-index-preserved c =
    let p = c.args.params.now in
    let xs = c.loop-index.by_index in
    let i = c.loop-index.index in
    let found = c.in-Ok.ensures {u = tt} in
    let long = c.loop-index.invariant.long in
    let within : i < length xs = omega (arith, long) in
    record {
      long = length-set xs i c.in-Ok.inverse ∙ long;
      inverses = put_inverse p xs i c.in-Ok.inverse within found.inverse c.loop-index.invariant.inverses;
      below = put_below p.modulus xs i c.in-Ok.inverse within found.below c.loop-index.invariant.below;
      coprime = up_to (λ k. IsGcd (delta p k) p.modulus 1) i c.loop-index.invariant.coprime (found.coprime.0 refl);
    }

pub returns-clause-coprime : goal.returns-clause-coprime
returns-clause-coprime c = λ k a b. c.loop-index.invariant.coprime k a (omega (arith, b))

pub invariant_of-result : goal.invariant_of-result
invariant_of-result c = record {
  some = c.requires.some;
  top = c.requires.top;
  inverses = λ k a b. c.loop-index.invariant.inverses k a (omega (arith, b));
  below = λ k a b. c.loop-index.invariant.below k a (omega (arith, b));
}
