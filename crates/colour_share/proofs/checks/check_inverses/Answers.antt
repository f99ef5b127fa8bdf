use Rattle.std.proofs.Common.{ℕ, refl, subst, arith}
use Rattle.std.specs.Int.{IsGcd}
use Rattle.std.proofs.lemmas.Bool.{false≢true}
use Rattle.root_quantum.specs.QuantumNumbers.{delta}
use Rattle.wenzl_table.proofs.FoundInverses.{up_to}
use Rattle.colour_share.proofs.checks.check_inverses.Goals as goal

pub returns-in-Err-clause-common : goal.returns-in-Err-clause-common
returns-in-Err-clause-common c =
    let p = c.args.params.now in
    let fault = c.in-Err.ensures {u = tt} in (
      c.loop-index.index,
      c.in-Err.fault.gcd,
      refl,
      record {
        above = omega arith;
        below = c.loop-index-test.true;
        divisor = fault.common;
        shared = λ e. let P : ℕ → Type 0 = λ g. IsGcd (delta p c.loop-index.index) p.modulus g in absurd (false≢true (fault.coprime.1 (subst P e fault.common)));
        before = c.loop-index.invariant;
      },
    )

pub loop-index-preserved : goal.loop-index-preserved
loop-index-preserved c =
    let p = c.args.params.now in
    up_to (λ k. IsGcd (delta p k) p.modulus 1) c.loop-index.index c.loop-index.invariant ((c.in_default.ensures {u = tt}).coprime.0 refl)

pub returns-clause-coprime : goal.returns-clause-coprime
returns-clause-coprime c = λ k a b. c.loop-index.invariant k a (omega (arith, b))
