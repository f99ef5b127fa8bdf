use Rattle.std.proofs.Common.{◌-◌, ◌+◌, refl, ◌∙◌, arith}
use Rattle.std.specs.Int.{IsGcd}
use Rattle.std.proofs.lemmas.Bool.{false≢true}
use Rattle.root_quantum.specs.QuantumNumbers.{delta}
use Rattle.wenzl_table.proofs.FoundInverses.{up_to}
use Rattle.tetra_sum.proofs.Searches.{passes_index, stops_at_index, one_less, none_left}
use Rattle.tetra_sum.proofs.checks.check_inverses.Goals as goal

pub returns-in-Err-clause-refused : goal.returns-in-Err-clause-refused
returns-in-Err-clause-refused c =
    let p = c.args.params.now in
    let index = c.loop-index.index in
    let fault = c.in-Err.ensures {u = tt} in
    c.loop-index.invariant.left
    ∙ one_less p index p.level (omega (arith, c.loop-index-test.true, c.level-index-end.ensures))
    ∙ stops_at_index p index (p.level - 2 - (index + 1)) c.in-Err.fault.gcd fault.common (λ one. absurd (false≢true (fault.coprime.1 one)))

pub loop-index-preserved : goal.loop-index-preserved
loop-index-preserved c =
    let p = c.args.params.now in
    let index = c.loop-index.index in
    let coprime = (c.in_default.ensures {u = tt}).coprime.0 refl in
    record {
      coprime = up_to (λ k. IsGcd (delta p k) p.modulus 1) index c.loop-index.invariant.coprime coprime;
      left =
          c.loop-index.invariant.left
          ∙ one_less p index p.level (omega (arith, c.loop-index-test.true, c.level-index-end.ensures))
          ∙ passes_index p index (p.level - 2 - (index + 1)) coprime;
    }

pub returns-clause-coprime : goal.returns-clause-coprime
returns-clause-coprime c =
    let low = c.args.params.now.meets.level.0 in
    λ k a b. c.loop-index.invariant.coprime k a (omega (arith, b, c.loop-index-test.false, c.level-index-end.ensures))

pub returns-clause-none : goal.returns-clause-none
returns-clause-none c =
    let p = c.args.params.now in
    let index = c.loop-index.index in
    c.loop-index.invariant.left ∙ none_left p index (p.level - 2 - index) (omega (arith, c.loop-index-test.false, c.level-index-end.ensures))
