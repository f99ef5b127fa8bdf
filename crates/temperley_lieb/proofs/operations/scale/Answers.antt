use Rattle.std.proofs.Common.{ℕ, ◌*◌, ◌%◌, ◌<◌, All, ap, subst, ◌∙◌, arith}
use Rattle.ring_identities.specs.Residues.{residue}
use Rattle.state_sums.specs.Networks.{Term}
use Rattle.strand_algebra.specs.Laws.{nothing}
use Rattle.temperley_lieb.proofs.TermLoops.{nothing_started, nothing_ended, one_more, below_so}
use Rattle.temperley_lieb.proofs.operations.scale.Goals as goal

pub loop-term-init : goal.loop-term-init
loop-term-init c =
    nothing_started c.ring-ring.result.now c.args.x.now.strands c.strands.result (λ t. record { weight = c.args.by * t.weight; partner = t.partner }) c.terms-term-items.result.now c.in_ok-multiple.multiple
    (omega arith) (c.in_ok-multiple.ensures {u = tt}).value c.strands.ensures.value

pub collect-requires-clause-below : goal.collect-requires-clause-below
collect-requires-clause-below c =
    let n = c.args.x.now.strands in
    let m = c.ring-ring.result.now in
    below_so m n (nothing m n) (λ t. record { weight = c.args.by * t.weight; partner = t.partner }) c.terms-term-items.result.now c.loop-term.term-index c.loop-term.multiple (omega arith) c.loop-term.invariant

pub loop-term-preserved : goal.loop-term-preserved
unfolding residue
loop-term-preserved c =
    let m = c.ring-ring.result.now in
    let n = c.args.x.now.strands in
    let t : Term = c.term-item.result in
    one_more m n (nothing m n) (λ t. record { weight = c.args.by * t.weight; partner = t.partner }) c.terms-term-items.result.now c.loop-term.term-index t c.loop-term.multiple c.collect.new.sum c.mul.result c.term.inside.pairing
    (omega arith) c.loop-term-test.true c.term-item.is c.loop-term.invariant
    (c.mul.ensures.product ∙ ap (λ k. (c.args.by * k) % m) (ap (λ k. k.weight) c.term.view_is))
    (ap (λ k. k.partner) c.term.view_is) c.collect.ensures.value

pub returns-clause-value : goal.returns-clause-value
returns-clause-value c =
    nothing_ended c.ring-ring.result.now c.args.params.now.modulus c.args.x.now.strands (λ t. record { weight = c.args.by * t.weight; partner = t.partner }) c.terms-term-items.result.now c.args.x.now.terms c.loop-term.term-index c.loop-term.multiple
    (omega arith) c.loop-term.invariant (omega arith) c.terms-term-items.ensures.value c.ring-ring.ensures

pub returns-clause-below : goal.returns-clause-below
returns-clause-below c =
    let n = c.args.x.now.strands in
    let m = c.ring-ring.result.now in
    subst (λ (k : ℕ). All (λ term. term.weight < k) c.loop-term.multiple.terms) c.ring-ring.ensures
    (below_so m n (nothing m n) (λ t. record { weight = c.args.by * t.weight; partner = t.partner }) c.terms-term-items.result.now c.loop-term.term-index c.loop-term.multiple (omega arith) c.loop-term.invariant)
