use Rattle.std.proofs.Common.{ℕ, ◌+◌, ◌%◌, ◌<◌, All, map, take, ap, ap₂, subst, sym, ◌∙◌, arith}
use Rattle.std.proofs.Math.Nat.{mod-eq_of_lt}
use Rattle.state_sums.specs.Networks.{Term}
use Rattle.strand_algebra.specs.Laws.{nothing, IsNoncrossingOn}
use Rattle.strand_algebra.specs.Elements.{add}
use Rattle.strand_algebra.specs.StrandPairings.{widened}
use Rattle.strand_algebra.proofs.PairingLaws.{widened_noncrossing}
use Rattle.temperley_lieb.proofs.TermLoops.{nothing_started, nothing_ended, one_more, below_so, at_strands, term_below, term_noncrossing}
use Rattle.temperley_lieb.proofs.operations.beside.Goals as goal

abbrev wide : ℕ → Term → Term
wide n t = record { weight = t.weight; partner = widened n t.partner }

pub loop-term-init : goal.loop-term-init
loop-term-init c =
    nothing_started c.ring-ring.result.now (c.args.x.now.strands + 1) (c.strands-strands.result + 1) (wide c.args.x.now.strands) c.terms-term-items.result.now c.in_ok-wider.wider
    (omega arith) (c.in_ok-wider.ensures {u = tt}).value (ap (λ k. k + 1) c.strands-strands.ensures.value)

pub widened-pairing-requires-clause-noncrossing : goal.widened-pairing-requires-clause-noncrossing
widened-pairing-requires-clause-noncrossing c =
    subst (λ (k : ℕ). IsNoncrossingOn k c.term.inside.pairing) (sym c.strands-strands.ensures.value)
    (term_noncrossing c.args.x.now.strands c.terms-term-items.result.now c.args.x.now.terms c.loop-term.term-index c.term-item.result c.term.inside.pairing
    c.loop-term-test.true c.term-item.is c.terms-term-items.ensures.value c.terms-term-items.ensures.noncrossing (ap (λ k. k.partner) c.term.view_is))

pub collect-requires-clause-below : goal.collect-requires-clause-below
collect-requires-clause-below c =
    let n = c.args.x.now.strands in
    let m = c.ring-ring.result.now in
    below_so m (n + 1) (nothing m (n + 1)) (wide n) c.terms-term-items.result.now c.loop-term.term-index c.loop-term.wider (omega arith) c.loop-term.invariant

pub collect-requires-clause-noncrossing : goal.collect-requires-clause-noncrossing
collect-requires-clause-noncrossing c =
    let n = c.args.x.now.strands in
    let m = c.ring-ring.result.now in
    let p = c.term.inside.pairing in
    at_strands (n + 1) c.widened-pairing.result (widened n p) (add m (n + 1) (nothing m (n + 1)) (map (wide n) (take c.loop-term.term-index c.terms-term-items.result.now))) c.loop-term.wider c.loop-term.invariant
    (c.widened-pairing.ensures ∙ ap (λ k. widened k p) c.strands-strands.ensures.value)
    (widened_noncrossing n p
    (term_noncrossing n c.terms-term-items.result.now c.args.x.now.terms c.loop-term.term-index c.term-item.result p
    c.loop-term-test.true c.term-item.is c.terms-term-items.ensures.value c.terms-term-items.ensures.noncrossing (ap (λ k. k.partner) c.term.view_is)))

pub loop-term-preserved : goal.loop-term-preserved
loop-term-preserved c =
    let m = c.ring-ring.result.now in
    let n = c.args.x.now.strands in
    let t : Term = c.term-item.result in
    one_more m (n + 1) (nothing m (n + 1)) (wide n) c.terms-term-items.result.now c.loop-term.term-index t c.loop-term.wider c.collect.new.sum c.term.inside.weight c.widened-pairing.result
    (omega arith) c.loop-term-test.true c.term-item.is c.loop-term.invariant
    (let weight = ap (λ k. k.weight) c.term.view_is in
    let small = subst (λ (k : ℕ). c.term.inside.weight < k) (sym c.ring-ring.ensures)
    (term_below c.args.params.now.modulus c.terms-term-items.result.now c.args.x.now.terms c.loop-term.term-index t c.term.inside.weight c.loop-term-test.true c.term-item.is c.terms-term-items.ensures.value c.requires.below weight) in
    sym (mod-eq_of_lt small) ∙ ap (λ k. k % m) weight)
    (c.widened-pairing.ensures ∙ ap₂ widened c.strands-strands.ensures.value (ap (λ k. k.partner) c.term.view_is))
    c.collect.ensures.value

pub returns-clause-value : goal.returns-clause-value
returns-clause-value c =
    nothing_ended c.ring-ring.result.now c.args.params.now.modulus (c.args.x.now.strands + 1) (wide c.args.x.now.strands) c.terms-term-items.result.now c.args.x.now.terms c.loop-term.term-index c.loop-term.wider
    (omega arith) c.loop-term.invariant (omega arith) c.terms-term-items.ensures.value c.ring-ring.ensures

pub returns-clause-below : goal.returns-clause-below
returns-clause-below c =
    let n = c.args.x.now.strands in
    let m = c.ring-ring.result.now in
    subst (λ (k : ℕ). All (λ term. term.weight < k) c.loop-term.wider.terms) c.ring-ring.ensures
    (below_so m (n + 1) (nothing m (n + 1)) (wide n) c.terms-term-items.result.now c.loop-term.term-index c.loop-term.wider (omega arith) c.loop-term.invariant)
