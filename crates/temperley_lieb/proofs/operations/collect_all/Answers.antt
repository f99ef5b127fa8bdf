use Rattle.std.proofs.Common.{◌<◌, List, All, map, take, refl, ap, sym, subst, ◌∙◌}
use Rattle.std.proofs.Math.Nat.{mod-eq_of_lt}
use Rattle.state_sums.specs.Networks.{Term}
use Rattle.temperley_lieb.proofs.TermLoops.{started, one_more, below_sum, read_below}
use Rattle.temperley_lieb.proofs.operations.collect_all.Goals as goal

pub loop-term-init : goal.loop-term-init
loop-term-init c = started c.args.ring.now c.args.sum.now.strands c.args.sum.now.terms (λ t. t) c.terms-term-items.result.now c.args.sum.now c.requires.ring c.requires.sum refl

pub collect-requires-clause-below : goal.collect-requires-clause-below
collect-requires-clause-below c =
    below_sum c.args.ring.now c.args.sum.now.strands c.args.sum.now.terms (map (λ t. t) (take c.loop-term.term-index c.terms-term-items.result.now)) c.loop-term.sum c.requires.ring c.loop-term.invariant

pub loop-term-preserved : goal.loop-term-preserved
loop-term-preserved c =
    let m = c.args.ring.now in
    let xs = c.terms-term-items.result.now in
    let i = c.loop-term.term-index in
    let t : Term = c.term-item.result in
    let below = subst (λ (x : List Term). All (λ term. term.weight < m) x) (sym c.terms-term-items.ensures.value) c.requires.other_below in
    one_more m c.args.sum.now.strands c.args.sum.now.terms (λ t. t) xs i t c.loop-term.sum c.collect.new.sum c.term.inside.weight c.term.inside.pairing
    c.requires.ring c.loop-term-test.true c.term-item.is c.loop-term.invariant
    (ap (λ k. k.weight) c.term.view_is ∙ sym (mod-eq_of_lt (read_below m xs i t c.loop-term-test.true c.term-item.is below)))
    (ap (λ k. k.partner) c.term.view_is) c.collect.ensures.value

pub returns-clause-below : goal.returns-clause-below
returns-clause-below c =
    below_sum c.args.ring.now c.args.sum.now.strands c.args.sum.now.terms (map (λ t. t) (take c.loop-term.term-index c.terms-term-items.result.now)) c.loop-term.sum c.requires.ring c.loop-term.invariant
