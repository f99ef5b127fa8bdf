use Rattle.std.proofs.Common.{◌<◌, length, ap, ◌∙◌, rules, arith}
use Rattle.std.proofs.lemmas.Bool.Decides.{nat_tests}
use Rattle.plain_sum.specs.Places.{named}
use Rattle.plain_sum.proofs.Recursion.{is_next, sum_step, sum_end}
use Rattle.plain_sum.proofs.sum.+sum_behind.Goals as goal

pub returns-then-is_empty-clause-value : goal.returns-then-is_empty-clause-value
returns-then-is_empty-clause-value t c =
    sum_end c.args.setting.ring.now c.args.setting.delta c.args.setting.free c.args.setting.names.now c.args.nodes.now (named c.args.setting.names.now c.args.edges.now) c.in_ok-parts.parts c.from.result c.pow.result
    (let e = c.is_empty.ensures in let k = c.if-is_empty.true in grind (arith, nat_tests, e, k))
    c.in_ok-parts.ensures.value c.from.ensures c.pow.ensures.power

pub sum_behind-requires : goal.sum_behind-requires
sum_behind-requires t c =
    let some : 0 < length c.args.nodes.now = (let e = c.is_empty.ensures in let k = c.if-is_empty.false in grind (arith, nat_tests, e, k)) in
    let n = is_next c.args.setting.ring.now c.args.setting.names.now c.args.nodes.now c.index-nodes-0.result c.args.start c.loop-term.term-index c.ends.result.now c.partners.result.now c.terms-term-items.result.now
    c.args.edges.now c.deref.result.now c.term-item.result some c.index-nodes-0.is c.requires.names c.ends.ensures.node c.ends.ensures.value c.terms-term-items.ensures.value c.loop-term-test.true c.term-item.is
    (c.partners.ensures.value ∙ ap (λ term. term.partner) c.term.view_is) (c.deref.ensures.value ∙ c.in_ok-more.ensures) c.requires.place c.requires.nodes c.requires.weights c.requires.edges in
    (search rules, (c.requires.delta, (c.requires.few, (n.placed_at, (n.within, (n.short, (n.weights, n.edges_within)))))))

pub loop-term-preserved : goal.loop-term-preserved
loop-term-preserved t c =
    let some : 0 < length c.args.nodes.now = (let e = c.is_empty.ensures in let k = c.if-is_empty.false in grind (arith, nat_tests, e, k)) in
    let n = is_next c.args.setting.ring.now c.args.setting.names.now c.args.nodes.now c.index-nodes-0.result c.args.start c.loop-term.term-index c.ends.result.now c.partners.result.now c.terms-term-items.result.now
    c.args.edges.now c.deref.result.now c.term-item.result some c.index-nodes-0.is c.requires.names c.ends.ensures.node c.ends.ensures.value c.terms-term-items.ensures.value c.loop-term-test.true c.term-item.is
    (c.partners.ensures.value ∙ ap (λ term. term.partner) c.term.view_is) (c.deref.ensures.value ∙ c.in_ok-more.ensures) c.requires.place c.requires.nodes c.requires.weights c.requires.edges in (
      sum_step c.args.setting.ring.now c.args.setting.delta c.args.setting.free c.args.setting.names.now c.args.nodes.now _ c.index-nodes-0.result _ c.args.edges.now c.deref.result.now c.term-item.result n
          c.terms-term-items.result.now c.loop-term.term-index c.loop-term.sum c.in_ok-inner.inner c.term.inside.weight c.mul.result c.add-sum.result c.loop-term-test.true c.term-item.is (ap (λ term. term.weight) c.term.view_is)
          c.loop-term.invariant.0 (c.in_ok-inner.ensures {u = tt}).value c.mul.ensures.product c.add-sum.ensures.sum,
      c.add-sum.ensures.below,
    )
