use Rattle.std.proofs.Common.{◌≡◌, ◌==◌, length, map, take, get_or, ap, ◌∙◌, arith}
use Rattle.std.specs.Set.{distinct_count}
use Rattle.std.proofs.lemmas.Grind.{common_steps}
use Rattle.std.proofs.lemmas.List.{get_or_read, length-map}
use Rattle.graph_parts.specs.Renaming.{replaced}
use Rattle.graph_parts.specs.Labels.{label_of}
use Rattle.plain_sum.specs.Places.{named}
use Rattle.plain_sum.proofs.Labelled.{one_more, counted}
use Rattle.plain_sum.proofs.parts.count_parts.Goals as goal

pub loop-edge-preserved : goal.loop-edge-preserved
loop-edge-preserved c =
    let edges = c.args.edges.now in
    let items = c.loop-edge.labels.items in
    let i = c.loop-edge.edge-index in
    let e = get_or edges i (0, 0) in
    let n : length items ≡ length c.args.names.now = ap length c.loop-edge.invariant ∙ length-map c.args.names.now (label_of (named c.args.names.now (take i edges))) in
    let b = c.requires i (0, 0) c.loop-edge-test.true in
    let f = get_or_read items e.0 c.index-from.result.now (omega (arith, n, b.0)) c.index-from.ensures 0 in
    let t = get_or_read items e.1 c.index-to.result.now (omega (arith, n, b.1)) c.index-to.ensures 0 in
    let s = one_more c.args.names.now edges i c.loop-edge-test.true c.requires items c.loop-edge.invariant in
    let values = ap (λ ls. map (replaced c.index-from.result.now c.index-to.result.now) ls) c.as_mut_slice.ensures.value in
    let ends = ap (λ k. map (replaced k c.index-to.result.now) items) f ∙ ap (λ k. map (replaced (get_or items e.0 0) k) items) t in
    grind (arith, common_steps, s, values, ends, c.replace_labels.ensures)

pub returns-clause-value : goal.returns-clause-value
returns-clause-value c =
    c.distinct.ensures.value ∙ ap (distinct_count ◌==◌) c.deref.ensures.value
    ∙ counted c.args.names.now c.args.edges.now c.loop-edge.edge-index c.loop-edge.labels.items c.requires (let t = c.loop-edge-test.false in omega (arith, t)) c.loop-edge.invariant

pub returns-clause-few : goal.returns-clause-few
returns-clause-few c =
    let n = ap length c.deref.ensures.value ∙ ap length c.loop-edge.invariant ∙ length-map c.args.names.now (label_of (named c.args.names.now (take c.loop-edge.edge-index c.args.edges.now))) in
    let few = c.distinct.ensures.few in
    omega (arith, n, few)
