use Rattle.std.proofs.Common.{◌≡◌, ◌==◌, true, length, get_or, sym, ap, subst, ◌∙◌, arith}
use Rattle.std.specs.Set.{is_member}
use Rattle.graph_parts.proofs.Ends.{is_member-get_or}
use Rattle.pd_reader.specs.Items.{item_labels}
use Rattle.pd_reader.specs.Diagrams.{labels}
use Rattle.planar_check.specs.Components.{distinct}
use Rattle.planar_check.proofs.ComponentLists.{distinct-member}
use Rattle.skein_network.proofs.diagram.diagram_edges.Goals as goal

pub diagram_edge-requires-clause-there : goal.diagram_edge-requires-clause-there
diagram_edge-requires-clause-there c =
    let all = labels item_labels c.args.diagram.now in
    let listed = c.deref-label-items.ensures.value ∙ c.in_ok-names.ensures ∙ ap distinct (c.deref.ensures.value ∙ c.in_ok-labels.ensures.items ∙ ap (labels item_labels) (c.items.ensures.items ∙ c.diagram.ensures.diagram)) in
    let i = c.loop-label.label-index in
    let within = c.loop-label-test.true in
    let long = ap length listed in
    sym (distinct-member all (get_or c.deref-label-items.result.now i 0))
    ∙ subst (λ ls. is_member ◌==◌ (distinct all) (get_or ls i 0) ≡ true) (sym listed) (is_member-get_or (distinct all) i (omega (arith, within, long)))
