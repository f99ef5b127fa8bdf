use Rattle.std.proofs.Common.{ap, ap₂, sym, subst, ◌∙◌, arith}
use Rattle.std.specs.List.{AllByRecursion}
use Rattle.std.proofs.lemmas.Result.{IfOk-weaker}
use Rattle.state_sums.specs.Networks.{WeightsBelow}
use Rattle.pd_reader.specs.Diagrams.{IsNet, IsDiagram}
use Rattle.cables.specs.Cables.{cable, as_net, Fits}
use Rattle.coloured_values.proofs.CabledDiagrams.{IsNet-as_net}
use Rattle.skein_network.specs.Edges.{strands_at}
use Rattle.skein_network.specs.Colourings.{AreColoured}
use Rattle.skein_network.proofs.ListColours.{not_refused, top_few}
use Rattle.skein_network.proofs.DiagramEdges.{diagram_coloured, diagram_fits, diagram_cable, diagram_weights}
use Rattle.skein_network.proofs.diagram.cable.Goals as goal

pub cable_coloured-requires-clause-net : goal.cable_coloured-requires-clause-net
cable_coloured-requires-clause-net c =
    let items = c.deref.ensures.value ∙ c.in_ok-items.ensures ∙ ap as_net (c.items.ensures.items ∙ c.diagram.ensures.diagram) in
    subst IsNet (sym items) (IsNet-as_net c.args.diagram.now (subst IsDiagram c.diagram.ensures.diagram c.items.ensures.diagram))

pub cable_coloured-requires-clause-high : goal.cable_coloured-requires-clause-high
cable_coloured-requires-clause-high c =
    let many = not_refused c.top.result c.components.result c.args.colours.now c.in_ok-check_colours.ensures.ok in
    let high = many.1 in
    let top = c.top.ensures.value in
    omega (arith, high, top)

pub cable_coloured-requires-clause-edges : goal.cable_coloured-requires-clause-edges
cable_coloured-requires-clause-edges c = subst (AreColoured c.args.colours.now) (sym c.in_ok-edges.ensures) (diagram_coloured c.args.diagram.now c.args.colours.now)

pub cable_coloured-requires-clause-fits : goal.cable_coloured-requires-clause-fits
cable_coloured-requires-clause-fits c =
    let p = c.args.table.now.params in
    let items = c.deref.ensures.value ∙ c.in_ok-items.ensures ∙ ap as_net (c.items.ensures.items ∙ c.diagram.ensures.diagram) in
    let diagram = subst IsDiagram c.diagram.ensures.diagram c.items.ensures.diagram in
    subst (AllByRecursion (Fits (strands_at p c.in_ok-edges.edges.items))) (sym items)
    (subst (λ es. AllByRecursion (Fits (strands_at p es)) (as_net c.args.diagram.now)) (sym c.in_ok-edges.ensures) (diagram_fits c.args.diagram.now c.args.colours.now p diagram.sizes))

pub returns-clause-network : goal.returns-clause-network
returns-clause-network c =
    let p = c.args.table.now.params in
    let items = c.deref.ensures.value ∙ c.in_ok-items.ensures ∙ ap as_net (c.items.ensures.items ∙ c.diagram.ensures.diagram) in
    IfOk-weaker c.cable_coloured.result _ _
    (λ network e. e ∙ ap₂ (λ es xs. cable p (strands_at p es) xs) c.in_ok-edges.ensures items ∙ diagram_cable c.args.diagram.now c.args.colours.now p)
    c.cable_coloured.ensures.network

pub returns-clause-weights : goal.returns-clause-weights
returns-clause-weights c =
    let p = c.args.table.now.params in
    let items = c.deref.ensures.value ∙ c.in_ok-items.ensures ∙ ap as_net (c.items.ensures.items ∙ c.diagram.ensures.diagram) in
    let diagram = subst IsDiagram c.diagram.ensures.diagram c.items.ensures.diagram in
    let many = not_refused c.top.result c.components.result c.args.colours.now c.in_ok-check_colours.ensures.ok in
    let few = top_few p c.top.result c.top.ensures.few in
    let high = many.1 in
    let weights = diagram_weights c.args.diagram.now c.args.colours.now p diagram (many.0 ∙ c.components.ensures.count) (omega (arith, high, few)) in
    IfOk-weaker c.cable_coloured.result _ _
    (λ network e.
    subst (λ n. WeightsBelow p.modulus n.nodes) (sym (e ∙ ap₂ (λ es xs. cable p (strands_at p es) xs) c.in_ok-edges.ensures items ∙ diagram_cable c.args.diagram.now c.args.colours.now p)) weights)
    c.cable_coloured.ensures.network
