use Rattle.std.proofs.Common.{◌≤◌, ap, sym, subst, ◌∙◌}
use Rattle.std.specs.List.{AllByRecursion}
use Rattle.std.proofs.lemmas.Result.{IfOk-weaker, on_ok_weaker}
use Rattle.pd_reader.specs.Diagrams.{IsNet}
use Rattle.planar_check.specs.Components.{greatest}
use Rattle.cables.specs.Cables.{cable, Fits}
use Rattle.skein_network.specs.Edges.{strands_at}
use Rattle.skein_network.specs.Refusals.{net_refusal}
use Rattle.skein_network.proofs.ListColours.{no_projector, top_few}
use Rattle.skein_network.proofs.CabledNets.{net_high, net_edges_coloured, net_edges_fit, net_cable, net_cable_weights}
use Rattle.skein_network.proofs.net.cable_net.Goals as goal

pub cable_coloured-requires-clause-high : goal.cable_coloured-requires-clause-high
cable_coloured-requires-clause-high c =
    let none = sym (ap (λ t. net_refusal t c.args.net.now c.args.colours.now) c.top.ensures.value) ∙ c.in_ok-edges.ensures.fits in
    net_high c.args.table.now.params c.args.net.now c.args.colours.now c.args.table.now.top c.in_ok-edges.edges.items none c.in_ok-edges.ensures.edges

pub cable_coloured-requires-clause-edges : goal.cable_coloured-requires-clause-edges
cable_coloured-requires-clause-edges c =
    let none = sym (ap (λ t. net_refusal t c.args.net.now c.args.colours.now) c.top.ensures.value) ∙ c.in_ok-edges.ensures.fits in
    net_edges_coloured c.args.table.now.params c.args.net.now c.args.colours.now c.args.table.now.top c.in_ok-edges.edges.items none c.in_ok-edges.ensures.edges

pub cable_coloured-requires-clause-fits : goal.cable_coloured-requires-clause-fits
cable_coloured-requires-clause-fits c =
    let none = sym (ap (λ t. net_refusal t c.args.net.now c.args.colours.now) c.top.ensures.value) ∙ c.in_ok-edges.ensures.fits in
    let items = c.items.ensures.items ∙ c.net.ensures.net in
    subst (AllByRecursion (Fits (strands_at c.args.table.now.params c.in_ok-edges.edges.items))) (sym items)
    (net_edges_fit c.args.table.now.params c.args.net.now c.args.colours.now c.args.table.now.top c.in_ok-edges.edges.items none c.in_ok-edges.ensures.edges (subst IsNet c.net.ensures.net c.items.ensures.net))

pub returns-clause-network : goal.returns-clause-network
returns-clause-network c =
    let p = c.args.table.now.params in
    let none = sym (ap (λ t. net_refusal t c.args.net.now c.args.colours.now) c.top.ensures.value) ∙ c.in_ok-edges.ensures.fits in
    let items = c.items.ensures.items ∙ c.net.ensures.net in
    IfOk-weaker c.cable_coloured.result _ _
    (λ network e.
    e ∙ ap (cable p (strands_at p c.in_ok-edges.edges.items)) items ∙ net_cable p c.args.net.now c.args.colours.now c.args.table.now.top c.in_ok-edges.edges.items none c.in_ok-edges.ensures.edges)
    c.cable_coloured.ensures.network

pub returns-clause-weights : goal.returns-clause-weights
returns-clause-weights c =
    let p = c.args.table.now.params in
    let none = sym (ap (λ t. net_refusal t c.args.net.now c.args.colours.now) c.top.ensures.value) ∙ c.in_ok-edges.ensures.fits in
    let items = c.items.ensures.items ∙ c.net.ensures.net in
    let few = subst (λ t. t ≤ 8) c.top.ensures.value (top_few p c.top.result c.top.ensures.few) in
    IfOk-weaker c.cable_coloured.result _ _
    (λ network e.
    net_cable_weights p c.args.net.now c.args.colours.now c.args.table.now.top c.in_ok-edges.edges.items none c.in_ok-edges.ensures.edges (subst IsNet c.net.ensures.net c.items.ensures.net) few network
    (e ∙ ap (cable p (strands_at p c.in_ok-edges.edges.items)) items))
    c.cable_coloured.ensures.network

pub returns-clause-fits : goal.returns-clause-fits
returns-clause-fits c =
    let none = sym (ap (λ t. net_refusal t c.args.net.now c.args.colours.now) c.top.ensures.value) ∙ c.in_ok-edges.ensures.fits in
    on_ok_weaker c.cable_coloured.result (λ known. none) c.cable_coloured.ensures.known

pub returns-clause-refused : goal.returns-clause-refused
returns-clause-refused c =
    let none = sym (ap (λ t. net_refusal t c.args.net.now c.args.colours.now) c.top.ensures.value) ∙ c.in_ok-edges.ensures.fits in
    no_projector (net_refusal c.args.table.now.top c.args.net.now c.args.colours.now) c.args.table.now.params (greatest c.args.colours.now) c.cable_coloured.result none c.cable_coloured.ensures.refused
