use Rattle.std.proofs.Common.{sym, ◌∙◌}
use Rattle.skein_network.proofs.DiagramEdges.{edge_is}
use Rattle.skein_network.proofs.diagram.diagram_edge.Goals as goal

pub returns-then-colour-ge2 : goal.returns-then-colour-ge2
returns-then-colour-ge2 c =
    edge_is c.args.diagram.now c.args.colours.now c.requires.sizes c.args.label c.requires.there c.in-Some.component c.least_label.result (sym c.component_of.ensures.number ∙ c.in-Some.is) c.least_label.ensures c.if-colour-ge2.true
