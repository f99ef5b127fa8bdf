use Rattle.std.proofs.Common.{refl, sym, ◌∙◌}
use Rattle.move_script.proofs.EdgeLemmas.{a_loop, no_loop}
use Rattle.move_script.proofs.edges.edge_places.Goals as goal

pub returns-in-Some-clause-on : goal.returns-in-Some-clause-on
returns-in-Some-clause-on c = no_loop c.args.diagram.now c.args.label c.in-Some.first (sym c.first_place.ensures.place ∙ c.in-Some.is)

pub returns-in-None-clause-err : goal.returns-in-None-clause-err
returns-in-None-clause-err c = (refl, a_loop c.args.diagram.now c.args.label (sym c.first_place.ensures.place ∙ c.in-None.is))
