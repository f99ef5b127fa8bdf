use Rattle.move_results.proofs.DiagramResults.{diagram_again}
use Rattle.move_results.proofs.laws.diagram_again.Goals as goal

pub returns : goal.returns
returns c = diagram_again
