use Rattle.piece_laws.proofs.NodesOfArcs.{node_of_arcs}
use Rattle.piece_laws.proofs.laws.node_of_arcs.Goals as goal

pub returns : goal.returns
returns c = node_of_arcs
