use Rattle.piece_laws.proofs.TurnedEnds.{turned_node_same}
use Rattle.piece_laws.proofs.laws.turned_node.Goals as goal

pub returns : goal.returns
returns c = turned_node_same
