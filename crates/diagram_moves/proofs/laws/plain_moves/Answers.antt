use Rattle.diagram_moves.proofs.PlainMoves.{plain_moves}
use Rattle.diagram_moves.proofs.laws.plain_moves.Goals as goal

pub returns : goal.returns
returns c = plain_moves
