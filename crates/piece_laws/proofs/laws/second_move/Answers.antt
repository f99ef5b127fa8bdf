use Rattle.piece_laws.proofs.PlainMoves.{second_move}
use Rattle.piece_laws.proofs.laws.second_move.Goals as goal

pub returns : goal.returns
returns c = second_move
