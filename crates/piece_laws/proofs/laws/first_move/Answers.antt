use Rattle.piece_laws.proofs.PlainMoves.{first_move}
use Rattle.piece_laws.proofs.laws.first_move.Goals as goal

pub returns : goal.returns
returns c = first_move
