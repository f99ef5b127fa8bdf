use Rattle.piece_laws.proofs.ThirdMove.{third_move}
use Rattle.piece_laws.proofs.laws.third_move.Goals as goal

pub returns : goal.returns
returns c = third_move
