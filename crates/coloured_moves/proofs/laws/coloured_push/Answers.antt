use Rattle.coloured_moves.proofs.ColouredMoves.{coloured_push}
use Rattle.coloured_moves.proofs.laws.coloured_push.Goals as goal

pub returns : goal.returns
returns c = coloured_push
