use Rattle.coloured_moves.proofs.ColouredBigons.{coloured_bigon}
use Rattle.coloured_moves.proofs.laws.coloured_bigon.Goals as goal

pub returns : goal.returns
returns c = coloured_bigon
