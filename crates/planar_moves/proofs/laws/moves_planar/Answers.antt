use Rattle.planar_moves.proofs.AllMoves.{moves_planar}
use Rattle.planar_moves.proofs.laws.moves_planar.Goals as goal

pub returns : goal.returns
returns c = moves_planar
