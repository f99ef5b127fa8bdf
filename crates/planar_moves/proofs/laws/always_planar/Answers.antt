use Rattle.planar_moves.proofs.AllMoves.{always_planar}
use Rattle.planar_moves.proofs.laws.always_planar.Goals as goal

pub returns : goal.returns
returns c = always_planar
