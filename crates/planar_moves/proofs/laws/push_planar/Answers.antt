use Rattle.planar_moves.proofs.PushedPlanes.{push_planar}
use Rattle.planar_moves.proofs.laws.push_planar.Goals as goal

pub returns : goal.returns
returns c = push_planar
