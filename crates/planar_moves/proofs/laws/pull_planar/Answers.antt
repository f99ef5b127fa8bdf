use Rattle.planar_moves.proofs.UndonePlanes.{pull_planar}
use Rattle.planar_moves.proofs.laws.pull_planar.Goals as goal

pub returns : goal.returns
returns c = pull_planar
