use Rattle.planar_moves.proofs.SlidPlanes.{slide_planar}
use Rattle.planar_moves.proofs.laws.slide_planar.Goals as goal

pub returns : goal.returns
returns c = slide_planar
