use Rattle.planar_moves.proofs.BlownPlanes.{blow_up_planar}
use Rattle.planar_moves.proofs.laws.blow_up_planar.Goals as goal

pub returns : goal.returns
returns c = blow_up_planar
