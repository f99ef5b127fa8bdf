-- The law, as it is proved.
use Rattle.planar_check.proofs.Directions.{walk_directions}
use Rattle.planar_check.proofs.laws.walk_directions.Goals as goal

pub returns : goal.returns
returns c = walk_directions
