-- The law, as it is proved.
use Rattle.planar_check.proofs.OtherDirections.{signs_by_direction}
use Rattle.planar_check.proofs.laws.signs_by_direction.Goals as goal

pub returns : goal.returns
returns c = signs_by_direction
