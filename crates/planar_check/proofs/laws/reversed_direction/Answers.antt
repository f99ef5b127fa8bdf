-- The law, as it is proved.
use Rattle.planar_check.proofs.OtherDirections.{reversed_direction}
use Rattle.planar_check.proofs.laws.reversed_direction.Goals as goal

pub returns : goal.returns
returns c = reversed_direction
