-- The law, as it is proved.
use Rattle.planar_check.proofs.OtherDirections.{one_direction}
use Rattle.planar_check.proofs.laws.one_direction.Goals as goal

pub returns : goal.returns
returns c = one_direction
