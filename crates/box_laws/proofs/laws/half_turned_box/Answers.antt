use Rattle.box_laws.proofs.HalfTurns.{half_turned_box}
use Rattle.box_laws.proofs.laws.half_turned_box.Goals as goal

pub returns : goal.returns
returns c = half_turned_box
