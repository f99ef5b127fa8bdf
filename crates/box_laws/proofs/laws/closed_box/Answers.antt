use Rattle.box_laws.proofs.ClosedBoxes.{closed_box}
use Rattle.box_laws.proofs.laws.closed_box.Goals as goal

pub returns : goal.returns
returns c = closed_box
