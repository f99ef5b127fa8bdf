use Rattle.box_laws.proofs.Projectors.{projector_box}
use Rattle.box_laws.proofs.laws.projector_box.Goals as goal

pub returns : goal.returns
returns c = projector_box
