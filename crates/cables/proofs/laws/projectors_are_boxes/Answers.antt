use Rattle.cables.proofs.ProjectorBoxes.{projector_boxes}
use Rattle.cables.proofs.laws.projectors_are_boxes.Goals as goal

pub returns : goal.returns
returns c = projector_boxes
