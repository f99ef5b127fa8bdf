use Rattle.move_results.proofs.FaceSteps.{face_step}
use Rattle.move_results.proofs.laws.face_step.Goals as goal

pub returns : goal.returns
returns c = face_step
