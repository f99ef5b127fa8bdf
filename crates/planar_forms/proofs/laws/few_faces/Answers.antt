use Rattle.planar_forms.proofs.PlaceCounts.{few_faces}
use Rattle.planar_forms.proofs.laws.few_faces.Goals as goal

pub returns : goal.returns
returns c = few_faces
