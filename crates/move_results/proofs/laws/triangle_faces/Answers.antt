use Rattle.move_results.proofs.FoundFaces.{triangle_faces}
use Rattle.move_results.proofs.laws.triangle_faces.Goals as goal

pub returns : goal.returns
returns c = triangle_faces
