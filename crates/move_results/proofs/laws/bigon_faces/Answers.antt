use Rattle.move_results.proofs.FoundFaces.{bigon_faces}
use Rattle.move_results.proofs.laws.bigon_faces.Goals as goal

pub returns : goal.returns
returns c = bigon_faces
