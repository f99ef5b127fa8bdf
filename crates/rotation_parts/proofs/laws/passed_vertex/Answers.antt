use Rattle.rotation_parts.proofs.PassedVertices.{passed_vertex}
use Rattle.rotation_parts.proofs.laws.passed_vertex.Goals as goal

pub returns : goal.returns
returns c = passed_vertex
