use Rattle.rotation_parts.proofs.CutVertices.{cut_vertex}
use Rattle.rotation_parts.proofs.laws.cut_vertex.Goals as goal

pub returns : goal.returns
returns c = cut_vertex
