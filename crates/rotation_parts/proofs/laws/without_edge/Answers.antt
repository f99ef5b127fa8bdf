use Rattle.rotation_parts.proofs.FlatEdges.{without_edge}
use Rattle.rotation_parts.proofs.laws.without_edge.Goals as goal

pub returns : goal.returns
returns c = without_edge
