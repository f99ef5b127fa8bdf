use Rattle.rotation_parts.proofs.FlatEdges.{one_more_edge}
use Rattle.rotation_parts.proofs.laws.one_more_edge.Goals as goal

pub returns : goal.returns
returns c = one_more_edge
