use Rattle.graph_parts.proofs.PartLaws.{joined_edge}
use Rattle.graph_parts.proofs.laws.joined_edge.Goals as goal

pub returns : goal.returns
returns c = joined_edge
