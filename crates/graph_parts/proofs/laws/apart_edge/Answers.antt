use Rattle.graph_parts.proofs.PartLaws.{apart_edge}
use Rattle.graph_parts.proofs.laws.apart_edge.Goals as goal

pub returns : goal.returns
returns c = apart_edge
