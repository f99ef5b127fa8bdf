use Rattle.graph_parts.proofs.PartLaws.{same_edges}
use Rattle.graph_parts.proofs.laws.same_edges.Goals as goal

pub returns : goal.returns
returns c = same_edges
