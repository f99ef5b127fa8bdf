use Rattle.graph_parts.proofs.PartLaws.{disjoint_graphs}
use Rattle.graph_parts.proofs.laws.disjoint_graphs.Goals as goal

pub returns : goal.returns
returns c = disjoint_graphs
