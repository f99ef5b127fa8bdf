use Rattle.graph_parts.proofs.PartLaws.{parts_by_walks}
use Rattle.graph_parts.proofs.laws.parts_by_walks.Goals as goal

pub returns : goal.returns
returns c = parts_by_walks
