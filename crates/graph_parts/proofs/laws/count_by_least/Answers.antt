use Rattle.graph_parts.proofs.PartLaws.{count_by_least}
use Rattle.graph_parts.proofs.laws.count_by_least.Goals as goal

pub returns : goal.returns
returns c = count_by_least
