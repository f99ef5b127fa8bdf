use Rattle.graph_parts.proofs.PartLaws.{as_many_representatives}
use Rattle.graph_parts.proofs.laws.as_many_representatives.Goals as goal

pub returns : goal.returns
returns c = as_many_representatives
