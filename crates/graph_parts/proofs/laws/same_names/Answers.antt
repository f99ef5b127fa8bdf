use Rattle.graph_parts.proofs.PartLaws.{same_names}
use Rattle.graph_parts.proofs.laws.same_names.Goals as goal

pub returns : goal.returns
returns c = same_names
