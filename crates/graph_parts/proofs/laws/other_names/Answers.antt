use Rattle.graph_parts.proofs.PartLaws.{other_names}
use Rattle.graph_parts.proofs.laws.other_names.Goals as goal

pub returns : goal.returns
returns c = other_names
