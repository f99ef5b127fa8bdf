use Rattle.graph_parts.proofs.PartLaws.{no_names}
use Rattle.graph_parts.proofs.laws.no_names.Goals as goal

pub returns : goal.returns
returns c = no_names
