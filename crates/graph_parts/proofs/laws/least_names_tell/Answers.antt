use Rattle.graph_parts.proofs.PartLaws.{least_names_tell}
use Rattle.graph_parts.proofs.laws.least_names_tell.Goals as goal

pub returns : goal.returns
returns c = least_names_tell
