use Rattle.graph_parts.proofs.PartLaws.{closed_gluing}
use Rattle.graph_parts.proofs.laws.closed_gluing.Goals as goal

pub returns : goal.returns
returns c = closed_gluing
