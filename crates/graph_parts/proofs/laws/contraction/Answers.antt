use Rattle.graph_parts.proofs.PartLaws.{contraction}
use Rattle.graph_parts.proofs.laws.contraction.Goals as goal

pub returns : goal.returns
returns c = contraction
