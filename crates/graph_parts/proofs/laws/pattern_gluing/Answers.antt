use Rattle.graph_parts.proofs.PartLaws.{pattern_gluing}
use Rattle.graph_parts.proofs.laws.pattern_gluing.Goals as goal

pub returns : goal.returns
returns c = pattern_gluing
