use Rattle.graph_parts.proofs.PartLaws.{part_equivalence}
use Rattle.graph_parts.proofs.laws.part_equivalence.Goals as goal

pub returns : goal.returns
returns c = part_equivalence
