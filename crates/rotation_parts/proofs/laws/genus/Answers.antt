use Rattle.rotation_parts.proofs.FlatEdges.{genus}
use Rattle.rotation_parts.proofs.laws.genus.Goals as goal

pub returns : goal.returns
returns c = genus
