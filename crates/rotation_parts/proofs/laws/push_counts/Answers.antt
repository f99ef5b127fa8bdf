use Rattle.rotation_parts.proofs.Pushes.{push_counts}
use Rattle.rotation_parts.proofs.laws.push_counts.Goals as goal

pub returns : goal.returns
returns c = push_counts
