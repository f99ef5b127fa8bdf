use Rattle.rotation_parts.proofs.Subdivisions.{subdivision_counts}
use Rattle.rotation_parts.proofs.laws.subdivision_counts.Goals as goal

pub returns : goal.returns
returns c = subdivision_counts
