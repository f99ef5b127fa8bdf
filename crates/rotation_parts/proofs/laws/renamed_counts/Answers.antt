use Rattle.rotation_parts.proofs.OtherNames.{renamed_counts}
use Rattle.rotation_parts.proofs.laws.renamed_counts.Goals as goal

pub returns : goal.returns
returns c = renamed_counts
