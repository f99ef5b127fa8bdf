-- The law, as it is proved.
use Rattle.inertia_laws.proofs.Clearing.{bordered_inertia}
use Rattle.inertia_laws.proofs.laws.border_counts.Goals as goal

pub returns : goal.returns
returns c = bordered_inertia
