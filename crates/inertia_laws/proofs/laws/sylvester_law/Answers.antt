-- The law, as it is proved.
use Rattle.inertia_laws.proofs.Clearing.{same_inertia}
use Rattle.inertia_laws.proofs.laws.sylvester_law.Goals as goal

pub returns : goal.returns
returns c = same_inertia
