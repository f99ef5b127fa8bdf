-- The law, as it is proved.
use Rattle.inertia_laws.proofs.Congruences.{congruence}
use Rattle.inertia_laws.proofs.laws.congruence_law.Goals as goal

pub returns : goal.returns
returns c = congruence
