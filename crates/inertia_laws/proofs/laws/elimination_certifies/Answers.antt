-- The law, as it is proved.
use Rattle.inertia_laws.proofs.Eliminated.{eliminated_certifies}
use Rattle.inertia_laws.proofs.laws.elimination_certifies.Goals as goal

pub returns : goal.returns
returns c = eliminated_certifies
