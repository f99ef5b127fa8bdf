-- The law, as it is proved.
use Rattle.inertia_laws.proofs.Indices.{certificate_indices_law}
use Rattle.inertia_laws.proofs.laws.certificate_indices.Goals as goal

pub returns : goal.returns
returns c = certificate_indices_law
