-- The law, as it is proved.
use Rattle.root_quantum.proofs.RefusalProofs.{refused_law}
use Rattle.root_quantum.proofs.laws.refused.Goals as goal

pub returns : goal.returns
returns c = refused_law
