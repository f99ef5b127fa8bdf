-- The law, as it is proved.
use Rattle.root_quantum.proofs.RefusalProofs.{accepted_law}
use Rattle.root_quantum.proofs.laws.accepted.Goals as goal

pub returns : goal.returns
returns c = accepted_law
