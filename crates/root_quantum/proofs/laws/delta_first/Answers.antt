-- The law, as it is proved.
use Rattle.root_quantum.proofs.LawProofs.{delta_first_law}
use Rattle.root_quantum.proofs.laws.delta_first.Goals as goal

pub returns : goal.returns
returns c = delta_first_law
