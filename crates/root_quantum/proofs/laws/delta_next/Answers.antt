-- The law, as it is proved.
use Rattle.root_quantum.proofs.LawProofs.{delta_next_law}
use Rattle.root_quantum.proofs.laws.delta_next.Goals as goal

pub returns : goal.returns
returns c = delta_next_law
