-- The law, as it is proved.
use Rattle.root_quantum.proofs.LawProofs.{delta_square_law}
use Rattle.root_quantum.proofs.laws.delta_square.Goals as goal

pub returns : goal.returns
returns c = delta_square_law
