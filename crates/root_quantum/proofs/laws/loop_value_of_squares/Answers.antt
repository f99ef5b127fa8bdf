-- The law, as it is proved.
use Rattle.root_quantum.proofs.LawProofs.{loop_value_law}
use Rattle.root_quantum.proofs.laws.loop_value_of_squares.Goals as goal

pub returns : goal.returns
returns c = loop_value_law
