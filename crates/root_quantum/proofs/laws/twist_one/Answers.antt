-- The law, as it is proved.
use Rattle.root_quantum.proofs.LawProofs.{twist_one_law}
use Rattle.root_quantum.proofs.laws.twist_one.Goals as goal

pub returns : goal.returns
returns c = twist_one_law
