-- The law, as it is proved.
use Rattle.root_quantum.proofs.LawProofs.{twist_none_law}
use Rattle.root_quantum.proofs.laws.twist_none.Goals as goal

pub returns : goal.returns
returns c = twist_none_law
