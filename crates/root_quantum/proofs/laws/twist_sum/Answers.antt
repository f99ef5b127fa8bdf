-- The law, as it is proved.
use Rattle.root_quantum.proofs.LawProofs.{twist_sum_law}
use Rattle.root_quantum.proofs.laws.twist_sum.Goals as goal

pub returns : goal.returns
returns c = twist_sum_law
