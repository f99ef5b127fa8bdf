-- The law, as it is proved.
use Rattle.root_quantum.proofs.LawProofs.{root_times_inverse}
use Rattle.root_quantum.proofs.laws.root_times_inverse.Goals as goal

pub returns : goal.returns
returns c = root_times_inverse
