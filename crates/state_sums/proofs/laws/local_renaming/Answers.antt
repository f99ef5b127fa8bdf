use Rattle.state_sums.proofs.NetworkLaws.{local_renaming}
use Rattle.state_sums.proofs.laws.local_renaming.Goals as goal

pub returns : goal.returns
returns c = local_renaming
