use Rattle.state_sums.proofs.NetworkLaws.{anywhere}
use Rattle.state_sums.proofs.laws.anywhere.Goals as goal

pub returns : goal.returns
returns c = anywhere
