use Rattle.state_sums.proofs.NetworkLaws.{same_everywhere}
use Rattle.state_sums.proofs.laws.same_everywhere.Goals as goal

pub returns : goal.returns
returns c = same_everywhere
