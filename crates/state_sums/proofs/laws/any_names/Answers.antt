use Rattle.state_sums.proofs.NetworkLaws.{any_names}
use Rattle.state_sums.proofs.laws.any_names.Goals as goal

pub returns : goal.returns
returns c = any_names
