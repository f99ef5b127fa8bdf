use Rattle.state_sums.proofs.NetworkLaws.{cut_at_open_names}
use Rattle.state_sums.proofs.laws.cut_at_open_names.Goals as goal

pub returns : goal.returns
returns c = cut_at_open_names
