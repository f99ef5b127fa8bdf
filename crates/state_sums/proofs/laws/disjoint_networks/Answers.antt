use Rattle.state_sums.proofs.NetworkLaws.{disjoint_networks}
use Rattle.state_sums.proofs.laws.disjoint_networks.Goals as goal

pub returns : goal.returns
returns c = disjoint_networks
