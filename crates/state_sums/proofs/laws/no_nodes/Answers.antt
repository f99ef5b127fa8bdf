use Rattle.state_sums.proofs.NetworkLaws.{no_nodes}
use Rattle.state_sums.proofs.laws.no_nodes.Goals as goal

pub returns : goal.returns
returns c = no_nodes
