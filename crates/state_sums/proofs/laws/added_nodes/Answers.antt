use Rattle.state_sums.proofs.NetworkLaws.{added_nodes}
use Rattle.state_sums.proofs.laws.added_nodes.Goals as goal

pub returns : goal.returns
returns c = added_nodes
