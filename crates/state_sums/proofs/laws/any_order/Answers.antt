use Rattle.state_sums.proofs.NetworkLaws.{any_order}
use Rattle.state_sums.proofs.laws.any_order.Goals as goal

pub returns : goal.returns
returns c = any_order
