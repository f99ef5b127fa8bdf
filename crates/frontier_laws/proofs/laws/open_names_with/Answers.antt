use Rattle.frontier_laws.proofs.FixedOrders.{open_with-after}
use Rattle.frontier_laws.proofs.laws.open_names_with.Goals as goal

pub returns : goal.returns
returns c = open_with-after
