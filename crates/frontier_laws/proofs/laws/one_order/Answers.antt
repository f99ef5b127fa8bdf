use Rattle.frontier_laws.proofs.ChosenOrders.{IsChosen-only, IsChosen-order_by}
use Rattle.frontier_laws.proofs.laws.one_order.Goals as goal

pub returns : goal.returns
returns c next network = record { only = IsChosen-only next network; some = IsChosen-order_by next network }
