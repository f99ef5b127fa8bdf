use Rattle.frontier_laws.proofs.OrdersTaken.{whole_value, whole_closed}
use Rattle.frontier_laws.proofs.laws.whole_order.Goals as goal

pub returns : goal.returns
returns c network order is part none = record { same = whole_value network order is part none; closed = whole_closed network order is part none }
