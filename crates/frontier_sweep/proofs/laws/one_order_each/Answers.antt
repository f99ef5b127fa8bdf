use Rattle.frontier_laws.proofs.FixedOrders.{fixed_order, one_limit}
use Rattle.frontier_sweep.proofs.laws.one_order_each.Goals as goal

pub returns-clause-order : goal.returns-clause-order
returns-clause-order g c fixed network order other h k = fixed_order (g.C.Choose.answers c.args.chooser.now) network order other fixed h k

pub returns-clause-limit : goal.returns-clause-limit
returns-clause-limit g c fixed network order other h k = one_limit (g.C.Choose.answers c.args.chooser.now) network order other fixed h k
