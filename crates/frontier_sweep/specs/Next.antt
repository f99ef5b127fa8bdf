-- Which node an order names next.
--
--     next_of order view     the node that the order names on the view
use Rattle.std.specs.Prelude.{ℕ}
use Rattle.frontier_laws.specs.Orders.{View, listed_of, greedy_of, given_of}
use Rattle.frontier_sweep.specs.declared.order.Order.{Order}
use Rattle.frontier_sweep.specs.declared.order.Order.TheVariants.{Listed, Greedy, Given}

-- The node that the order names on the view.
abbrev pub next_of : Order → View → ℕ
next_of Listed view = listed_of view
next_of Greedy view = greedy_of view
next_of (Given groups) view = given_of groups.items view
