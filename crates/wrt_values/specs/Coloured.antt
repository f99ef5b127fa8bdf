-- Values of diagrams whose components have colours, and of nets whose labels have. (Lickorish, ch. 13; Kauffman and Lins; the
-- refusals are this project's own.)
--
--     coloured_value next p items colours       the value with these colours, whose nodes are taken as `next` says: refused where
--                                               a projector of the greatest colour is wanting, or else for the first limit
--     net_value next p items colours            the same of a net; the colours are those of its labels, in increasing order
--
-- The framing is the diagram's own. At 41, 2, 5 the curl X[1,1,2,2] of colour 2 has the value 22.
use Rattle.std.specs.Prelude.{ℕ, List, Result}
use Rattle.std.specs.Result.{result_and}
use Rattle.root_quantum.specs.Parameters.{Parameters}
use Rattle.pd_reader.specs.declared.item.Item.{Item}
use Rattle.pd_reader.specs.declared.item.NetItem.{NetItem}
use Rattle.planar_check.specs.Components.{greatest}
use Rattle.cables.specs.Nets.{cabled_net, coloured_net}
use Rattle.coloured_values.specs.Coloured.{cabled, coloured}
use Rattle.frontier_laws.specs.FunctionOrders.{nodes_by}
use Rattle.frontier_laws.specs.Orders.{View}
use Rattle.skein_network.specs.Refusals.{net_colour}
use Rattle.wrt_values.specs.Inverses.{inverses}
use Rattle.wrt_values.specs.Values.{value_of}
use Rattle.wrt_values.specs.declared.fault.ValueRefusal.{ValueRefusal}
use Rattle.wrt_values.specs.declared.value.Value.{Value}

-- The value, or the first reason against it.
abbrev pub coloured_value : (View → ℕ) → Parameters → List Item → List ℕ → Result Value ValueRefusal
coloured_value next p items colours =
    result_and (inverses p (greatest colours)) (value_of (coloured p items colours) (nodes_by next (cabled p items colours)) 1)

-- The value of a net, or the first reason against it.
abbrev pub net_value : (View → ℕ) → Parameters → List NetItem → List ℕ → Result Value ValueRefusal
net_value next p items colours =
    let colour = net_colour items colours in
    result_and (inverses p (greatest colours)) (value_of (coloured_net p items colour) (nodes_by next (cabled_net p items colour)) 1)
