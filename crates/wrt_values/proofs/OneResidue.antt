-- The residue of a bracket, or of a diagram with colours, is that of the sum over all states, in whatever order the crossings are taken.
use Rattle.std.proofs.Common.{◌≡◌, ℕ, List, Option, Some, None, Result, Ok, Err, refl}
use Rattle.std.specs.Result.{result_and}
use Rattle.state_sums.specs.Networks.{Node}
use Rattle.root_quantum.specs.Parameters.{Parameters}
use Rattle.pd_reader.specs.declared.item.Item.{Item}
use Rattle.pd_reader.specs.declared.item.NetItem.{NetItem}
use Rattle.planar_check.specs.Components.{greatest}
use Rattle.diagram_brackets.specs.Brackets.{bracket, bracket_network}
use Rattle.cables.specs.Nets.{cabled_net, coloured_net}
use Rattle.coloured_values.specs.Coloured.{cabled, coloured}
use Rattle.frontier_laws.specs.FunctionOrders.{nodes_by, first_limit}
use Rattle.frontier_laws.specs.Orders.{View}
use Rattle.skein_network.specs.Refusals.{net_colour}
use Rattle.wrt_values.specs.Coloured.{coloured_value, net_value}
use Rattle.wrt_values.specs.Inverses.{inverses}
use Rattle.wrt_values.specs.Values.{by_limit, value_of, bracket_value}
use Rattle.wrt_values.specs.declared.fault.ValueRefusal.{ValueRefusal}
use Rattle.wrt_values.specs.declared.value.Value.{Value}

by_nodes : (residue : ℕ) (nodes : List Node) (limit : Option ℕ) (value : Value) → by_limit residue nodes 1 limit ≡ Ok value → value.residue ≡ residue
by_nodes residue nodes None value h = cc
by_nodes residue nodes (Some k) value h = absurd (cc)

-- THE RESIDUE IS THE BRACKET
pub one_residue_law : (next : View → ℕ) (p : Parameters) (items : List Item) (value : Value) → bracket_value next p items ≡ Ok value → value.residue ≡ bracket p items
one_residue_law next p items value h =
    let nodes = nodes_by next (bracket_network p items) in by_nodes (bracket p items) nodes (first_limit nodes) value h

-- and with colours
pub coloured_residue_law : (next : View → ℕ) (p : Parameters) (items : List Item) (colours : List ℕ) (value : Value) → coloured_value next p items colours ≡ Ok value → value.residue ≡ coloured p items colours
coloured_residue_law next p items colours value h = go (inverses p (greatest colours)) h
  where
    nodes : List Node
    nodes = nodes_by next (cabled p items colours)

    go : (found : Result (Unit {0}) ValueRefusal) → result_and found (value_of (coloured p items colours) nodes 1) ≡ Ok value → value.residue ≡ coloured p items colours
    go (Ok _) k = by_nodes (coloured p items colours) nodes (first_limit nodes) value k
    go (Err refusal) k = absurd (cc)

-- and of a net
pub net_residue_law : (next : View → ℕ) (p : Parameters) (items : List NetItem) (colours : List ℕ) (value : Value) → net_value next p items colours ≡ Ok value
    → value.residue ≡ coloured_net p items (net_colour items colours)
net_residue_law next p items colours value h = go (inverses p (greatest colours)) h
  where
    residue : ℕ
    residue = coloured_net p items (net_colour items colours)

    nodes : List Node
    nodes = nodes_by next (cabled_net p items (net_colour items colours))

    go : (found : Result (Unit {0}) ValueRefusal) → result_and found (value_of residue nodes 1) ≡ Ok value → value.residue ≡ residue
    go (Ok _) k = by_nodes residue nodes (first_limit nodes) value k
    go (Err refusal) k = absurd (cc)
