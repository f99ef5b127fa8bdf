-- What comes of summing the states of a network node by node, in the order that a function of the view gives: so many turns, or the
-- first limit that is met. (This project's own.)
--
--     limit_at nodes k        the limit that is met after the first k nodes
--     sweep_of nodes          the turns that these nodes take, or the first limit, by the step that meets it
--     sweep next network      the same for the nodes of a network as `next` takes them
--
-- The trefoil takes 10 turns in each of the three orders. Two nodes on the same 26 names stop at step 1 with 26 open names
-- (proofs/Examples.antt).
use Rattle.std.specs.Prelude.{ℕ, List, take, Option, Some, None, Result, Ok, Err, if◌then◌else◌}
use Rattle.state_sums.specs.Networks.{Node, Network}
use Rattle.frontier_laws.specs.FunctionOrders.{nodes_by, is_wide, first_limit}
use Rattle.frontier_laws.specs.Orders.{View}
use Rattle.frontier_laws.specs.Turns.{open_count, turns_of}
use Rattle.frontier_sweep.specs.declared.fault.SweepFault.{SweepFault}
use Rattle.frontier_sweep.specs.declared.fault.SweepFault.TheVariants.{Wide, Table}

-- The limit that is met after the first k nodes: too many open names come before too many pairings.
abbrev pub limit_at : List Node → ℕ → SweepFault
limit_at nodes k = if is_wide nodes k then Wide k (open_count (take k nodes)) else Table k

-- The turns, or the limit of the first step that meets one.
abbrev pub by_step : List Node → Option ℕ → Result ℕ SweepFault
by_step nodes None = Ok (turns_of nodes)
by_step nodes (Some k) = Err (limit_at nodes k)

-- The turns that the nodes take, or the first limit.
abbrev pub sweep_of : List Node → Result ℕ SweepFault
sweep_of nodes = by_step nodes (first_limit nodes)

-- The same for a network, in the order that the function gives.
abbrev pub sweep : (View → ℕ) → Network → Result ℕ SweepFault
sweep next network = sweep_of (nodes_by next network)
