use Rattle.std.proofs.Common.{◌≡◌, [], map, take}
use Rattle.state_sums.specs.Networks.{Node}
use Rattle.frontier_laws.specs.Rises.{rise}
use Rattle.frontier_sweep.proofs.rises.first_rises.Given as goal

-- the rises of the nodes so far
abbrev pub invariant-loop-node : goal.invariant-loop-node
invariant-loop-node l = l.each.items ≡ map (λ (node : Node). rise [] node.ends) (take l.node-index l.network.nodes)
