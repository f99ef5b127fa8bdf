use Rattle.frontier_sweep.proofs.GroupLemmas.{HasGroups}
use Rattle.frontier_sweep.proofs.groups.group_index.Given as goal

abbrev pub invariant-loop-place : goal.invariant-loop-place
invariant-loop-place l = HasGroups l.network.nodes l.place l.index.items
