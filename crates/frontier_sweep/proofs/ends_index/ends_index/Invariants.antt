use Rattle.frontier_sweep.proofs.RiseLemmas.{HasEnds}
use Rattle.frontier_sweep.proofs.ends_index.ends_index.Given as goal

abbrev pub invariant-loop-place : goal.invariant-loop-place
invariant-loop-place l = HasEnds l.network.nodes l.place l.index.items
