use Rattle.frontier_sweep.proofs.RiseLemmas.{AreRefreshedAt}
use Rattle.frontier_sweep.proofs.rises.refresh_at.Given as goal

abbrev pub invariant-loop-at : goal.invariant-loop-at
invariant-loop-at l = AreRefreshedAt l.network.nodes l.names l.index l.initial.each l.taken l.low l.at l.each
