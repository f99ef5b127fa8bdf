use Rattle.frontier_sweep.proofs.RiseLemmas.{AreRefreshed}
use Rattle.frontier_sweep.proofs.rises.refresh.Given as goal

abbrev pub invariant-loop-end : goal.invariant-loop-end
invariant-loop-end l = AreRefreshed l.network.nodes l.names l.ends l.initial.each l.taken l.end-index l.each
