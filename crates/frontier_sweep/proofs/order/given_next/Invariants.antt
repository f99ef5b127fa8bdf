use Rattle.frontier_sweep.proofs.GroupLemmas.{NoneOf}
use Rattle.frontier_sweep.proofs.order.given_next.Given as goal

abbrev pub invariant-loop-group : goal.invariant-loop-group
invariant-loop-group l = NoneOf l.view l.order l.group-index
