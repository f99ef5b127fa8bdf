use Rattle.frontier_sweep.proofs.GroupLemmas.{given_behind, given_found}
use Rattle.frontier_sweep.proofs.order.given_next.Goals as goal

pub returns-in-Some-clause-next : goal.returns-in-Some-clause-next
returns-in-Some-clause-next c =
    given_found c.args.view.now c.first_of_group.ensures.view c.args.order.now c.loop-group.group-index c.loop-group-test.true c.loop-group.invariant c.in-Some.place c.in-Some.ensures.first

pub returns-clause-next : goal.returns-clause-next
returns-clause-next c =
    given_behind c.args.view.now c.first_of_all.ensures.view c.args.order.now c.loop-group.group-index c.loop-group-test.false c.loop-group.invariant c.first_of_all.result c.first_of_all.ensures.first
