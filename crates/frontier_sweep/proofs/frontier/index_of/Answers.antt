use Rattle.std.proofs.Common.{arith}
use Rattle.list_lemmas.proofs.Items.{member_at}
use Rattle.frontier_sweep.proofs.frontier.index_of.Goals as goal

pub returns-clause-within : goal.returns-clause-within
returns-clause-within c =
    let found = member_at c.args.places.now c.args.place c.requires in
    let end = c.loop-index-test.false in
    absurd (c.loop-index.invariant found.0 (omega (arith, end, found.1)) found.2)

pub returns-clause-place : goal.returns-clause-place
returns-clause-place c =
    let found = member_at c.args.places.now c.args.place c.requires in
    let end = c.loop-index-test.false in
    absurd (c.loop-index.invariant found.0 (omega (arith, end, found.1)) found.2)
