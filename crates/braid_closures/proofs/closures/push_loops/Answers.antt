use Rattle.std.proofs.Common.{◌++◌, ◌+◌, ◌-◌, ap, ◌∙◌, arith}
use Rattle.braid_closures.specs.Closures.{loops}
use Rattle.braid_closures.proofs.Words.{one_loop, no_loop}
use Rattle.braid_closures.proofs.closures.push_loops.Goals as goal

pub loop-place-preserved : goal.loop-place-preserved
loop-place-preserved c =
    let whole = c.args.items.now.items ++ loops c.args.word.now 1 c.args.strands in
    ap (λ xs. xs ++ loops c.args.word.now (c.loop-place.place + 1 + 1) (c.args.strands - (c.loop-place.place + 1)))
    c.in_ok-push_loop.ensures
    ∙ one_loop c.loop-place.items.items whole c.args.word.now c.loop-place.place c.args.strands (omega arith) c.loop-place.invariant

pub returns : goal.returns
returns c =
    no_loop c.loop-place.items.items (c.args.items.now.items ++ loops c.args.word.now 1 c.args.strands) c.args.word.now c.loop-place.place c.args.strands (omega arith) c.loop-place.invariant
