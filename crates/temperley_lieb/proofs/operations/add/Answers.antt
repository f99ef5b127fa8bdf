use Rattle.std.proofs.Common.{[], arith}
use Rattle.temperley_lieb.proofs.TermLoops.{first_added, both_added, element_read}
use Rattle.temperley_lieb.proofs.operations.add.Goals as goal

pub collect_all-requires-clause-sum : goal.collect_all-requires-clause-sum
collect_all-requires-clause-sum c = element_read c.ring-ring.result.now c.strands.result [] c.in_ok-sum.sum (omega arith) (c.in_ok-sum.ensures {u = tt}).value

pub collect_all-requires-2-clause-sum : goal.collect_all-requires-2-clause-sum
collect_all-requires-2-clause-sum c =
    let m = c.ring-ring.result.now in
    let n = c.args.x.now.strands in
    element_read m n c.args.x.now.terms c.collect_all.new.sum (omega arith)
    (first_added m n c.strands.result c.args.x.now.terms c.in_ok-sum.sum c.collect_all.new.sum (omega arith) (c.in_ok-sum.ensures {u = tt}).value c.strands.ensures.value c.collect_all.ensures.value)

pub returns-clause-value : goal.returns-clause-value
returns-clause-value c =
    both_added c.ring-ring.result.now c.args.params.now.modulus c.args.x.now.strands c.strands.result c.args.x.now.terms c.args.y.now.terms c.in_ok-sum.sum c.collect_all.new.sum c.collect_all-2.new.sum
    (omega arith) (c.in_ok-sum.ensures {u = tt}).value c.strands.ensures.value c.collect_all.ensures.value c.collect_all-2.ensures.value c.ring-ring.ensures
