use Rattle.std.proofs.Common.{arith}
use Rattle.strand_algebra.specs.StrandPairings.{straight}
use Rattle.strand_algebra.specs.Laws.{nothing}
use Rattle.strand_algebra.proofs.PairingLaws.{straight_noncrossing}
use Rattle.temperley_lieb.proofs.TermLoops.{single_term, at_strands}
use Rattle.temperley_lieb.proofs.operations.identity.Goals as goal

pub collect-requires-clause-noncrossing : goal.collect-requires-clause-noncrossing
collect-requires-clause-noncrossing c =
    let n = c.args.n in
    at_strands n c.straight.result (straight n) (nothing c.ring-ring.result.now n) c.in_ok-element.element (c.in_ok-element.ensures {u = tt}).value c.straight.ensures (straight_noncrossing n)

pub returns-clause-value : goal.returns-clause-value
returns-clause-value c =
    let n = c.args.n in
    single_term c.ring-ring.result.now c.args.params.now.modulus n c.in_ok-element.element c.collect.new.sum c.straight.result (straight n) (omega arith)
    (c.in_ok-element.ensures {u = tt}).value c.collect.ensures.value c.straight.ensures c.ring-ring.ensures
