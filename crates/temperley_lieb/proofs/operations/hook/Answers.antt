use Rattle.std.proofs.Common.{arith}
use Rattle.strand_algebra.specs.StrandPairings.{hooked}
use Rattle.strand_algebra.specs.Laws.{nothing}
use Rattle.strand_algebra.proofs.PairingLaws.{hooked_noncrossing}
use Rattle.temperley_lieb.proofs.TermLoops.{single_term, at_strands}
use Rattle.temperley_lieb.proofs.operations.hook.Goals as goal

pub collect-requires-clause-noncrossing : goal.collect-requires-clause-noncrossing
collect-requires-clause-noncrossing c =
    let n = c.args.n in
    at_strands n c.hooked.result (hooked n c.args.i) (nothing c.ring-ring.result.now n) c.in_ok-element.element (c.in_ok-element.ensures {u = tt}).value c.hooked.ensures (hooked_noncrossing n c.args.i c.requires.above c.requires.below)

pub returns-clause-value : goal.returns-clause-value
returns-clause-value c =
    let n = c.args.n in
    single_term c.ring-ring.result.now c.args.params.now.modulus n c.in_ok-element.element c.collect.new.sum c.hooked.result (hooked n c.args.i) (omega arith)
    (c.in_ok-element.ensures {u = tt}).value c.collect.ensures.value c.hooked.ensures c.ring-ring.ensures
