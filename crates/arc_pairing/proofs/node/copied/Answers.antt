use Rattle.std.proofs.Common.{◌≡◌, ◌+◌, take, arith}
use Rattle.std.proofs.lemmas.Grind.{common_steps}
use Rattle.arc_pairing.specs.Pairings.{IsShortPairing}
use Rattle.arc_pairing.proofs.Steps.{all_read}
use Rattle.arc_pairing.proofs.node.copied.Goals as goal

pub loop-term-preserved : goal.loop-term-preserved
loop-term-preserved c =
    let first : c.push.new.self.items ≡ take (c.loop-term.term-index + 1) c.args.terms.now = grind (arith, common_steps, c.loop-term.invariant.0, c.term-item.is, c.copy.ensures.value, c.in_ok-push.ensures.items) in (
      first,
      all_read (λ term. IsShortPairing term.partner) c.args.terms.now c.loop-term.term-index c.term-item.result c.loop-term-test.true c.term-item.is c.loop-term.invariant.1 c.copy.ensures.pairing,
    )
