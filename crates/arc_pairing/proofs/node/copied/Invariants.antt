use Rattle.std.proofs.Common.{◌≡◌, take, All}
use Rattle.arc_pairing.specs.Pairings.{IsShortPairing}
use Rattle.arc_pairing.proofs.node.copied.Given as goal

abbrev pub invariant-loop-term : goal.invariant-loop-term
invariant-loop-term l = (l.copies.items ≡ take l.term-index l.terms) × All (λ term. IsShortPairing term.partner) (take l.term-index l.terms)
