use Rattle.std.proofs.Common.{◌≡◌, take}
use Rattle.temperley_lieb.proofs.AddedTerms.{zeros}
use Rattle.temperley_lieb.proofs.collecting.nothing.Given as goal

abbrev pub invariant-loop-pairing : goal.invariant-loop-pairing
invariant-loop-pairing l = l.terms.items ≡ zeros (take l.pairing-index l.pairing-items)
