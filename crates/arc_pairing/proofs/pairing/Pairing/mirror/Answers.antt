use Rattle.std.proofs.Common.{sym, subst, arith}
use Rattle.arc_pairing.specs.Pairings.{IsShortPairing}
use Rattle.arc_pairing.proofs.Mirrors.{IsShortPairing-mirrored, mirrored_whole}
use Rattle.arc_pairing.proofs.pairing.Pairing.mirror.Goals as goal

pub of-requires : goal.of-requires
of-requires c =
    let p = c.partners-points.result.now in
    let whole = mirrored_whole p c.loop-at.partners.items c.loop-at.at (omega arith) c.loop-at.invariant in
    subst IsShortPairing (sym whole) (IsShortPairing-mirrored p (subst IsShortPairing (sym c.partners-points.ensures.value) c.partners-points.ensures.pairing))
