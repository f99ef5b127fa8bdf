use Rattle.std.proofs.Common.{◌≡◌, ◌+◌, ◌∷◌, ◌++◌, map, take, take_all, drop, ap, ap₂, ◌∙◌, arith}
use Rattle.strand_algebra.specs.StrandPairings.{widened, moved}
use Rattle.strand_algebra.proofs.PairingLaws.{widened_noncrossing}
use Rattle.temperley_lieb.proofs.ShortPairings.{short_pairing}
use Rattle.temperley_lieb.proofs.strands.widened.Goals as goal

pub unwrap-requires : goal.unwrap-requires
unwrap-requires c =
    let n = c.args.strands in
    let p = c.args.pairing.now in
    let whole : c.loop-point-2.wider.items ≡ widened n p =
    c.loop-point-2.invariant
    ∙ ap (λ ys. map (moved n) (take n p) ++ ((n + 1) ∷ n ∷ map (moved n) ys))
    (take_all c.loop-point-2.point-index c.split_at.result.1.now (omega arith) ∙ c.split_at.ensures.back ∙ ap₂ (λ k ys. drop k ys) c.from.ensures c.partners.ensures.value) in
    let t = short_pairing (n + 1) c.as_slice.result.now (widened n p) (omega arith)
    (c.as_slice.ensures.value ∙ whole) (widened_noncrossing n p c.requires.noncrossing).pairing in
    c.new.ensures.succeeds t.0 t.1
