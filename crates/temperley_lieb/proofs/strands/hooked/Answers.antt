use Rattle.std.proofs.Common.{ℕ, [], ◌∷◌, ◌++◌, map, length, sym, ap, ◌∙◌, arith}
use Rattle.std.specs.List.{range_with_len}
use Rattle.std.proofs.lemmas.List.FromFn.{length-map-range_with_len, map-range_with_len_more}
use Rattle.strand_algebra.specs.StrandPairings.{hooked, hooked_point}
use Rattle.strand_algebra.proofs.PairingLaws.{hooked_noncrossing}
use Rattle.temperley_lieb.proofs.ShortPairings.{short_pairing, range_ended}
use Rattle.temperley_lieb.proofs.strands.hooked.Goals as goal

pub push-requires : goal.push-requires
push-requires c =
    let l = ap length c.loop-at.invariant ∙ length-map-range_with_len (hooked_point c.args.strands c.args.i) 0 c.loop-at.at in
    (omega arith, omega (arith, l))

pub loop-at-preserved : goal.loop-at-preserved
loop-at-preserved c =
    let f : ℕ → ℕ = hooked_point c.args.strands c.args.i in
    c.push.ensures.items ∙ ap (λ xs. xs ++ c.hooked_point.result ∷ []) c.loop-at.invariant
    ∙ ap (λ k. map f (range_with_len 0 c.loop-at.at) ++ k ∷ []) c.hooked_point.ensures
    ∙ sym (map-range_with_len_more f 0 c.loop-at.at c.loop-at.at (omega arith))

pub unwrap-requires : goal.unwrap-requires
unwrap-requires c =
    let n = c.args.strands in
    let t = short_pairing n c.as_slice.result.now (hooked n c.args.i) (omega arith)
    (c.as_slice.ensures.value ∙ range_ended (hooked_point n c.args.i) c.loop-at.partners.items n c.loop-at.at c.loop-at.invariant (omega arith)) (hooked_noncrossing n c.args.i c.requires.above c.requires.below).pairing in
    c.new.ensures.succeeds t.0 t.1
