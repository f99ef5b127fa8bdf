use Rattle.std.proofs.Common.{ℕ, ◌≡◌, ◌+◌, ◌-◌, ◌*◌, [], ◌∷◌, ◌++◌, map, length, sym, ap, ◌∙◌, arith}
use Rattle.std.specs.List.{range_with_len}
use Rattle.std.proofs.lemmas.List.FromFn.{length-map-range_with_len, map-range_with_len_more}
use Rattle.strand_algebra.specs.StrandPairings.{straight}
use Rattle.strand_algebra.proofs.PairingLaws.{straight_noncrossing}
use Rattle.temperley_lieb.proofs.ShortPairings.{short_pairing, range_ended}
use Rattle.temperley_lieb.proofs.strands.straight.Goals as goal

pub push-requires : goal.push-requires
push-requires c =
    let n = c.args.strands in
    let l = ap length c.loop-at.invariant ∙ length-map-range_with_len (λ i. n + n - 1 - i) 0 c.loop-at.at in
    (omega arith, omega (arith, l))

pub loop-at-preserved : goal.loop-at-preserved
loop-at-preserved c =
    let n = c.args.strands in
    let f : ℕ → ℕ = λ i. n + n - 1 - i in
    let twice : 2 * n ≡ n + n = omega arith in
    c.push.ensures.items ∙ ap (λ xs. xs ++ (2 * n - 1 - c.loop-at.at) ∷ []) c.loop-at.invariant
    ∙ ap (λ k. map f (range_with_len 0 c.loop-at.at) ++ (k - 1 - c.loop-at.at) ∷ []) twice
    ∙ sym (map-range_with_len_more f 0 c.loop-at.at c.loop-at.at (omega arith))

pub unwrap-requires : goal.unwrap-requires
unwrap-requires c =
    let n = c.args.strands in
    let t = short_pairing n c.as_slice.result.now (straight n) (omega arith)
    (c.as_slice.ensures.value ∙ range_ended (λ i. n + n - 1 - i) c.loop-at.partners.items n c.loop-at.at c.loop-at.invariant (omega arith)) (straight_noncrossing n).pairing in
    c.new.ensures.succeeds t.0 t.1
