use Rattle.std.proofs.Common.{ℕ, [], ◌∷◌, ◌++◌, map, length, sym, ap, ◌∙◌, arith}
use Rattle.std.specs.List.{range_with_len}
use Rattle.std.proofs.lemmas.List.FromFn.{length-map-range_with_len, map-range_with_len_more}
use Rattle.strand_algebra.specs.GluedProducts.{above_name}
use Rattle.temperley_lieb.proofs.stacking.above_names.Goals as goal

pub push-requires : goal.push-requires
push-requires c =
    let l = ap length c.loop-at.invariant ∙ length-map-range_with_len (above_name c.args.strands) 0 c.loop-at.at in
    (omega arith, omega (arith, l))

pub loop-at-preserved : goal.loop-at-preserved
loop-at-preserved c =
    let f : ℕ → ℕ = above_name c.args.strands in
    c.push.ensures.items ∙ ap (λ xs. xs ++ c.above_name.result ∷ []) c.loop-at.invariant
    ∙ ap (λ k. map f (range_with_len 0 c.loop-at.at) ++ k ∷ []) c.above_name.ensures
    ∙ sym (map-range_with_len_more f 0 c.loop-at.at c.loop-at.at (omega arith))
