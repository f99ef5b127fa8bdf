use Rattle.std.proofs.Common.{[], ◌∷◌, ◌++◌, length, sym, ap, ◌∙◌, arith}
use Rattle.std.proofs.lemmas.List.FromFn.{length-range_with_len}
use Rattle.list_lemmas.proofs.Ranges.{range_push}
use Rattle.temperley_lieb.proofs.stacking.below_names.Goals as goal

pub push-requires : goal.push-requires
push-requires c =
    let l = ap length c.loop-name.invariant ∙ length-range_with_len 0 c.loop-name.name in
    (omega arith, omega (arith, l))

pub loop-name-preserved : goal.loop-name-preserved
loop-name-preserved c =
    let k = c.loop-name.name in
    c.push.ensures.items ∙ ap (λ xs. xs ++ k ∷ []) c.loop-name.invariant ∙ sym (range_push k)
