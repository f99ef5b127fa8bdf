use Rattle.std.proofs.Common.{◌≡◌, ◌+◌, ◌++◌, ◌∷◌, [], suc, ℕ, List, sym, ap, ◌∙◌, arith}
use Rattle.std.specs.List.{range_with_len}
use Rattle.braid_closures.proofs.Words.{range_last}
use Rattle.braid_closures.proofs.closures.beginning_labels.Goals as goal

pub loop-place-preserved : goal.loop-place-preserved
loop-place-preserved c =
    let k = c.loop-place.place in
    let e : k + 1 ≡ 1 + k = omega arith in
    c.in_ok-push.ensures.items ∙ ap (λ (xs : List ℕ). xs ++ (k + 1) ∷ []) c.loop-place.invariant ∙ ap (λ (x : ℕ). range_with_len 1 k ++ x ∷ []) e ∙ sym (range_last 1 k) ∙ ap (range_with_len 1) (let s : suc k ≡ k + 1 = omega arith in s)
