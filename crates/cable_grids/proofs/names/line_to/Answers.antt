use Rattle.std.proofs.Common.{◌++◌, ◌∷◌, [], ℕ, ◌+◌, ◌*◌, List, sym, ap, ◌∙◌, arith}
use Rattle.std.proofs.lemmas.List.FromFn.{map-range_with_len_more}
use Rattle.cable_grids.proofs.names.line_to.Goals as goal

pub loop-j-preserved : goal.loop-j-preserved
loop-j-preserved c =
    let f : ℕ → ℕ = λ j. 33554432 + 128 * c.args.k + 64 + 8 * c.args.i + j in
    c.in_ok-push.ensures.items ∙ ap (λ (xs : List ℕ). xs ++ f c.loop-j.j ∷ []) c.loop-j.invariant ∙ sym (map-range_with_len_more f 0 c.loop-j.j c.loop-j.j (omega arith))
