use Rattle.std.proofs.Common.{◌++◌, ◌∷◌, [], List, ℕ, filter, sym, ap, ◌∙◌, append_assoc, arith}
use Rattle.std.specs.List.{range_with_len}
use Rattle.std.proofs.lemmas.List.FromFn.{filter_of_map_range_with_len_more}
use Rattle.tetra_sum.specs.Colourings.{are_allowed}
use Rattle.tetra_sum.specs.Lists.{lists, longer_by}
use Rattle.tetra_sum.proofs.colourings.push_longer.Goals as goal

pub loop-colour-preserved : goal.loop-colour-preserved
loop-colour-preserved c =
    let ok = λ (each : List ℕ). are_allowed c.args.r c.args.labels.now each c.args.faces.now in
    let k = c.loop-colour.colour in
    let before = filter ok (longer_by (range_with_len 0 k) c.args.colours.now) in
    let new = filter ok ((c.args.colours.now ++ k ∷ []) ∷ []) in
    c.in_ok-push_allowed.ensures {u = tt}
    ∙ ap (λ (front : List (List ℕ)). front ++ new) c.loop-colour.invariant
    ∙ append_assoc (lists c.args.list.now.items) before new
    ∙ ap (λ (back : List (List ℕ)). lists c.args.list.now.items ++ back) (sym (filter_of_map_range_with_len_more ok (λ colour. c.args.colours.now ++ colour ∷ []) 0 k k (omega arith)))
