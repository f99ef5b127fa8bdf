use Rattle.std.proofs.Common.{◌≡◌, ◌++◌, ◌≤◌, length, reverse, ◌+◌, ◌<◌, [], ◌∷◌, ap, sym, ◌∙◌, arith, get_or, ◌⊎◌, inl, inr}
use Rattle.std.proofs.lemmas.Grind.{get_or_default_zero}
use Rattle.std.proofs.lemmas.List.{length-reverse}
use Rattle.cables.specs.CableNodes.{upright_names, line_names}
use Rattle.cable_grids.proofs.GridRows.{line_length, upright_length, pushed_row, same_row}
use Rattle.cable_grids.proofs.grid.push_grid.Goals as goal
use Rattle.cable_grids.proofs.grid.push_grid.Goals.{then-i-len+in_ok-tops, else-i-len+in_ok-tops-2}

pub push_row-requires-clause-bottoms : goal.push_row-requires-clause-bottoms
push_row-requires-clause-bottoms c =
    let some : 1 ≤ c.len-u.result = (let k = c.len-u.ensures in let h = c.requires.some in omega (arith, k, h)) in
    ap length c.deref-in-loop-i.ensures.value ∙ c.loop-i.invariant.1
    ∙ sym (ap length c.deref-in-loop-i-2.ensures.value ∙ ap length c.in_ok-line.ensures ∙ line_length _ _ _ _ some)

pub push_row-requires-clause-tops : goal.push_row-requires-clause-tops
push_row-requires-clause-tops c =
    let some : 1 ≤ c.len-u.result = (let k = c.len-u.ensures in let h = c.requires.some in omega (arith, k, h)) in
    ap length c.deref-in-loop-i-3.ensures.value
    ∙ elim c.if-i-len.branch [
      | then-i-len+in_ok-tops w ↦ ap (λ v. length v.items) w.tops-is ∙ ap length w.in_ok-tops.ensures ∙ upright_length _ _ _
      | else-i-len+in_ok-tops-2 w ↦
          ap (λ v. length v.items) w.tops-is ∙ ap length w.in_ok-tops-2.ensures ∙ length-reverse _ ∙ ap length w.deref-else-i-len.ensures.value ∙ c.requires.under ∙ (let k = c.len-u.ensures in omega (arith, k))
    ]
    ∙ sym (ap length c.deref-in-loop-i-2.ensures.value ∙ ap length c.in_ok-line.ensures ∙ line_length _ _ _ _ some)

pub loop-i-preserved : goal.loop-i-preserved
loop-i-preserved c =
    let i = c.loop-i.i in
    let wests = c.in_ok-wests.wests.items in
    let easts = c.args.ends.now.b.items in
    let north = reverse c.args.ends.now.c.items in
    let tops = c.if-i-len.tops.items in
    let u = c.len-u.result in
    let listed = c.deref-east-items.ensures.value in
    let within : i < length easts = (let l = ap length listed in omega (arith, l)) in
    let same : length wests ≡ length easts = ap length c.in_ok-wests.ensures ∙ length-reverse _ ∙ ap length c.deref.ensures.value ∙ c.requires.over in
    let which : ((i + 1 < length easts) × (tops ≡ upright_names c.args.k u i)) ⊎ ((length easts ≤ i + 1) × (tops ≡ north)) =
    elim c.if-i-len.branch [
      | then-i-len+in_ok-tops w ↦ inl ((let t = w.if-i-len.true in let k = c.len.ensures in omega (arith, t, k)), ap (λ v. v.items) w.tops-is ∙ w.in_ok-tops.ensures)
      | else-i-len+in_ok-tops-2 w ↦ inr ((let t = w.if-i-len.false in let k = c.len.ensures in omega (arith, t, k)), ap (λ v. v.items) w.tops-is ∙ w.in_ok-tops-2.ensures ∙ ap reverse w.deref-else-i-len.ensures.value)
    ] in
    let high : length tops ≡ u =
    elim c.if-i-len.branch [
      | then-i-len+in_ok-tops w ↦ ap (λ v. length v.items) w.tops-is ∙ ap length w.in_ok-tops.ensures ∙ upright_length _ _ _
      | else-i-len+in_ok-tops-2 w ↦
          ap (λ v. length v.items) w.tops-is ∙ ap length w.in_ok-tops-2.ensures ∙ length-reverse _ ∙ ap length w.deref-else-i-len.ensures.value ∙ c.requires.under ∙ (let k = c.len-u.ensures in omega (arith, k))
    ] in
    let line = ap (λ es. line_names c.args.k u i ++ get_or es i 0 ∷ []) listed in
    let pushed = same_row c.args.params.now c.args.group c.push_row.new.nodes.items c.loop-i.nodes.items _ _ _ c.loop-i.bottoms.items (line_names c.args.k u i ++ get_or easts i 0 ∷ []) tops _ (get_or wests i 0)
    c.in_ok-push_row.ensures c.deref-in-loop-i.ensures.value (c.index.ensures ∙ get_or_default_zero wests i c.index.result.now (omega (arith, within, same)))
    (c.deref-in-loop-i-2.ensures.value ∙ c.in_ok-line.ensures ∙ line) c.deref-in-loop-i-3.ensures.value in
    (pushed_row c.args.params.now c.args.group c.args.k u c.loop-i.bottoms.items wests easts north tops c.push_row.new.nodes.items c.loop-i.nodes.items _ i same within which pushed c.loop-i.invariant.0, high)
