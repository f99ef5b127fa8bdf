use Rattle.std.proofs.Common.{◌≡◌, ◌+◌, ◌-◌, ◌==◌, length, get_or, drop, length-drop, take_all, ap, ◌∙◌, arith}
use Rattle.std.specs.List.{list_any}
use Rattle.std.specs.Set.{is_member}
use Rattle.std.proofs.lemmas.Bool.Decides.{nat_tests}
use Rattle.plain_sum.proofs.Labelled.{distinct_step, any_turned}
use Rattle.plain_sum.proofs.parts.distinct.Goals as goal
use Rattle.plain_sum.proofs.parts.distinct.Goals.{then-not-contains, else-not-contains}

pub loop-at-preserved : goal.loop-at-preserved
loop-at-preserved c =
    let xs = c.args.labels.now in
    let rest = drop (c.loop-at.at + 1) xs in
    let step = distinct_step xs c.loop-at.at c.loop-at-test.true in
    let n = length-drop (c.loop-at.at + 1) xs in
    let found : c.contains.result ≡ is_member ◌==◌ rest (get_or xs c.loop-at.at 0) =
    c.contains.ensures.value ∙ ap (list_any (λ y. y == get_or xs c.loop-at.at 0)) (take_all (length xs - (c.loop-at.at + 1)) rest (omega (arith, n))) ∙ any_turned rest (get_or xs c.loop-at.at 0) in
    let before = c.loop-at.invariant.0 in
    let few = c.loop-at.invariant.1 in
    elim c.if-not-contains.branch [
      | then-not-contains w ↦ (let t = w.if-not-contains.true in let e = w.count-is in (grind (arith, nat_tests, step, found, before, t, e), omega (arith, few, e)))
      | else-not-contains w ↦ (let t = w.if-not-contains.false in let e = w.count-is in (grind (arith, nat_tests, step, found, before, t, e), omega (arith, few, e)))
    ]
