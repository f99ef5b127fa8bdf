use Rattle.std.proofs.Common.{◌≡◌, ◌+◌, ◌++◌, take, take_all, map, length, zip, ap, ◌∙◌, arith}
use Rattle.std.specs.List.{range_with_len}
use Rattle.std.proofs.lemmas.Grind.{common_steps}
use Rattle.std.proofs.lemmas.List.FromFn.{length-range_with_len}
use Rattle.plain_sum.proofs.Placed.{edges_more}
use Rattle.plain_sum.proofs.sum.edges_behind.Goals as goal

pub loop-place-preserved : goal.loop-place-preserved
loop-place-preserved c =
    let m = edges_more c.args.start c.args.partners.now c.loop-place.place (omega arith) in
    let n = ap (λ es. c.args.edges.now ++ es) m in
    grind (arith, common_steps, n, c.in_ok-push.ensures.items)

pub returns : goal.returns
returns c =
    let n = length-range_with_len c.args.start (length c.args.partners.now) in
    let all : length c.args.partners.now ≡ c.loop-place.place = omega arith in
    c.loop-place.invariant
    ∙ ap (λ ps. c.args.edges.now ++ zip (take c.loop-place.place (range_with_len c.args.start (length c.args.partners.now))) (map (λ partner. c.args.start + partner) ps)) (take_all c.loop-place.place c.args.partners.now (omega arith))
    ∙ ap (λ xs. c.args.edges.now ++ zip xs (map (λ partner. c.args.start + partner) c.args.partners.now)) (take_all c.loop-place.place (range_with_len c.args.start (length c.args.partners.now)) (omega (arith, n, all)))
