use Rattle.std.proofs.Common.{◌<◌, ◌+◌, ◌%◌, List, [], length, get_or, slice_index, sym, ap, subst, ◌∙◌, arith}
use Rattle.std.proofs.lemmas.List.{get_or_default}
use Rattle.std.proofs.lemmas.List.Elements.{All-get_or}
use Rattle.state_sums.specs.Networks.{Node}
use Rattle.frontier_laws.specs.Rises.{rise}
use Rattle.frontier_sweep.proofs.RiseLemmas.{AreRefreshedAt, refreshed_more, refreshed_past, refreshed_all}
use Rattle.frontier_sweep.proofs.rises.refresh_at.Goals as goal
use Rattle.frontier_sweep.proofs.rises.refresh_at.Goals.{then-place-taken, else-place-taken}

pub loop-at-preserved : goal.loop-at-preserved
loop-at-preserved c =
    let nodes = c.args.network.now.nodes in
    let names = c.args.names.now in
    let index = c.args.index.now in
    let taken = c.args.taken in
    let low = c.first_from-low.result in
    let at = c.loop-at.at in
    let place = slice_index index at % 65536 in
    let h = c.loop-at.invariant in
    elim c.if-place-taken.branch [
      | then-place-taken w ↦
          let below = All-get_or (λ key. key % 65536 < length nodes) index at 0 c.loop-at-test.true c.requires.index.below in
          let node =
          w.index-nodes-place.is
          ∙ ap (λ (nodes : List Node). get_or nodes place w.index-nodes-place.result) w.nodes.ensures.value
          ∙ get_or_default nodes place w.index-nodes-place.result record { group = 0; ends = []; terms = [] } below in
          subst (AreRefreshedAt nodes names index c.args.each.now taken low (at + 1)) (sym w.each-is)
          (refreshed_more nodes names index c.args.each.now taken low at c.loop-at.each h w.rise.result below (w.rise.ensures ∙ ap (rise names) (w.ends.ensures.value ∙ ap (λ (node : Node). node.ends) node)))
      | else-place-taken w ↦
          subst (AreRefreshedAt nodes names index c.args.each.now taken low (at + 1)) (sym w.each-is)
          (refreshed_past nodes names index c.args.each.now taken low at c.loop-at.each h w.if-place-taken.false)
    ]

pub returns-after-loop-at-clause-right : goal.returns-after-loop-at-clause-right
returns-after-loop-at-clause-right c =
    let first = c.place_key-first.ensures in
    let end = c.loop-at-test.false in
    refreshed_all c.args.network.now.nodes c.args.names.now c.args.index.now c.args.each.now c.args.taken c.first_from-low.result c.loop-at.at c.loop-at.each c.loop-at.invariant c.requires.index c.args.end
    (λ k less. let below = c.first_from-low.ensures.before k less in omega (arith, below, first))
    (λ k more within. absurd (omega (arith, more, within, end)))

pub returns-then-key-first-clause-right : goal.returns-then-key-first-clause-right
returns-then-key-first-clause-right c =
    let first = c.place_key-first.ensures in
    let far = c.if-key-first.true in
    refreshed_all c.args.network.now.nodes c.args.names.now c.args.index.now c.args.each.now c.args.taken c.first_from-low.result c.loop-at.at c.loop-at.each c.loop-at.invariant c.requires.index c.args.end
    (λ k less. let below = c.first_from-low.ensures.before k less in omega (arith, below, first))
    (λ k more within. let up = c.requires.index.increasing c.loop-at.at k 0 more within in omega (arith, up, far, first))
