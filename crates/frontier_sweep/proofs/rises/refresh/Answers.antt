use Rattle.std.proofs.Common.{rules, ◌≡◌, ◌==◌, ◌+◌, false, slice_index, refl, sym, subst}
use Rattle.std.specs.Set.{is_member}
use Rattle.frontier_sweep.proofs.RiseLemmas.{AreRefreshed, refreshed_end, refreshed_none, refreshed_whole}
use Rattle.frontier_sweep.proofs.rises.refresh.Goals as goal
use Rattle.frontier_sweep.proofs.rises.refresh.Goals.{then-contains, else-contains}

pub loop-end-preserved : goal.loop-end-preserved
loop-end-preserved c =
    let nodes = c.args.network.now.nodes in
    let names = c.args.names.now in
    let ends = c.args.ends.now in
    let old = c.args.each.now in
    let taken = c.args.taken in
    let at = c.loop-end.end-index in
    let h = c.loop-end.invariant in
    elim c.if-contains.branch [
      | then-contains w ↦
          subst (AreRefreshed nodes names ends old taken (at + 1)) (sym w.each-is)
          (refreshed_end nodes names ends old taken at c.loop-end.each h _ refl w.refresh_at.new.each w.refresh_at.ensures.whole (λ shown. w.refresh_at.ensures.right) w.refresh_at.ensures.stays)
      | else-contains w ↦
          subst (AreRefreshed nodes names ends old taken (at + 1)) (sym w.each-is)
          (refreshed_none nodes names ends old taken at c.loop-end.each h (slice_index ends at) refl (let none : is_member ◌==◌ names (slice_index ends at) ≡ false = search rules in none))
    ]

pub returns : goal.returns
returns c before left next was after =
    refreshed_whole c.args.network.now.nodes c.args.names.now c.args.ends.now c.args.each.now c.loop-end.each c.args.taken c.loop-end.end-index c.loop-end-test.false c.loop-end.invariant before left next was after
