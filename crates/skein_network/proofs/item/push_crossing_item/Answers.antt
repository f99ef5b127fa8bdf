use Rattle.std.proofs.Common.{◌++◌, List, ℕ, reverse, ap, subst, ◌∙◌}
use Rattle.std.proofs.lemmas.Result.{on_ok_weaker}
use Rattle.skein_network.specs.Edges.{strands_at}
use Rattle.skein_network.specs.Colourings.{strands_in}
use Rattle.skein_network.specs.Boxes.{boxes_at}
use Rattle.skein_network.specs.Standings.{AreAtCrossing}
use Rattle.skein_network.proofs.ItemNodes.{fits_grid, pushed_crossing}
use Rattle.skein_network.proofs.item.push_crossing_item.Goals as goal

pub push_crossing-requires : goal.push_crossing-requires
push_crossing-requires c =
    let p = c.args.colouring.now.params.now in
    let at = subst (λ es. AreAtCrossing (strands_at p es) (reverse c.args.seen.now.items) c.args.slots.now c.in_ok-ends.ends) c.deref-2.ensures.value (c.in_ok-ends.ensures.names p) in
    let fits = fits_grid p c.args.colouring.now.edges.items c.requires.ready.few (reverse c.args.seen.now.items) c.args.slots.now c.in_ok-ends.ends c.requires.fits at in
    record { item = c.requires.item; columns = fits.columns; rows = fits.rows; under = fits.under; over = fits.over }

pub returns-clause-nodes : goal.returns-clause-nodes
returns-clause-nodes c =
    let p = c.args.colouring.now.params.now in
    let strands = strands_in c.args.colouring.now in
    let seen = reverse c.args.seen.now.items in
    let at = subst (λ es. AreAtCrossing (strands_at p es) seen c.args.slots.now c.in_ok-ends.ends) c.deref-2.ensures.value (c.in_ok-ends.ensures.names p) in
    let boxes = c.in_ok-push_boxes.ensures ∙ ap (λ (s : List ℕ). c.args.nodes.now.items ++ boxes_at strands c.args.group (reverse s) c.args.slots.now) c.deref.ensures.value in
    on_ok_weaker c.push_crossing.result
    (λ pushed. pushed_crossing strands p c.args.group c.args.k seen c.args.nodes.now.items c.push_boxes.new.nodes.items c.push_crossing.new.nodes.items c.args.slots.now c.in_ok-ends.ends at boxes pushed)
    c.push_crossing.ensures
