use Rattle.std.proofs.Common.{◌++◌, List, ℕ, reverse, ap, subst, ◌∙◌}
use Rattle.std.proofs.lemmas.Result.{on_ok_weaker}
use Rattle.skein_network.specs.Edges.{strands_at}
use Rattle.skein_network.specs.Colourings.{strands_in}
use Rattle.skein_network.specs.Boxes.{boxes_at}
use Rattle.skein_network.specs.Standings.{AreAtVertex}
use Rattle.skein_network.proofs.ItemNodes.{fits_vertex, pushed_vertex}
use Rattle.skein_network.proofs.item.push_vertex_item.Goals as goal

pub push_vertex-requires : goal.push_vertex-requires
push_vertex-requires c =
    let p = c.args.colouring.now.params.now in
    let at = subst (λ es. AreAtVertex (strands_at p es) (reverse c.args.seen.now.items) c.args.slots.now c.in_ok-ends.ends) c.deref-2.ensures.value (c.in_ok-ends.ensures.names p) in
    let fits = fits_vertex p c.args.colouring.now.edges.items c.requires.ready.few (reverse c.args.seen.now.items) c.args.slots.now c.in_ok-ends.ends c.requires.fits at in
    record { first = fits.first; second = fits.second; third = fits.third; admissible = fits.admissible }

pub returns-clause-nodes : goal.returns-clause-nodes
returns-clause-nodes c =
    let p = c.args.colouring.now.params.now in
    let strands = strands_in c.args.colouring.now in
    let seen = reverse c.args.seen.now.items in
    let at = subst (λ es. AreAtVertex (strands_at p es) seen c.args.slots.now c.in_ok-ends.ends) c.deref-2.ensures.value (c.in_ok-ends.ensures.names p) in
    let boxes = c.in_ok-push_boxes.ensures ∙ ap (λ (s : List ℕ). c.args.nodes.now.items ++ boxes_at strands c.args.group (reverse s) c.args.slots.now) c.deref.ensures.value in
    on_ok_weaker c.push_vertex.result
    (λ pushed index. pushed_vertex strands p c.args.group index seen c.args.nodes.now.items c.push_boxes.new.nodes.items c.push_vertex.new.nodes.items c.args.slots.now c.in_ok-ends.ends at boxes pushed)
    c.push_vertex.ensures
