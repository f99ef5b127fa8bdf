use Rattle.std.proofs.Common.{◌≡◌, ◌==◌, length, get_or, [], sym, ap, ◌∙◌, Err, arith, subst, true, refl}
use Rattle.std.specs.Set.{is_member}
use Rattle.list_lemmas.specs.Times.{times_in}
use Rattle.state_sums.specs.Networks.{names_of}
use Rattle.pd_reader.specs.declared.item.NetItem.TheVariants.{X}
use Rattle.cables.proofs.CableLaws.{cable_network}
use Rattle.cables.specs.Nets.{projector_of}
use Rattle.cables.proofs.ProjectorBoxes.{projector_boxes}
use Rattle.skein_network.specs.Edges.{colour_at, boxed_at}
use Rattle.skein_network.specs.Colourings.{strands_in}
use Rattle.skein_network.specs.Progress.{standing_of}
use Rattle.skein_network.proofs.Progresses.{item_low, along_next, along_end}
use Rattle.skein_network.proofs.Ends.{none_left}
use Rattle.skein_network.proofs.Miscounts.{never_miscounted}
use Rattle.skein_network.proofs.network.cable_items.Goals as goal

pub push_item-requires-clause-low : goal.push_item-requires-clause-low
push_item-requires-clause-low c =
    let i = c.loop-item.item-index in
    item_low c.args.items.now i (get_or c.args.items.now i (X [])) (omega arith) refl c.requires.net.in_range

pub loop-item-preserved : goal.loop-item-preserved
loop-item-preserved c =
    let i = c.loop-item.item-index in
    let items = c.args.items.now in
    along_next c.args.colouring.now.params.now (strands_in c.args.colouring.now) items i (get_or items i (X []))
    c.loop-item.progress.nodes.items c.push_item.new.progress.nodes.items c.loop-item.progress.free c.push_item.new.progress.free (standing_of c.loop-item.progress) (standing_of c.push_item.new.progress)
    (omega arith) refl c.loop-item.invariant c.in_ok-push_item.ensures.nodes c.in_ok-push_item.ensures.standing c.in_ok-push_item.ensures.free

pub unreachable-requires : goal.unreachable-requires
unreachable-requires c =
    let e = (c.new-3.ensures.too_many c.in-Err-TooMany.field-0-0).0 (c.in-Err-TooMany.is ∙ ap Err c.in-Err-TooMany.field-0-is) in
    let items = c.args.items.now in
    let edges = c.args.colouring.now.edges.items in
    let box = projector_of c.args.colouring.now.params.now in
    let done = along_end c.args.colouring.now.params.now (strands_in c.args.colouring.now) items c.loop-item.item-index c.loop-item.progress.nodes.items c.loop-item.progress.free (standing_of c.loop-item.progress) (none_left items c.loop-item.item-index c.loop-item-test.false) c.loop-item.invariant in
    let small = cable_network c.args.colouring.now.params.now (colour_at edges) (boxed_at edges) box items c.requires.net c.requires.ready.few (projector_boxes c.args.colouring.now.params.now) c.requires.fits in
    let n = ap length done.0 in
    let few = small.few_nodes in
    let f = done.1 in
    let loops = small.few_loops in
    let many = e.0 in
    omega (arith, many, n, few, f, loops)

pub unreachable-requires-in-Err-Name : goal.unreachable-requires-in-Err-Name
unreachable-requires-in-Err-Name c =
    let e = c.new-3.ensures.name c.in-Err-Name.field-0-0 c.in-Err-Name.field-0-1 (c.in-Err-Name.is ∙ ap Err c.in-Err-Name.field-0-is) in
    let items = c.args.items.now in
    let edges = c.args.colouring.now.edges.items in
    let box = projector_of c.args.colouring.now.params.now in
    let done = along_end c.args.colouring.now.params.now (strands_in c.args.colouring.now) items c.loop-item.item-index c.loop-item.progress.nodes.items c.loop-item.progress.free (standing_of c.loop-item.progress) (none_left items c.loop-item.item-index c.loop-item-test.false) c.loop-item.invariant in
    let small = cable_network c.args.colouring.now.params.now (colour_at edges) (boxed_at edges) box items c.requires.net c.requires.ready.few (projector_boxes c.args.colouring.now.params.now) c.requires.fits in
    never_miscounted (names_of c.loop-item.progress.nodes.items) c.in-Err-Name.field-0-0 c.in-Err-Name.field-0-1
    (λ x. subst (λ ns. is_member ◌==◌ (names_of ns) x ≡ true → times_in (names_of ns) x ≡ 2) (sym done.0) (small.is_network.twice x)) e
