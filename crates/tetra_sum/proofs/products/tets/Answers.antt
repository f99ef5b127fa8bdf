use Rattle.std.proofs.Common.{◌≡◌, ◌<◌, pos, ◌*ℤ◌, [], length, get_or, sym, ap, ap₂, subst, ◌∙◌, arith, inl, inr, ⊎_elim}
use Rattle.ring_identities.specs.Residues.{residue}
use Rattle.planar_check.specs.Components.{greatest}
use Rattle.skein_network.specs.Refusals.{net_refusal}
use Rattle.wenzl_table.specs.Inverses.{IsFirstCommon}
use Rattle.tetra_reader.specs.Tetras.{tetrahedra_of}
use Rattle.tetra_sum.specs.Nets.{tetrahedron_net, tet}
use Rattle.tetra_sum.specs.Refusals.{tetrahedron_refusal, tetrahedron_refusal_at}
use Rattle.tetra_sum.specs.Sums.{text_labels, colours_at, tet_at}
use Rattle.tetra_sum.proofs.FactorSteps.{along_start, along_next, along_refused}
use Rattle.tetra_sum.proofs.NetTurns.{ready_tetrahedron, no_common}
use Rattle.tetra_sum.proofs.products.tets.Goals as goal

pub loop-tetrahedron-init : goal.loop-tetrahedron-init
loop-tetrahedron-init c =
    let p = c.args.table.now.params in
    let vs = c.args.tetra.now in
    let labels = text_labels vs in
    let colours = c.args.colouring.now.colours.now in
    along_start c.args.table.now tetrahedron_net (tet_at p labels colours) (tetrahedron_refusal_at p labels c.args.colouring.now.number colours) (tetrahedra_of vs) c.args.notes.now c.args.store.now c.requires.of c.requires.net c.requires.store

pub tet_value-requires-clause-fits : goal.tet_value-requires-clause-fits
tet_value-requires-clause-fits c =
    let vs = c.args.tetra.now in
    let i = c.loop-tetrahedron.tetrahedron-index in
    let count = ap length c.tetrahedra-tetrahedron-items.ensures.tetrahedra in
    let below : i < length (tetrahedra_of vs) = omega (arith, count, c.loop-tetrahedron-test.true) in
    let at = c.tetrahedron_colours-colours.ensures ∙ ap₂ (λ ls fs. colours_at ls c.args.colouring.now.colours.now (get_or fs i [])) c.requires.labels c.tetrahedra-tetrahedron-items.ensures.tetrahedra in
    ap (net_refusal c.args.table.now.top tetrahedron_net) at ∙ (ready_tetrahedron c.args.table.now vs c.args.colouring.now.colours.now c.requires.ready c.tetrahedra-tetrahedron-items.ensures.tetra i below).none

pub tet_value-requires-clause-inverses : goal.tet_value-requires-clause-inverses
tet_value-requires-clause-inverses c =
    let vs = c.args.tetra.now in
    let i = c.loop-tetrahedron.tetrahedron-index in
    let colours = c.args.colouring.now.colours.now in
    let count = ap length c.tetrahedra-tetrahedron-items.ensures.tetrahedra in
    let below : i < length (tetrahedra_of vs) = omega (arith, count, c.loop-tetrahedron-test.true) in
    let at = c.tetrahedron_colours-colours.ensures ∙ ap₂ (λ ls fs. colours_at ls colours (get_or fs i [])) c.requires.labels c.tetrahedra-tetrahedron-items.ensures.tetrahedra in
    λ index common h.
    no_common c.args.table.now vs colours c.requires.ready tetrahedron_net (colours_at (text_labels vs) colours (get_or (tetrahedra_of vs) i []))
    (ready_tetrahedron c.args.table.now vs colours c.requires.ready c.tetrahedra-tetrahedron-items.ensures.tetra i below) index common (subst (λ list. IsFirstCommon c.args.table.now.params (greatest list) index common) at h)

pub returns-in-Err-clause-refused : goal.returns-in-Err-clause-refused
returns-in-Err-clause-refused c =
    let p = c.args.table.now.params in
    let vs = c.args.tetra.now in
    let labels = text_labels vs in
    let i = c.loop-tetrahedron.tetrahedron-index in
    let colours = c.args.colouring.now.colours.now in
    let number = c.args.colouring.now.number in
    let count = ap length c.tetrahedra-tetrahedron-items.ensures.tetrahedra in
    let below : i < length (tetrahedra_of vs) = omega (arith, count, c.loop-tetrahedron-test.true) in
    let at = c.tetrahedron_colours-colours.ensures ∙ ap₂ (λ ls fs. colours_at ls colours (get_or fs i [])) c.requires.labels c.tetrahedra-tetrahedron-items.ensures.tetrahedra in
    ⊎_elim inl
    (λ e. inr
    (along_refused c.args.table.now tetrahedron_net (tet_at p labels colours) (tetrahedron_refusal_at p labels number colours) (tetrahedra_of vs) c.args.notes.now c.loop-tetrahedron.notes c.loop-tetrahedron.store i c.loop-tetrahedron.product below
    c.loop-tetrahedron.invariant c.in-Err.fault (sym (ap (tetrahedron_refusal p number) at) ∙ e)))
    c.in-Err.ensures.refused

pub loop-tetrahedron-preserved : goal.loop-tetrahedron-preserved
loop-tetrahedron-preserved c =
    let p = c.args.table.now.params in
    let vs = c.args.tetra.now in
    let labels = text_labels vs in
    let i = c.loop-tetrahedron.tetrahedron-index in
    let colours = c.args.colouring.now.colours.now in
    let number = c.args.colouring.now.number in
    let count = ap length c.tetrahedra-tetrahedron-items.ensures.tetrahedra in
    let below : i < length (tetrahedra_of vs) = omega (arith, count, c.loop-tetrahedron-test.true) in
    let at = c.tetrahedron_colours-colours.ensures ∙ ap₂ (λ ls fs. colours_at ls colours (get_or fs i [])) c.requires.labels c.tetrahedra-tetrahedron-items.ensures.tetrahedra in
    let ring_is : c.ring.result.now ≡ p.modulus = c.ring.ensures ∙ ap (λ q. q.modulus) c.params.ensures in
    let found = c.in-Ok.ensures in
    along_next c.args.table.now tetrahedron_net (tet_at p labels colours) (tetrahedron_refusal_at p labels number colours) (tetrahedra_of vs) c.args.notes.now c.loop-tetrahedron.notes c.loop-tetrahedron.store i c.loop-tetrahedron.product below
    c.loop-tetrahedron.invariant c.tet_value.new.notes c.tet_value.new.store c.in-Ok.value c.mul-product.result c.tet_value.ensures.of c.tet_value.ensures.kept c.tet_value.ensures.net found.store
    (ap pos (found.value ∙ ap (λ list. tet p list) at)) (sym (ap (tetrahedron_refusal p number) at) ∙ found.none)
    (c.mul-product.ensures.product ∙ ap (λ m. residue m (pos c.loop-tetrahedron.product *ℤ pos c.in-Ok.value)) ring_is) (omega (arith, c.mul-product.ensures.below, ring_is))
