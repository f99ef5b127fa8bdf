use Rattle.std.proofs.Common.{◌≡◌, ◌+◌, ◌<◌, pos, ◌*ℤ◌, [], length, get_or, sym, ap, ap₂, subst, ◌∙◌, arith, inl, inr, ⊎_elim}
use Rattle.ring_identities.specs.Residues.{residue}
use Rattle.planar_check.specs.Components.{greatest}
use Rattle.skein_network.specs.Refusals.{net_refusal}
use Rattle.strand_algebra.specs.Projectors.{inverse_of}
use Rattle.wenzl_table.specs.Inverses.{IsFirstCommon}
use Rattle.tetra_reader.specs.Tetras.{faces_of}
use Rattle.tetra_sum.specs.Nets.{theta_net, theta}
use Rattle.tetra_sum.specs.Refusals.{face_refusal, face_refusal_at}
use Rattle.tetra_sum.specs.Sums.{text_labels, colours_at, theta_inverse_at}
use Rattle.tetra_sum.proofs.FactorSteps.{along_start, along_next, along_refused}
use Rattle.tetra_sum.proofs.NetTurns.{ready_face, no_common}
use Rattle.tetra_sum.proofs.ReadyNets.{faces_at_most}
use Rattle.tetra_sum.proofs.products.theta_inverses.Goals as goal

pub loop-i-init : goal.loop-i-init
loop-i-init c =
    let p = c.args.table.now.params in
    let vs = c.args.tetra.now in
    let labels = text_labels vs in
    let colours = c.args.colouring.now.colours.now in
    along_start c.args.table.now theta_net (theta_inverse_at p labels colours) (face_refusal_at p labels c.args.colouring.now.number colours) (faces_of vs) c.args.notes.now c.args.store.now c.requires.of c.requires.net c.requires.store

pub overflow_cast-face : goal.overflow_cast-face
overflow_cast-face c =
    let few = faces_at_most c.args.tetra.now c.faces-faces.ensures.tetra in
    let count = ap length c.faces-faces.ensures.faces in
    omega (arith, few, count, c.loop-i-test.true)

pub overflow_add-face : goal.overflow_add-face
overflow_add-face c =
    let few = faces_at_most c.args.tetra.now c.faces-faces.ensures.tetra in
    let count = ap length c.faces-faces.ensures.faces in
    omega (arith, few, count, c.loop-i-test.true)

pub inverse_theta-requires-clause-fits : goal.inverse_theta-requires-clause-fits
inverse_theta-requires-clause-fits c =
    let vs = c.args.tetra.now in
    let i = c.loop-i.i in
    let count = ap length c.faces-faces.ensures.faces in
    let below : i < length (faces_of vs) = omega (arith, count, c.loop-i-test.true) in
    let at = c.face_colours-colours.ensures ∙ ap₂ (λ ls fs. colours_at ls c.args.colouring.now.colours.now (get_or fs i [])) c.requires.labels c.faces-faces.ensures.faces in
    ap (net_refusal c.args.table.now.top theta_net) at ∙ (ready_face c.args.table.now vs c.args.colouring.now.colours.now c.requires.ready c.faces-faces.ensures.tetra i below).none

pub inverse_theta-requires-clause-inverses : goal.inverse_theta-requires-clause-inverses
inverse_theta-requires-clause-inverses c =
    let vs = c.args.tetra.now in
    let i = c.loop-i.i in
    let colours = c.args.colouring.now.colours.now in
    let count = ap length c.faces-faces.ensures.faces in
    let below : i < length (faces_of vs) = omega (arith, count, c.loop-i-test.true) in
    let at = c.face_colours-colours.ensures ∙ ap₂ (λ ls fs. colours_at ls colours (get_or fs i [])) c.requires.labels c.faces-faces.ensures.faces in
    λ index common h.
    no_common c.args.table.now vs colours c.requires.ready theta_net (colours_at (text_labels vs) colours (get_or (faces_of vs) i []))
    (ready_face c.args.table.now vs colours c.requires.ready c.faces-faces.ensures.tetra i below) index common (subst (λ list. IsFirstCommon c.args.table.now.params (greatest list) index common) at h)

pub returns-in-Err-clause-refused : goal.returns-in-Err-clause-refused
returns-in-Err-clause-refused c =
    let p = c.args.table.now.params in
    let vs = c.args.tetra.now in
    let labels = text_labels vs in
    let i = c.loop-i.i in
    let colours = c.args.colouring.now.colours.now in
    let number = c.args.colouring.now.number in
    let count = ap length c.faces-faces.ensures.faces in
    let below : i < length (faces_of vs) = omega (arith, count, c.loop-i-test.true) in
    let at = c.face_colours-colours.ensures ∙ ap₂ (λ ls fs. colours_at ls colours (get_or fs i [])) c.requires.labels c.faces-faces.ensures.faces in
    ⊎_elim inl
    (λ e. inr
    (along_refused c.args.table.now theta_net (theta_inverse_at p labels colours) (face_refusal_at p labels number colours) (faces_of vs) c.args.notes.now c.loop-i.notes c.loop-i.store i c.loop-i.product below
    c.loop-i.invariant c.in-Err.fault (sym (ap (face_refusal p number (i + 1)) at) ∙ e)))
    c.in-Err.ensures.refused

pub loop-i-preserved : goal.loop-i-preserved
loop-i-preserved c =
    let p = c.args.table.now.params in
    let vs = c.args.tetra.now in
    let labels = text_labels vs in
    let i = c.loop-i.i in
    let colours = c.args.colouring.now.colours.now in
    let number = c.args.colouring.now.number in
    let count = ap length c.faces-faces.ensures.faces in
    let below : i < length (faces_of vs) = omega (arith, count, c.loop-i-test.true) in
    let at = c.face_colours-colours.ensures ∙ ap₂ (λ ls fs. colours_at ls colours (get_or fs i [])) c.requires.labels c.faces-faces.ensures.faces in
    let ring_is : c.ring.result.now ≡ p.modulus = c.ring.ensures ∙ ap (λ q. q.modulus) c.params.ensures in
    let found = c.in-Ok.ensures in
    along_next c.args.table.now theta_net (theta_inverse_at p labels colours) (face_refusal_at p labels number colours) (faces_of vs) c.args.notes.now c.loop-i.notes c.loop-i.store i c.loop-i.product below
    c.loop-i.invariant c.inverse_theta.new.notes c.inverse_theta.new.store c.in-Ok.inverse c.mul-product.result c.inverse_theta.ensures.of c.inverse_theta.ensures.kept c.inverse_theta.ensures.net found.store
    (ap pos (found.value ∙ ap (λ list. inverse_of p.modulus (theta p list)) at)) (sym (ap (face_refusal p number (i + 1)) at) ∙ found.none)
    (c.mul-product.ensures.product ∙ ap (λ m. residue m (pos c.loop-i.product *ℤ pos c.in-Ok.inverse)) ring_is) (omega (arith, c.mul-product.ensures.below, ring_is))
