use Rattle.std.proofs.Common.{◌≡◌, pos, ◌*ℤ◌, sym, ap, ◌∙◌, arith}
use Rattle.ring_identities.specs.Residues.{residue}
use Rattle.coloured_values.specs.Surgery.{deltas}
use Rattle.tetra_reader.specs.Tetras.{faces_of, tetrahedra_of}
use Rattle.tetra_sum.specs.Sums.{text_labels, tets, theta_inverses}
use Rattle.tetra_sum.proofs.ProductSteps.{three_factors}
use Rattle.tetra_sum.proofs.WalkSteps.{admitted_weight}
use Rattle.tetra_sum.proofs.weight.weight.Goals as goal

pub returns-clause-value : goal.returns-clause-value
returns-clause-value c =
    let p = c.args.table.now.params in
    let vs = c.args.tetra.now in
    let colours = c.args.colouring.now.colours.now in
    let low = p.meets.modulus.0 in
    let ring_is : c.ring-ring.result.now ≡ p.modulus = c.ring-ring.ensures ∙ ap (λ q. q.modulus) c.params-params.ensures in
    three_factors p.modulus (deltas p colours) (tets p (text_labels vs) colours (tetrahedra_of vs)) (theta_inverses p (text_labels vs) colours (faces_of vs)) c.deltas.result c.in-Ok-tets.values
    c.in-Ok.inverses c.mul-front.result c.mul.result (omega (arith, low)) (c.deltas.ensures.value ∙ ap (λ q. residue q.modulus (deltas q colours)) c.params-params.ensures) c.in-Ok-tets.ensures.value
    c.in-Ok.ensures.value (c.mul-front.ensures.product ∙ ap (λ m. residue m (pos c.deltas.result *ℤ pos c.in-Ok-tets.values)) ring_is)
    (c.mul.ensures.product ∙ ap (λ m. residue m (pos c.mul-front.result *ℤ pos c.in-Ok.inverses)) ring_is)
    ∙ ap (residue p.modulus) (sym (admitted_weight p vs colours c.requires.ready.allowed))
