-- A turn moves one component's factor.
use Rattle.std.proofs.Common.{◌≡◌, ◌+◌, ◌-◌, ◌<◌, length, get_or, pos, ◌*ℤ◌, ◌-ℤ◌, ap, ◌∙◌, arith}
use Rattle.ring_identities.specs.Residues.{residue}
use Rattle.root_quantum.specs.QuantumNumbers.{delta, twist}
use Rattle.planar_check.specs.Components.{least_labels}
use Rattle.planar_check.specs.Signs.{writhe}
use Rattle.kirby_terms.proofs.Weights.{no_factor, one_factor, all_factors}
use Rattle.kirby_terms.proofs.colour_term.weight.Goals as goal

pub loop-place-init : goal.loop-place-init
loop-place-init c =
    let p = c.args.params.now in
    record { below = p.meets.modulus.0; left = no_factor p c.args.framed.now.items c.args.framed.now.framings c.args.colours.now }

pub loop-place-preserved : goal.loop-place-preserved
loop-place-preserved c =
    let p = c.args.params.now in
    let d = c.args.framed.now in
    let k = c.loop-place.place in
    let n = get_or c.args.colours.now k 0 in
    let items = ap (λ xs. length (least_labels xs)) c.planar.ensures.planar in
    let framings : k < length d.framings = omega (arith, c.loop-place-test.true, c.components-place-end.ensures.count, items, c.planar.ensures.framed.count) in
    let colours : k < length c.args.colours.now = omega (arith, c.loop-place-test.true, c.components-place-end.ensures.count, items, c.requires.count) in
    let again : k + 1 - 1 ≡ k = omega arith in
    record {
      below = omega (arith, c.mul-product.ensures.below, c.ring-ring.ensures);
      left =
          one_factor p d.items k c.loop-place.product c.factor.result c.mul-product.result d.framings c.args.colours.now framings colours c.loop-place.invariant.left
          (c.factor.ensures.value ∙ ap (λ j. residue p.modulus (pos (delta p n) *ℤ pos (twist p n (get_or d.framings j (pos 0) -ℤ writhe d.items (k + 1))))) again)
          (c.mul-product.ensures.product ∙ ap (λ m. residue m (pos c.loop-place.product *ℤ pos c.factor.result)) c.ring-ring.ensures);
    }

pub returns-clause-value : goal.returns-clause-value
returns-clause-value c =
    let d = c.args.framed.now in
    let items = ap (λ xs. length (least_labels xs)) c.planar.ensures.planar in
    all_factors c.args.params.now d.items c.loop-place.place c.loop-place.product d.framings c.args.colours.now
    (omega (arith, c.loop-place-test.false, c.components-place-end.ensures.count, items, c.planar.ensures.framed.count))
    (omega (arith, c.loop-place-test.false, c.components-place-end.ensures.count, items, c.requires.count))
    c.loop-place.invariant.below c.loop-place.invariant.left
