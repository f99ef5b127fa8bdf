use Rattle.std.proofs.Common.{ℕ, pos, ◌*ℤ◌, ap, ◌∙◌, arith}
use Rattle.ring_identities.specs.Residues.{residue}
use Rattle.root_quantum.specs.QuantumNumbers.{delta}
use Rattle.tetra_sum.proofs.ProductSteps.{no_product, product_more}
use Rattle.tetra_sum.proofs.products.deltas.Goals as goal

pub loop-colour-init : goal.loop-colour-init
loop-colour-init c =
    let p = c.args.params.now in
    let low = p.meets.modulus.0 in
    record { value = no_product p.modulus (λ (n : ℕ). pos (delta p n)) (omega (arith, low)); below = omega (arith, low) }

pub loop-colour-preserved : goal.loop-colour-preserved
loop-colour-preserved c =
    let p = c.args.params.now in
    let low = p.meets.modulus.0 in
    record {
      value =
          product_more p.modulus (λ n. pos (delta p n)) c.args.colours.now c.loop-colour.colour-index 0 c.loop-colour.product c.delta.result c.mul-product.result (omega (arith, low)) c.loop-colour-test.true
          c.loop-colour.invariant.value (ap pos c.delta.ensures.value) (c.mul-product.ensures.product ∙ ap (λ m. residue m (pos c.loop-colour.product *ℤ pos c.delta.result)) c.ring.ensures);
      below = omega (arith, c.mul-product.ensures.below, c.ring.ensures);
    }
