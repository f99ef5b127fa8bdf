use Rattle.std.proofs.Common.{◌≡◌, ◌<◌, pos, take}
use Rattle.ring_identities.specs.Residues.{residue}
use Rattle.root_quantum.specs.QuantumNumbers.{delta}
use Rattle.tetra_sum.specs.Sums.{product_over}
use Rattle.tetra_sum.proofs.products.deltas.Given as goal

-- the product of the first factors
abbrev pub invariant-loop-colour : goal.invariant-loop-colour
invariant-loop-colour l = record {
  value : l.product ≡ residue l.params.modulus (product_over (λ colour. pos (delta l.params colour)) (take l.colour-index l.colours));
  below : l.product < l.params.modulus;
}
