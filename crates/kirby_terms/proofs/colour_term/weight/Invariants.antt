-- The product times what the other components multiply by is the whole.
use Rattle.std.proofs.Common.{◌<◌, pos, ◌*ℤ◌}
use Rattle.ring_identities.specs.Residues.{Congruent}
use Rattle.kirby_terms.proofs.Weights.{rest}
use Rattle.kirby_terms.proofs.colour_term.weight.Given as goal

abbrev pub invariant-loop-place : goal.invariant-loop-place
invariant-loop-place l = record {
  below : l.product < l.params.modulus;
  left : Congruent l.params.modulus (pos l.product *ℤ rest l.params l.framed.items l.place l.framed.framings l.colours) (rest l.params l.framed.items 0 l.framed.framings l.colours);
}
