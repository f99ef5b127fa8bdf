-- The sum over the first colours.
use Rattle.std.proofs.Common.{◌≡◌, ◌<◌, take}
use Rattle.ring_identities.specs.Residues.{residue}
use Rattle.root_quantum.specs.Colours.{form_colours}
use Rattle.coloured_values.specs.Surgery.{sum_over}
use Rattle.kirby_terms.specs.Normalisations.{omega_term}
use Rattle.kirby_terms.proofs.normalisation.omega.Given as goal

abbrev pub invariant-loop-place : goal.invariant-loop-place
invariant-loop-place l = record {
  below : l.sum < l.params.modulus;
  sum_is : l.sum ≡ residue l.params.modulus (sum_over (omega_term l.params l.sign) (take l.place (form_colours l.params)));
}
