-- Colourings and Omegas, computed.
use Rattle.std.proofs.Common.{◌≡◌, ℕ, List, None, [], ◌∷◌, refl}
use Rattle.ring_identities.specs.Residues.{residue}
use Rattle.ring_identities.specs.Powers.{power, signed_power, order_up_to}
use Rattle.root_quantum.specs.Parameters.{Parameters}
use Rattle.root_quantum.specs.declared.form.Form.TheVariants.{All}
use Rattle.root_quantum.specs.Refusals.{refusal}
use Rattle.root_quantum.specs.QuantumNumbers.{loop_value, inverse_root, quantum_number, delta, twist, twist_factor}
use Rattle.root_quantum.proofs.RefusalProofs.{accepted_law}
use Rattle.planar_check.specs.declared.sign.Sign.TheVariants.{Plus, Minus}
use Rattle.strand_algebra.specs.Projectors.{inverse_of}
use Rattle.coloured_values.specs.Surgery.{omega_sum}
use Rattle.kirby_terms.specs.Colourings.{colouring_at}
use Rattle.kirby_terms.specs.Normalisations.{omega_of, normalised}

colours : List ℕ
colours = 0 ∷ 1 ∷ 2 ∷ 3 ∷ []

first_of_two : colouring_at colours 2 1 ≡ 0 ∷ 0 ∷ []
unfolding colours
first_of_two = refl

seventh_of_two : colouring_at colours 2 7 ≡ 1 ∷ 2 ∷ []
unfolding colours
seventh_of_two = refl

no_refusal : refusal All 41 2 5 ≡ None
unfolding refusal order_up_to power residue
no_refusal = refl

worked : Parameters
worked = record { modulus = 41; root = 2; level = 5; form = All; meets = (accepted_law All 41 2 5).1 no_refusal }

omega_plus : omega_of worked Plus ≡ 23
unfolding worked omega_sum delta twist twist_factor quantum_number loop_value inverse_root power signed_power residue
omega_plus = refl

omega_minus : omega_of worked Minus ≡ 5
unfolding worked omega_sum delta twist twist_factor quantum_number loop_value inverse_root power signed_power residue
omega_minus = refl

framed_three : normalised worked 30 1 0 ≡ 12
unfolding worked inverse_of omega_sum delta twist twist_factor quantum_number loop_value inverse_root power signed_power residue
framed_three = refl
