-- The definitions, computed at worked values; those of nets at m = 41, A = 2, r = 5 (examples/tetrahedra.py has them by closed formulas).
use Rattle.std.proofs.Common.{◌≡◌, ◌∷◌, [], true, false, Some, None, filter, refl}
use Rattle.inertia_laws.specs.Fractions.{gcd}
use Rattle.graph_parts.specs.Parts.{part, part_count}
use Rattle.ring_identities.specs.Residues.{residue}
use Rattle.ring_identities.specs.Powers.{power, order_up_to}
use Rattle.state_sums.specs.StateSums.{value}
use Rattle.root_quantum.specs.Parameters.{Parameters}
use Rattle.root_quantum.specs.declared.form.Form.TheVariants.{All}
use Rattle.root_quantum.specs.Refusals.{refusal}
use Rattle.root_quantum.specs.QuantumNumbers.{loop_value, inverse_root, quantum_number, delta}
use Rattle.root_quantum.proofs.RefusalProofs.{accepted_law}
use Rattle.planar_check.specs.Places.{other_place}
use Rattle.planar_check.specs.Components.{distinct}
use Rattle.strand_algebra.specs.Projectors.{projector, inverse_of, found_projector}
use Rattle.cables.specs.Nets.{coloured_net}
use Rattle.coloured_values.specs.Surgery.{colour_lists}
use Rattle.tetra_reader.specs.declared.item.TetraItem.TheVariants.{F}
use Rattle.tetra_sum.specs.declared.fault.TetraFault.TheVariants.{TooMany, NoInverse, Theta}
use Rattle.tetra_sum.specs.Colourings.{colours_below, admits, are_allowed}
use Rattle.tetra_sum.specs.Nets.{theta, tet}
use Rattle.tetra_sum.specs.Refusals.{count_refusal, inverse_refusal, face_refusal}
use Rattle.tetra_sum.specs.Sums.{weight_sum}

-- at r = 3 the face 1, 1, 2 allows these two of the four colourings of the labels 1, 2
two : filter (λ each. are_allowed 3 (1 ∷ 2 ∷ []) each ((1 ∷ 1 ∷ 2 ∷ []) ∷ [])) (colour_lists (colours_below 3) 2) ≡ (0 ∷ 0 ∷ []) ∷ (1 ∷ 0 ∷ []) ∷ []
two = refl

-- the label 2 has no colour yet, so 1 alone is not forbidden
half : are_allowed 3 (1 ∷ 2 ∷ []) (1 ∷ []) ((1 ∷ 2 ∷ 2 ∷ []) ∷ []) ≡ true
half = refl

-- 2, 2, 2 is admissible, and past the sum 4 at r = 4
past : admits 4 2 2 2 ≡ false
past = refl

no_refusal : refusal All 41 2 5 ≡ None
unfolding refusal order_up_to power residue
no_refusal = refl

worked : Parameters
worked = record { modulus = 41; root = 2; level = 5; form = All; meets = (accepted_law All 41 2 5).1 no_refusal }

-- two edges of colour 1 and one of colour 2: Delta_2
theta_two : theta worked (1 ∷ 1 ∷ 2 ∷ []) ≡ 35
unfolding coloured_net value part_count part worked loop_value inverse_root power residue found_projector projector quantum_number inverse_of distinct other_place
theta_two = refl

tet_one : tet worked (1 ∷ 1 ∷ 0 ∷ 1 ∷ 1 ∷ 0 ∷ []) ≡ 6
unfolding coloured_net value part_count part worked loop_value inverse_root power residue found_projector projector quantum_number inverse_of distinct other_place
tet_one = refl

-- ---- sums
no_refusal_13 : refusal All 13 2 3 ≡ None
unfolding refusal order_up_to power residue
no_refusal_13 = refl

small : Parameters
small = record { modulus = 13; root = 2; level = 3; form = All; meets = (accepted_law All 13 2 3).1 no_refusal_13 }

-- nothing is coloured in one way
empty_sum : weight_sum worked [] ≡ 1
unfolding weight_sum worked distinct residue
empty_sum = refl

-- the face 1, 1, 2 allows 0, 0 and 1, 0, each of weight 1
one_face : weight_sum small (F (1 ∷ 1 ∷ 2 ∷ []) ∷ []) ≡ 2
unfolding weight_sum delta coloured_net value part_count part small loop_value inverse_root power residue found_projector projector quantum_number inverse_of distinct other_place
one_face = refl

-- ---- refusals
nine_labels : count_refusal 5 9 ≡ Some (TooMany 9 65536)
nine_labels = refl

sixteen_labels : count_refusal 3 16 ≡ None
sixteen_labels = refl

no_refusal_119 : refusal All 119 2 6 ≡ None
unfolding refusal order_up_to power residue
no_refusal_119 = refl

at_119 : Parameters
at_119 = record { modulus = 119; root = 2; level = 6; form = All; meets = (accepted_law All 119 2 6).1 no_refusal_119 }

no_inverse : inverse_refusal at_119 2 ≡ Some (NoInverse 1 17)
unfolding at_119 delta quantum_number loop_value inverse_root power residue gcd
no_inverse = refl

no_label : inverse_refusal at_119 0 ≡ None
unfolding at_119 delta quantum_number loop_value inverse_root power residue gcd
no_label = refl

no_refusal_51 : refusal All 51 37 4 ≡ None
unfolding refusal order_up_to power residue
no_refusal_51 = refl

at_51 : Parameters
at_51 = record { modulus = 51; root = 37; level = 4; form = All; meets = (accepted_law All 51 37 4).1 no_refusal_51 }

-- the ninth colouring of one face
theta_shared : face_refusal at_51 9 1 (0 ∷ 2 ∷ 2 ∷ []) ≡ Some (Theta 9 1 3)
unfolding coloured_net value part_count part at_51 loop_value inverse_root power residue found_projector projector quantum_number inverse_of distinct other_place gcd
theta_shared = refl
