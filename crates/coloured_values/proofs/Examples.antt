-- Values, computed: m = 41, A = 2, r = 5, in the full and in the even form.
use Rattle.std.proofs.Common.{◌≡◌, ℕ, List, None, [], ◌∷◌, map, pos, negsuc, refl}
use Rattle.graph_parts.specs.Parts.{part, part_count}
use Rattle.graph_parts.specs.LeastNames.{least_name}
use Rattle.ring_identities.specs.Residues.{residue}
use Rattle.ring_identities.specs.Powers.{power, signed_power, order_up_to}
use Rattle.state_sums.specs.Networks.{Node}
use Rattle.state_sums.specs.StateSums.{value}
use Rattle.root_quantum.specs.Parameters.{Parameters}
use Rattle.root_quantum.specs.declared.form.Form.TheVariants.{All, Even}
use Rattle.root_quantum.specs.Refusals.{refusal}
use Rattle.root_quantum.specs.QuantumNumbers.{loop_value, inverse_root, quantum_number, delta, twist, twist_factor}
use Rattle.root_quantum.proofs.RefusalProofs.{accepted_law}
use Rattle.pd_reader.specs.declared.item.Item.{Item}
use Rattle.pd_reader.specs.declared.item.Item.TheVariants.{X, Loop}
use Rattle.planar_check.specs.Places.{other_place}
use Rattle.planar_check.specs.Components.{component_least, least_labels}
use Rattle.planar_check.specs.Signs.{walk_of, signed_crossings}
use Rattle.strand_algebra.specs.Projectors.{projector, inverse_of, found_projector}
use Rattle.coloured_values.specs.Coloured.{cabled, coloured, framed}
use Rattle.coloured_values.specs.Surgery.{kirby, omega_sum, surgery}
use Rattle.inertia_laws.specs.Fractions.{reduce, gcd}
use Rattle.inertia_laws.specs.Indices.{positive_index, negative_index}

no_refusal : refusal All 41 2 5 ≡ None
unfolding refusal order_up_to power residue
no_refusal = refl

worked : Parameters
worked = record { modulus = 41; root = 2; level = 5; form = All; meets = (accepted_law All 41 2 5).1 no_refusal }

no_even_refusal : refusal Even 41 2 5 ≡ None
unfolding refusal order_up_to power residue
no_even_refusal = refl

worked_even : Parameters
worked_even = record { modulus = 41; root = 2; level = 5; form = Even; meets = (accepted_law Even 41 2 5).1 no_even_refusal }

-- the unknot of colour 2
unknot_two : coloured worked (Loop 1 ∷ []) (2 ∷ []) ≡ 35
unfolding coloured value part_count part worked loop_value inverse_root power residue found_projector projector quantum_number inverse_of least_labels component_least least_name
unknot_two = refl

-- a curl of colour 2
curl_two : coloured worked (X (1 ∷ 1 ∷ 2 ∷ 2 ∷ []) ∷ []) (2 ∷ []) ≡ 22
unfolding coloured value part_count part worked loop_value inverse_root power residue found_projector projector quantum_number inverse_of least_labels component_least least_name
curl_two = refl

-- the Hopf link, whose components are 1,4 and 2,3
abbrev hopf : List Item
hopf = X (2 ∷ 4 ∷ 3 ∷ 1 ∷ []) ∷ X (4 ∷ 2 ∷ 1 ∷ 3 ∷ []) ∷ []

abbrev ends_of : Node → List ℕ
ends_of node = node.ends

-- with the colours 2 and 2: a box on each component's least label, and two grids
hopf_two : map ends_of (cabled worked hopf (2 ∷ 2 ∷ [])).nodes
    ≡ (16 ∷ 18 ∷ 19 ∷ 17 ∷ [])
    ∷ (32 ∷ 34 ∷ 35 ∷ 33 ∷ [])
    ∷ (32 ∷ 33554496 ∷ 33554432 ∷ 18 ∷ [])
    ∷ (34 ∷ 64 ∷ 33554433 ∷ 33554496 ∷ [])
    ∷ (33554432 ∷ 33554504 ∷ 50 ∷ 16 ∷ [])
    ∷ (33554433 ∷ 66 ∷ 48 ∷ 33554504 ∷ [])
    ∷ (66 ∷ 33554624 ∷ 33554560 ∷ 48 ∷ [])
    ∷ (64 ∷ 35 ∷ 33554561 ∷ 33554624 ∷ [])
    ∷ (33554560 ∷ 33554632 ∷ 17 ∷ 50 ∷ [])
    ∷ (33554561 ∷ 33 ∷ 19 ∷ 33554632 ∷ [])
    ∷ []
unfolding least_labels component_least least_name part
hopf_two = refl

-- with the colours 0 and 2: the second component's box, and strands that go straight through
hopf_none : map ends_of (cabled worked hopf (0 ∷ 2 ∷ [])).nodes ≡ (32 ∷ 34 ∷ 35 ∷ 33 ∷ []) ∷ (32 ∷ 34 ∷ 48 ∷ 50 ∷ []) ∷ (35 ∷ 33 ∷ 50 ∷ 48 ∷ []) ∷ []
unfolding least_labels component_least least_name part
hopf_none = refl

-- the trefoil of colour 1, framed -1: 10 times mu_1^2, and mu_1 is 33
trefoil_framed : framed worked (X (1 ∷ 4 ∷ 2 ∷ 5 ∷ []) ∷ X (3 ∷ 6 ∷ 4 ∷ 1 ∷ []) ∷ X (5 ∷ 2 ∷ 6 ∷ 3 ∷ []) ∷ []) (negsuc 0 ∷ []) (1 ∷ []) ≡ 25
unfolding framed coloured value part_count part worked loop_value inverse_root power residue found_projector projector quantum_number inverse_of least_labels component_least least_name signed_crossings walk_of other_place twist twist_factor signed_power
trefoil_framed = refl

-- the unknot with the framings 0, 1 and -1, before it is divided by Omega
unknot_kirby : map (λ t. kirby worked (Loop 1 ∷ []) (t ∷ [])) (pos 0 ∷ pos 1 ∷ negsuc 0 ∷ []) ≡ 33 ∷ 23 ∷ 5 ∷ []
unfolding kirby framed coloured value part_count part worked loop_value inverse_root power residue found_projector projector quantum_number inverse_of least_labels component_least least_name signed_crossings walk_of other_place twist twist_factor signed_power delta
unknot_kirby = refl

omegas : map (omega_sum worked) (pos 1 ∷ negsuc 0 ∷ []) ≡ 23 ∷ 5 ∷ []
unfolding omega_sum worked loop_value inverse_root power residue quantum_number twist twist_factor signed_power delta
omegas = refl

-- the unknot framed 0, 1, -1, 2 and 3: S1 x S2, the 3-sphere twice, and two lens spaces
unknot_surgery : map (λ t. surgery worked record { items = Loop 1 ∷ []; framings = t ∷ [] }) (pos 0 ∷ pos 1 ∷ negsuc 0 ∷ pos 2 ∷ pos 3 ∷ []) ≡ 33 ∷ 1 ∷ 1 ∷ 0 ∷ 12 ∷ []
unfolding surgery positive_index negative_index omega_sum kirby framed coloured value part_count part worked loop_value inverse_root power residue found_projector projector quantum_number inverse_of least_labels component_least least_name signed_crossings walk_of other_place twist twist_factor signed_power delta reduce gcd
unknot_surgery = refl

-- over even colours
even_surgery : map (λ t. surgery worked_even record { items = Loop 1 ∷ []; framings = t ∷ [] }) (pos 0 ∷ pos 1 ∷ negsuc 0 ∷ pos 2 ∷ pos 3 ∷ []) ≡ 37 ∷ 1 ∷ 1 ∷ 6 ∷ 15 ∷ []
unfolding surgery positive_index negative_index omega_sum kirby framed coloured value part_count part worked_even loop_value inverse_root power residue found_projector projector quantum_number inverse_of least_labels component_least least_name signed_crossings walk_of other_place twist twist_factor signed_power delta reduce gcd
even_surgery = refl

-- the empty diagram
nothing : surgery worked record { items = []; framings = [] } ≡ 1
unfolding surgery positive_index negative_index omega_sum kirby framed coloured value part_count part worked loop_value inverse_root power residue found_projector projector quantum_number inverse_of least_labels component_least least_name signed_crossings walk_of other_place twist twist_factor signed_power delta reduce gcd
nothing = refl
