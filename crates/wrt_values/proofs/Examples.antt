-- Values, computed at 41, 2, 5.
use Rattle.std.proofs.Common.{◌≡◌, List, [], ◌∷◌, None, Ok, Err, refl}
use Rattle.std.specs.List.{range_with_len}
use Rattle.ring_identities.specs.Residues.{residue}
use Rattle.ring_identities.specs.Powers.{power, order_up_to}
use Rattle.graph_parts.specs.Parts.{part, part_count}
use Rattle.state_sums.specs.Networks.{Node}
use Rattle.state_sums.specs.StateSums.{value}
use Rattle.root_quantum.specs.Parameters.{Parameters}
use Rattle.root_quantum.specs.Refusals.{refusal}
use Rattle.root_quantum.specs.QuantumNumbers.{inverse_root, loop_value, quantum_number, delta}
use Rattle.graph_parts.specs.LeastNames.{least_name}
use Rattle.planar_check.specs.Components.{component_least, least_labels}
use Rattle.strand_algebra.specs.Projectors.{projector, inverse_of, found_projector}
use Rattle.coloured_values.specs.Coloured.{coloured}
use Rattle.inertia_laws.specs.Fractions.{gcd}
use Rattle.root_quantum.proofs.RefusalProofs.{accepted_law}
use Rattle.root_quantum.specs.declared.form.Form.TheVariants.{All}
use Rattle.pd_reader.specs.declared.item.Item.{Item}
use Rattle.pd_reader.specs.declared.item.Item.TheVariants.{X, Loop}
use Rattle.diagram_brackets.specs.Brackets.{bracket}
use Rattle.frontier_laws.specs.Orders.{listed_of, greedy_of, given_of}
use Rattle.wrt_values.specs.declared.fault.ValueRefusal.TheVariants.{NoInverse, Wide}
use Rattle.wrt_values.specs.Coloured.{coloured_value}
use Rattle.wrt_values.specs.Inverses.{inverses}
use Rattle.wrt_values.specs.Values.{value_of, bracket_value}

no_refusal : refusal All 41 2 5 ≡ None
unfolding refusal order_up_to power residue
no_refusal = refl

worked : Parameters
worked = record { modulus = 41; root = 2; level = 5; form = All; meets = (accepted_law All 41 2 5).1 no_refusal }

-- the left-handed trefoil
abbrev trefoil_items : List Item
trefoil_items = X (1 ∷ 4 ∷ 2 ∷ 5 ∷ []) ∷ X (3 ∷ 6 ∷ 4 ∷ 1 ∷ []) ∷ X (5 ∷ 2 ∷ 6 ∷ 3 ∷ []) ∷ []

trefoil : bracket_value listed_of worked trefoil_items ≡ Ok (record { residue = 10; turns = 10 })
unfolding worked bracket value loop_value inverse_root power residue part_count part
trefoil = refl

trefoil_greedily : bracket_value greedy_of worked trefoil_items ≡ Ok (record { residue = 10; turns = 10 })
unfolding worked bracket value loop_value inverse_root power residue part_count part
trefoil_greedily = refl

trefoil_given : bracket_value (given_of (3 ∷ 1 ∷ 2 ∷ [])) worked trefoil_items ≡ Ok (record { residue = 10; turns = 10 })
unfolding worked bracket value loop_value inverse_root power residue part_count part
trefoil_given = refl

-- nothing takes no turn
unknot : bracket_value listed_of worked (Loop 1 ∷ []) ≡ Ok (record { residue = 6; turns = 0 })
unfolding worked bracket value loop_value inverse_root power residue part_count part
unknot = refl

-- behind the first of two nodes on the same 26 names all of these are open
abbrev broad : Node
broad = record { group = 1; ends = range_with_len 1 26; terms = [] }

wide : value_of 7 (broad ∷ broad ∷ []) 3 ≡ Err (Wide record { colouring = 3; step = 1 } 26)
unfolding part
wide = refl

-- ---- colours
-- the unknot of colour 2, whose box has two terms
unknot_two : coloured_value listed_of worked (Loop 1 ∷ []) (2 ∷ []) ≡ Ok (record { residue = 35; turns = 2 })
unfolding gcd delta coloured value part_count part worked loop_value inverse_root power residue found_projector projector quantum_number inverse_of least_labels component_least least_name
unknot_two = refl

-- at 119, 2, 6 no colour past 1 has a projector: Delta_1 is 17 * 6
no_refusal_119 : refusal All 119 2 6 ≡ None
unfolding refusal order_up_to power residue
no_refusal_119 = refl

at_119 : Parameters
at_119 = record { modulus = 119; root = 2; level = 6; form = All; meets = (accepted_law All 119 2 6).1 no_refusal_119 }

missing : inverses at_119 2 ≡ Err (NoInverse 1 17)
unfolding at_119 gcd delta loop_value inverse_root power residue quantum_number
missing = refl

none_missing : inverses at_119 1 ≡ Ok tt
none_missing = refl
