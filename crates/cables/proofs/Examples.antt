-- Cables, computed: m = 41, A = 2, r = 5, so A^-1 is 21, delta 6, and f^2 has 34 at the hook and 1 at the straight strands.
use Rattle.std.proofs.Common.{◌≡◌, ℕ, ◌==◌, ◌&&◌, ◌||◌, nat_le, Some, None, if◌then◌else◌, List, [], ◌∷◌, map, length, refl}
use Rattle.graph_parts.specs.Parts.{part, part_count}
use Rattle.ring_identities.specs.Residues.{residue}
use Rattle.ring_identities.specs.Powers.{power, order_up_to}
use Rattle.state_sums.specs.Networks.{Node, Term}
use Rattle.state_sums.specs.StateSums.{value}
use Rattle.root_quantum.specs.Parameters.{Parameters}
use Rattle.root_quantum.specs.declared.form.Form.TheVariants.{All}
use Rattle.root_quantum.specs.Refusals.{refusal}
use Rattle.root_quantum.specs.QuantumNumbers.{loop_value, inverse_root, quantum_number}
use Rattle.root_quantum.proofs.RefusalProofs.{accepted_law}
use Rattle.pd_reader.specs.declared.item.NetItem.{NetItem}
use Rattle.pd_reader.specs.declared.item.NetItem.TheVariants.{X, Y, Loop}
use Rattle.strand_algebra.specs.Projectors.{projector, inverse_of, found_projector}
use Rattle.cables.specs.Strands.{Strands, strands_of}
use Rattle.cables.specs.CableNodes.{vertex_partner}
use Rattle.cables.specs.Cables.{cable_nodes, loop_count, start}
use Rattle.cables.specs.Nets.{first_unequal, first_inadmissible, net_strands, coloured_net}

no_refusal : refusal All 41 2 5 ≡ None
unfolding refusal order_up_to power residue
no_refusal = refl

worked : Parameters
worked = record { modulus = 41; root = 2; level = 5; form = All; meets = (accepted_law All 41 2 5).1 no_refusal }

-- what is looked at of a node: its ends, these with its group, and its terms
abbrev ends_of : Node → List ℕ
ends_of node = node.ends

abbrev placed : Node → ℕ × List ℕ
placed node = (node.group, node.ends)

abbrev weighed : Term → ℕ × List ℕ
weighed term = (term.weight, term.partner)

abbrev choices : Node → List (ℕ × List ℕ)
choices node = map weighed node.terms

-- the vertex of three edges of colour 2, and that of the colours 1, 1 and 2
theta_vertex : vertex_partner 1 1 1 ≡ 5 ∷ 2 ∷ 1 ∷ 4 ∷ 3 ∷ 0 ∷ []
theta_vertex = refl

fork : vertex_partner 0 1 1 ≡ 3 ∷ 2 ∷ 1 ∷ 0 ∷ []
fork = refl

-- the strands of a diagram of one colour, with a box on label 1
abbrev knot : ℕ → Strands
knot n = strands_of (λ label. n) (λ label. label == 1) (λ k. [])

abbrev trefoil : List NetItem
trefoil = X (1 ∷ 4 ∷ 2 ∷ 5 ∷ []) ∷ X (3 ∷ 6 ∷ 4 ∷ 1 ∷ []) ∷ X (5 ∷ 2 ∷ 6 ∷ 3 ∷ []) ∷ []

-- the ends of the nodes of the curl of colour 2: a box, and two rows of two crossings
curl_nodes : map ends_of (cable_nodes worked (knot 2) (start (X (1 ∷ 1 ∷ 2 ∷ 2 ∷ []) ∷ [])) (X (1 ∷ 1 ∷ 2 ∷ 2 ∷ []) ∷ []))
    ≡ (16 ∷ 18 ∷ 19 ∷ 17 ∷ [])
    ∷ (16 ∷ 33554496 ∷ 33554432 ∷ 32 ∷ [])
    ∷ (18 ∷ 19 ∷ 33554433 ∷ 33554496 ∷ [])
    ∷ (33554432 ∷ 33554504 ∷ 34 ∷ 34 ∷ [])
    ∷ (33554433 ∷ 17 ∷ 32 ∷ 33554504 ∷ [])
    ∷ []
curl_nodes = refl

-- the trefoil of colour 2: a box, and twelve crossings
trefoil_nodes : map ends_of (cable_nodes worked (knot 2) (start trefoil) trefoil)
    ≡ (16 ∷ 18 ∷ 19 ∷ 17 ∷ [])
    ∷ (16 ∷ 33554496 ∷ 33554432 ∷ 82 ∷ [])
    ∷ (18 ∷ 64 ∷ 33554433 ∷ 33554496 ∷ [])
    ∷ (33554432 ∷ 33554504 ∷ 34 ∷ 80 ∷ [])
    ∷ (33554433 ∷ 66 ∷ 32 ∷ 33554504 ∷ [])
    ∷ (48 ∷ 33554624 ∷ 33554560 ∷ 17 ∷ [])
    ∷ (50 ∷ 96 ∷ 33554561 ∷ 33554624 ∷ [])
    ∷ (33554560 ∷ 33554632 ∷ 64 ∷ 19 ∷ [])
    ∷ (33554561 ∷ 98 ∷ 66 ∷ 33554632 ∷ [])
    ∷ (82 ∷ 33554752 ∷ 33554688 ∷ 48 ∷ [])
    ∷ (80 ∷ 34 ∷ 33554689 ∷ 33554752 ∷ [])
    ∷ (33554688 ∷ 33554760 ∷ 96 ∷ 50 ∷ [])
    ∷ (33554689 ∷ 32 ∷ 98 ∷ 33554760 ∷ [])
    ∷ []
trefoil_nodes = refl

-- the trefoil of colour 8: the box has 16 ends, and 192 crossings follow
trefoil_eight : length (cable_nodes worked (knot 8) (start trefoil) trefoil) ≡ 193
trefoil_eight = refl

-- the Hopf link, where the labels 1 and 4 have the colour n, and 2 and 3 the colour k
abbrev hopf : List NetItem
hopf = X (2 ∷ 4 ∷ 3 ∷ 1 ∷ []) ∷ X (4 ∷ 2 ∷ 1 ∷ 3 ∷ []) ∷ []

abbrev hopf_colour : ℕ → ℕ → ℕ → ℕ
hopf_colour n k label = if label == 1 || label == 4 then n else k

-- its strands as a link diagram: one box for each component of a colour of at least 2, on its least label
abbrev hopf_strands : ℕ → ℕ → Strands
hopf_strands n k = strands_of (hopf_colour n k) (λ label. nat_le 2 n && label == 1 || nat_le 2 k && label == 2) (λ j. [])

-- with the colours 2 and 2 both boxes stand before the first crossing
hopf_two : map ends_of (cable_nodes worked (hopf_strands 2 2) (start hopf) hopf)
    ≡ (16 ∷ 18 ∷ 19 ∷ 17 ∷ [])
    ∷ (32 ∷ 34 ∷ 35 ∷ 33 ∷ [])
    ∷ (32 ∷ 33554496 ∷ 33554432 ∷ 18 ∷ [])
    ∷ (34 ∷ 64 ∷ 33554433 ∷ 33554496 ∷ [])
    ∷ (33554432 ∷ 33554504 ∷ 50 ∷ 16 ∷ [])
    ∷ (33554433 ∷ 66 ∷ 48 ∷ 33554504 ∷ [])
    ∷ (66 ∷ 33554624 ∷ 33554560 ∷ 48 ∷ [])
    ∷ (64 ∷ 35 ∷ 33554561 ∷ 33554624 ∷ [])
    ∷ (33554560 ∷ 33554632 ∷ 17 ∷ 50 ∷ [])
    ∷ (33554561 ∷ 33 ∷ 19 ∷ 33554632 ∷ [])
    ∷ []
hopf_two = refl

-- with the colours 0 and 2 each crossing is two strands that go straight through
hopf_none : map placed (cable_nodes worked (hopf_strands 0 2) (start hopf) hopf)
    ≡ (1, 32 ∷ 34 ∷ 35 ∷ 33 ∷ [])
    ∷ (1, 32 ∷ 34 ∷ 48 ∷ 50 ∷ [])
    ∷ (2, 35 ∷ 33 ∷ 50 ∷ 48 ∷ [])
    ∷ []
hopf_none = refl

hopf_through : map choices (cable_nodes worked (hopf_strands 0 2) (start hopf) hopf)
    ≡ [] ∷ ((1, 3 ∷ 2 ∷ 1 ∷ 0 ∷ []) ∷ []) ∷ ((1, 3 ∷ 2 ∷ 1 ∷ 0 ∷ []) ∷ []) ∷ []
hopf_through = refl

-- as a net, with the colours 1 and 2, each edge of colour 2 has a box, and a grid has two rows of one crossing
hopf_net : map placed (cable_nodes worked (net_strands worked (hopf_colour 1 2)) (start hopf) hopf)
    ≡ (1, 32 ∷ 34 ∷ 35 ∷ 33 ∷ [])
    ∷ (1, 48 ∷ 50 ∷ 51 ∷ 49 ∷ [])
    ∷ (1, 32 ∷ 33554496 ∷ 50 ∷ 16 ∷ [])
    ∷ (1, 34 ∷ 64 ∷ 48 ∷ 33554496 ∷ [])
    ∷ (2, 64 ∷ 35 ∷ 33554560 ∷ 49 ∷ [])
    ∷ (2, 33554560 ∷ 33 ∷ 16 ∷ 51 ∷ [])
    ∷ []
hopf_net = refl

-- the two smoothings of a crossing of single strands, with A and its inverse
curl_terms : map choices (cable_nodes worked (net_strands worked (λ label. 1)) (start (X (1 ∷ 1 ∷ 2 ∷ 2 ∷ []) ∷ [])) (X (1 ∷ 1 ∷ 2 ∷ 2 ∷ []) ∷ []))
    ≡ ((2, 1 ∷ 0 ∷ 3 ∷ 2 ∷ []) ∷ (21, 3 ∷ 2 ∷ 1 ∷ 0 ∷ []) ∷ []) ∷ []
unfolding worked inverse_root power residue
curl_terms = refl

-- a loop of each kind: of colour 0 before the crossing, of the colours 1 and 2 behind it
abbrev loops : List NetItem
loops = Loop 1 ∷ X (2 ∷ 2 ∷ 3 ∷ 3 ∷ []) ∷ Loop 4 ∷ Loop 5 ∷ []

abbrev loop_strands : Strands
loop_strands = net_strands worked (λ label. if label == 1 then 0 else (if label == 5 then 2 else 1))

-- the crossing is the item with the number 1, and of group 1; the loops are of the groups 2, 3 and 4
loop_groups : map placed (cable_nodes worked loop_strands (start loops) loops)
    ≡ (1, 32 ∷ 32 ∷ 48 ∷ 48 ∷ []) ∷ (4, 80 ∷ 82 ∷ 82 ∷ 80 ∷ []) ∷ []
loop_groups = refl

free_loop : loop_count loop_strands loops ≡ 1
free_loop = refl

-- two vertices joined by three edges
abbrev theta : List NetItem
theta = Y (1 ∷ 2 ∷ 3 ∷ []) ∷ Y (3 ∷ 2 ∷ 1 ∷ []) ∷ []

theta_nodes : map ends_of (cable_nodes worked (net_strands worked (λ label. 2)) (start theta) theta)
    ≡ (16 ∷ 18 ∷ 19 ∷ 17 ∷ [])
    ∷ (32 ∷ 34 ∷ 35 ∷ 33 ∷ [])
    ∷ (48 ∷ 50 ∷ 51 ∷ 49 ∷ [])
    ∷ (16 ∷ 18 ∷ 32 ∷ 34 ∷ 48 ∷ 50 ∷ [])
    ∷ (51 ∷ 49 ∷ 35 ∷ 33 ∷ 19 ∷ 17 ∷ [])
    ∷ []
theta_nodes = refl

-- with the colours 1, 1 and 2
fork_nodes : map ends_of (cable_nodes worked (net_strands worked (λ label. if label == 3 then 2 else 1)) (start theta) theta)
    ≡ (48 ∷ 50 ∷ 51 ∷ 49 ∷ [])
    ∷ (16 ∷ 32 ∷ 48 ∷ 50 ∷ [])
    ∷ (51 ∷ 49 ∷ 32 ∷ 16 ∷ [])
    ∷ []
fork_nodes = refl

-- its value with the colours 2, 2, 2, and with 1, 1, 2
theta_two : coloured_net worked theta (λ label. 2) ≡ 7
unfolding coloured_net value part_count part worked loop_value inverse_root power residue found_projector projector quantum_number inverse_of
theta_two = refl

theta_fork : coloured_net worked theta (λ label. if label == 3 then 2 else 1) ≡ 35
unfolding coloured_net value part_count part worked loop_value inverse_root power residue found_projector projector quantum_number inverse_of
theta_fork = refl

-- a loop of colour 0, 1, 2 and 3
loop_none : coloured_net worked (Loop 1 ∷ []) (λ label. 0) ≡ 1
unfolding coloured_net value part_count part worked loop_value inverse_root power residue found_projector projector quantum_number inverse_of
loop_none = refl

loop_one : coloured_net worked (Loop 1 ∷ []) (λ label. 1) ≡ 6
unfolding coloured_net value part_count part worked loop_value inverse_root power residue found_projector projector quantum_number inverse_of
loop_one = refl

loop_two : coloured_net worked (Loop 1 ∷ []) (λ label. 2) ≡ 35
unfolding coloured_net value part_count part worked loop_value inverse_root power residue found_projector projector quantum_number inverse_of
loop_two = refl

loop_three : coloured_net worked (Loop 1 ∷ []) (λ label. 3) ≡ 40
unfolding coloured_net value part_count part worked loop_value inverse_root power residue found_projector projector quantum_number inverse_of
loop_three = refl

-- a crossing that changes a colour, and a vertex of three edges of colour 1
changed_colour : first_unequal (λ label. label) (X (1 ∷ 1 ∷ 2 ∷ 2 ∷ []) ∷ []) ≡ Some 2
changed_colour = refl

odd_vertex : first_inadmissible (λ label. 1) 1 theta ≡ Some 1
odd_vertex = refl
