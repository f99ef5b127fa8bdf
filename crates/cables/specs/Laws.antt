-- The laws of cables. They carry everything above that contracts, colours or moves a diagram.
--
--     IsSmallNetwork m network     a network with weights below m, at most 24 ends a node, 65,536 nodes, 256 free loops, and
--                                  names below 2^32
use Rattle.std.specs.Prelude.{◌≡◌, ℕ, ◌^◌, ◌*◌, ◌%◌, ◌<◌, ◌≤◌, Bool, false, List, [], ◌∷◌, ◌++◌, length, map, ◌+◌, None}
use Rattle.std.specs.List.{All, AllByRecursion}
use Rattle.state_sums.specs.Networks.{Term, Network, IsNetwork, WeightsBelow, names_of}
use Rattle.root_quantum.specs.Parameters.{Parameters}
use Rattle.state_sums.specs.LocalSums.{rename}
use Rattle.state_sums.specs.StateSums.{value}
use Rattle.piece_laws.specs.TurnedNodes.{without_group}
use Rattle.pd_reader.specs.declared.item.Item.{Item}
use Rattle.pd_reader.specs.declared.item.NetItem.{NetItem}
use Rattle.pd_reader.specs.declared.item.NetItem.TheVariants.{Loop}
use Rattle.root_quantum.specs.QuantumNumbers.{loop_value, delta}
use Rattle.strand_algebra.specs.Projectors.{IsProjector}
use Rattle.pd_reader.specs.Items.{HasItsSlots, net_item_labels}
use Rattle.list_lemmas.specs.Times.{times_in}
use Rattle.pd_reader.specs.Diagrams.{IsNet, labels}
use Rattle.cables.specs.Strands.{Strands, strands_of, first_names, exchanged, renamed_strands}
use Rattle.cables.specs.Cables.{Standing, cable, cable_nodes, loop_nodes, loops_at, Fits, AreBoxes, as_net}
use Rattle.cables.specs.Nets.{cabled_net, first_inadmissible, first_unequal, projector_of}
use Rattle.diagram_brackets.specs.Brackets.{bracket_network}

-- A network within the limits of the types.
pub record IsSmallNetwork (m : ℕ) (network : Network) : Type 0 where
  pub is_network : IsNetwork network
  pub weights : WeightsBelow m network.nodes
  pub few_ends : All (λ node. length node.ends ≤ 24) network.nodes
  pub few_nodes : length network.nodes ≤ 65536
  pub few_loops : network.free_loops ≤ 256
  pub short_names : All (λ name. name < 2 ^ 32) (names_of network.nodes)

-- The cable of a net is such a network, where colours are at most 8 and fit its items.
abbrev pub CableIsNetworkLaw : Type 0
CableIsNetworkLaw =
    (p : Parameters) (colour : ℕ → ℕ) (boxed : ℕ → Bool) (box : ℕ → List Term) (items : List NetItem) →
    IsNet items → ((label : ℕ) → colour label ≤ 8) → AreBoxes p.modulus box → AllByRecursion (Fits (strands_of colour boxed box)) items →
    IsSmallNetwork p.modulus (cable p (strands_of colour boxed box) items)

-- With all colours 1 the cable of a diagram is the network of its bracket.
abbrev pub PlainCableLaw : Type 0
PlainCableLaw =
    (p : Parameters) (box : ℕ → List Term) (items : List Item) → AllByRecursion HasItsSlots items →
    cable p (strands_of (λ label. 1) (λ label. false) box) (as_net items) ≡ bracket_network p items

-- Other names, where the names within grids become those of items with other numbers, give the cable with these names. With
-- `index` the standing's own, the names within grids stay.
abbrev pub RenamedCableLaw : Type 0
RenamedCableLaw =
    (p : Parameters) (strands : Strands) (new_name : ℕ → ℕ) (standing : Standing) (index : ℕ) (items : List NetItem) →
    ((offset : ℕ) → new_name (2 ^ 25 + 128 * standing.index + offset) ≡ 2 ^ 25 + 128 * index + offset) →
    cable_nodes p (renamed_strands new_name strands) (record standing { index = index }) items ≡ rename new_name (cable_nodes p strands standing items)

-- Items that stand at other group numbers have the same nodes, but for these numbers.
abbrev pub OtherGroupsLaw : Type 0
OtherGroupsLaw =
    (p : Parameters) (strands : Strands) (standing : Standing) (group loop_group : ℕ) (items : List NetItem) →
    map without_group (cable_nodes p strands (record standing { group = group; loop_group = loop_group }) items) ≡ map without_group (cable_nodes p strands standing items)

-- Where the two places of some labels are exchanged, the value stays; a box then has its sides exchanged too.
abbrev pub ExchangedPlacesLaw : Type 0
ExchangedPlacesLaw =
    (p : Parameters) (colour : ℕ → ℕ) (boxed : ℕ → Bool) (box : ℕ → List Term) (items : List NetItem) (chosen : ℕ → Bool) (m delta : ℕ) →
    IsNet items → ((label : ℕ) → colour label ≤ 8) → AreBoxes p.modulus box → AllByRecursion (Fits (strands_of colour boxed box)) items →
    value m delta (cable p (exchanged (strands_of colour boxed box) chosen) items) ≡ value m delta (cable p (strands_of colour boxed box) items)

-- The value of a loop's cable alone: Delta_n for n strands.
abbrev pub LoopOfStrandsLaw : Type 0
LoopOfStrandsLaw =
    (p : Parameters) (box : ℕ → List Term) (n group label : ℕ) → n ≤ 8 → IsProjector p.modulus (loop_value p) n (box n) →
    value p.modulus (loop_value p) record { nodes = loop_nodes (strands_of (λ l. n) (λ l. false) box) group (first_names n label); free_loops = loops_at (first_names n label) }
    ≡ delta p n

-- A loop with a new label behind the items multiplies the value by Delta_n.
abbrev pub AddedLoopLaw : Type 0
AddedLoopLaw =
    (p : Parameters) (colour : ℕ → ℕ) (boxed : ℕ → Bool) (box : ℕ → List Term) (items : List NetItem) (label : ℕ) →
    IsNet items → ((l : ℕ) → colour l ≤ 8) → AreBoxes p.modulus box → AllByRecursion (Fits (strands_of colour boxed box)) items →
    label ≤ 2000000 → times_in (labels net_item_labels items) label ≡ 0 → IsProjector p.modulus (loop_value p) (colour label) (box (colour label)) →
    value p.modulus (loop_value p) (cable p (strands_of colour boxed box) (items ++ Loop label ∷ []))
    ≡ value p.modulus (loop_value p) (cable p (strands_of colour boxed box) items) * delta p (colour label) % p.modulus

-- The terms of projectors are terms of boxes, whatever the modulus.
abbrev pub ProjectorsAreBoxesLaw : Type 0
ProjectorsAreBoxesLaw = (p : Parameters) → AreBoxes p.modulus (projector_of p)

-- The cable of a net is a network, where no crossing changes a colour and each vertex is admissible.
abbrev pub NetCableIsNetworkLaw : Type 0
NetCableIsNetworkLaw =
    (p : Parameters) (items : List NetItem) (colour : ℕ → ℕ) → IsNet items → ((label : ℕ) → colour label ≤ 8) →
    first_unequal colour items ≡ None → first_inadmissible colour 1 items ≡ None → IsSmallNetwork p.modulus (cabled_net p items colour)
