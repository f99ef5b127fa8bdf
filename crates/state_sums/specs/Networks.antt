-- Networks: nodes whose ends carry names, joined where two ends carry one name (this project's own; a link diagram
-- whose crossings are nodes is one, Lickorish, ch. 13).
--
-- A pairing of the places 0 to n-1 of a node's ends is the list of partners: place i is paired with `slice_index partner i`.
--
--     IsPairing partner      each place has a partner, which is another place and has it as its own; 1,0,3,2 is one
--     Term                   a weight and a pairing: one way to connect a node's ends
--     Node                   a group number, the names of the ends, and the terms. Only given orders read the group
--     IsNode node            each term pairs all the ends of the node
--     Network                nodes, and a number of free loops: the data alone, a network where `IsNetwork` holds
--     names_of nodes         the names of all ends, in order, each as often as it stands
--     IsNetwork network      each node is one, and each name stands exactly twice
--     WeightsBelow m nodes   each weight is below m
use Rattle.std.specs.Prelude.{◌≡◌, ◌≢◌, ℕ, ◌<◌, ◌==◌, List, length, slice_index}
use Rattle.std.specs.List.{All, flat_map}
use Rattle.list_lemmas.specs.Times.{times_in}
use Rattle.std.specs.Set.{is_member}
use Rattle.std.proofs.Common.{true}

-- Each place has a partner, which is another place and has it as its own partner.
pub record IsPairing (partner : List ℕ) : Type 0 where
  pub within : (i : ℕ) → i < length partner → slice_index partner i < length partner
  pub apart : (i : ℕ) → i < length partner → slice_index partner i ≢ i
  pub back : (i : ℕ) → i < length partner → slice_index partner (slice_index partner i) ≡ i

-- One way to connect a node's ends: place i with place `slice_index partner i`.
pub record Term : Type 0 where
  pub weight : ℕ
  pub partner : List ℕ

-- A place where strands meet: the names of its ends, and the ways to connect them.
pub record Node : Type 0 where
  pub group : ℕ
  pub ends : List ℕ
  pub terms : List Term

-- Each term pairs all the ends.
abbrev pub IsNode : Node → Type 0
IsNode node = All (λ term. IsPairing term.partner × (length term.partner ≡ length node.ends)) node.terms

-- Nodes, and closed loops that no node meets.
pub record Network : Type 0 where
  pub nodes : List Node
  pub free_loops : ℕ

-- The names of all ends, in order.
abbrev pub names_of : List Node → List ℕ
names_of nodes = flat_map (λ node. node.ends) nodes

-- Every name stands exactly twice over all nodes; both of its places may be ends of one node.
pub record IsNetwork (network : Network) : Type 0 where
  pub nodes : All IsNode network.nodes
  pub twice : (x : ℕ) → is_member ◌==◌ (names_of network.nodes) x ≡ true → times_in (names_of network.nodes) x ≡ 2

-- Each weight is below m.
abbrev pub WeightsBelow : ℕ → List Node → Type 0
WeightsBelow m nodes = All (λ node. All (λ term. term.weight < m) node.terms) nodes
