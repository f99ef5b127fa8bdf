-- What a node and a network keep beside the facts of their definitions: their limits. And why ends and terms are refused.
--
--     IsShortNode node           a node with at most 24 ends and 1,048,576 terms
--     first_misfit ends terms    the first term whose pairing hasn't so many points as there are ends
--     IsSmallNetwork network     a network with at most 65,536 nodes and 256 free loops
use Rattle.std.specs.Prelude.{ℕ, ◌≤◌, ◌==◌, not, List, length, Option}
use Rattle.std.specs.List.{position}
use Rattle.state_sums.specs.Networks.{Term, Node, Network, IsNode, IsNetwork}
use Rattle.arc_pairing.specs.declared.limits.TheConstants.{MOST_FREE_LOOPS, MOST_NODES, MOST_POINTS, MOST_TERMS}

pub record IsShortNode (node : Node) : Type 0 where
  pub few_ends : length node.ends ≤ MOST_POINTS
  pub few_terms : length node.terms ≤ MOST_TERMS
  pub paired : IsNode node

-- The first term whose pairing hasn't so many points as there are ends, if there is one.
abbrev pub first_misfit : ℕ → List Term → Option ℕ
first_misfit ends terms = position (λ term. not (length term.partner == ends)) terms

pub record IsSmallNetwork (network : Network) : Type 0 where
  pub few_nodes : length network.nodes ≤ MOST_NODES
  pub few_loops : network.free_loops ≤ MOST_FREE_LOOPS
  pub twice : IsNetwork network
