-- States of a network and their sum (Lickorish, ch. 13, as for the Kauffman bracket; here for any network).
--
--     term_edges node term      the pairs of the term as edges between names, each pair twice, once from each of its places
--     states nodes              each way to choose one term of each node
--     state_edges nodes state   the pairs of all chosen terms
--     state_weight state        the product of the chosen terms' weights
--     loops nodes state         how many closed loops the state makes: the parts into which its pairs join the names
--     state_sum delta network   over all states, the weights times delta to the power of the loops and free loops
--     value m delta network     the residue of that sum modulo m
--
-- The sum is of natural numbers, and its residue is taken once, at the end. It is read where `IsNetwork` holds.
use Rattle.std.specs.Prelude.{ℕ, ◌+◌, ◌*◌, ◌^◌, ◌%◌, List, [], ◌∷◌, ◌++◌, map, slice_index}
use Rattle.std.specs.List.{flat_map, sum_by, zip}
use Rattle.graph_parts.specs.Parts.{part_count}
use Rattle.state_sums.specs.Networks.{Term, Node, Network, names_of}

-- Two names are joined where a pair of the term has a place of each.
abbrev pub term_edges : Node → Term → List (ℕ × ℕ)
term_edges node term = zip node.ends (map (λ place. slice_index node.ends place) term.partner)

-- Each way to choose one term of each node. Where there is no node there is one state, the empty one; where a node has
-- no term there is none.
abbrev pub states : List Node → List (List Term)
states [] = [] ∷ []
states (node ∷ nodes) = flat_map (λ term. map (λ rest. term ∷ rest) (states nodes)) node.terms

-- The pairs of all chosen terms. A state has one term for each node; nodes past its end would give no pair.
abbrev pub state_edges : List Node → List Term → List (ℕ × ℕ)
state_edges [] state = []
state_edges (node ∷ nodes) [] = []
state_edges (node ∷ nodes) (term ∷ state) = term_edges node term ++ state_edges nodes state

-- The product of the chosen terms' weights.
abbrev pub state_weight : List Term → ℕ
state_weight [] = 1
state_weight (term ∷ state) = term.weight * state_weight state

-- The number of names whose part has no smaller name.
abbrev pub loops : List Node → List Term → ℕ
loops nodes state = part_count (names_of nodes) (state_edges nodes state)

-- Over all states, the product of the weights times delta to the power of the state's loops and the free loops.
abbrev pub state_sum : ℕ → Network → ℕ
state_sum delta network =
    sum_by (λ state. state_weight state * delta ^ (loops network.nodes state + network.free_loops)) (states network.nodes)

-- The residue of the state sum modulo m.
unfoldable pub value : ℕ → ℕ → Network → ℕ
value m delta network = state_sum delta network % m
