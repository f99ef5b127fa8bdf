-- Sums over the states of some nodes, by the pairings of their open names (this project's own; the sum of a whole network
-- is the case with no open name).
--
--     pairing_sum delta nodes open_names worth             over all states of the nodes, the weights times delta to the closed
--                                                          parts, times what the pairing of the open names is worth
--     worth_before delta node inner outer worth partner    what a pairing of the inner open names is worth where one more node
--                                                          is glued to it: over the node's terms, the weight times delta to
--                                                          the parts that then close, times the worth of the glued pairing
use Rattle.std.specs.Prelude.{ℕ, ◌*◌, ◌^◌, List, ◌++◌}
use Rattle.std.specs.List.{sum_by}
use Rattle.graph_parts.specs.Patterns.{closed_parts}
use Rattle.state_sums.specs.Networks.{Node, names_of}
use Rattle.state_sums.specs.StateSums.{states, state_edges, state_weight}
use Rattle.arc_gluing.specs.Pairings.{pair_edges, partners_of}

-- Over all states of the nodes, where a pairing of the open names counts as the worth says.
abbrev pub pairing_sum : ℕ → List Node → List ℕ → (List ℕ → ℕ) → ℕ
pairing_sum delta nodes open_names worth =
    sum_by
    (λ state.
    state_weight state
    * (delta ^ closed_parts (names_of nodes) (state_edges nodes state) open_names
    * worth (partners_of (names_of nodes) (state_edges nodes state) open_names)))
    (states nodes)

-- Over the terms of one more node, glued to a pairing of the inner open names.
abbrev pub worth_before : ℕ → Node → List ℕ → List ℕ → (List ℕ → ℕ) → List ℕ → ℕ
worth_before delta node inner outer worth partner =
    sum_by
    (λ term.
    let edges = pair_edges inner partner ++ pair_edges node.ends term.partner in
    term.weight * (delta ^ closed_parts (inner ++ node.ends) edges outer * worth (partners_of (inner ++ node.ends) edges outer)))
    node.terms
