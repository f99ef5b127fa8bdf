-- The laws of gluing, over the definitions alone. A list of nodes with a choice of one term in each pairs its open names,
-- and what one more node makes of it follows from that pairing.
--
--     AreFew nodes                                       no name stands more than twice in the nodes
--     IsGluedTo nodes node inner outer state term        what the state with one more term joins, from what the state joins
use Rattle.std.specs.Prelude.{◌≡◌, ℕ, ◌+◌, ◌*◌, ◌^◌, ◌≤◌, List, [], ◌∷◌, ◌++◌}
use Rattle.std.specs.List.{All}
use Rattle.graph_parts.specs.Ends.{AreAmong}
use Rattle.graph_parts.specs.Patterns.{closed_parts}
use Rattle.state_sums.specs.Networks.{Node, Term, IsNode, names_of}
use Rattle.state_sums.specs.StateSums.{states, state_edges, state_sum}
use Rattle.arc_gluing.specs.Pairings.{pair_edges, IsPairedBy, partners_of, AreOpen}
use Rattle.arc_gluing.specs.Sums.{pairing_sum, worth_before}
use Rattle.list_lemmas.specs.Times.{times_in}

-- No name stands more than twice in the nodes.
abbrev pub AreFew : List Node → Type 0
AreFew nodes = (x : ℕ) → times_in (names_of nodes) x ≤ 2

-- Each state of the nodes pairs their open names: each part has none or two of these.
abbrev pub PairedStatesLaw : Type 0
PairedStatesLaw =
    (nodes : List Node) (open_names : List ℕ) → All IsNode nodes → AreFew nodes → AreOpen (names_of nodes) open_names →
    All (λ state. IsPairedBy (state_edges nodes state) open_names (partners_of (names_of nodes) (state_edges nodes state) open_names)) (states nodes)

-- At most one pairing is that of the parts.
abbrev pub OnePairingLaw : Type 0
OnePairingLaw =
    (names open_names partner : List ℕ) (edges : List (ℕ × ℕ)) → AreAmong names edges → AreOpen names open_names → IsPairedBy edges open_names partner →
    partners_of names edges open_names ≡ partner

-- Gluing: with one more node, and one more term chosen, the pairing of the names that are then open, and the parts that are
-- then closed, follow from those of the state before.
pub record IsGluedTo (nodes : List Node) (node : Node) (inner outer : List ℕ) (state : List Term) (term : Term) : Type 0 where
  pub pairing :
      let edges = pair_edges inner (partners_of (names_of nodes) (state_edges nodes state) inner) ++ pair_edges node.ends term.partner in
      partners_of (names_of (nodes ++ node ∷ [])) (state_edges (nodes ++ node ∷ []) (state ++ term ∷ [])) outer ≡ partners_of (inner ++ node.ends) edges outer
  pub closed :
      let edges = pair_edges inner (partners_of (names_of nodes) (state_edges nodes state) inner) ++ pair_edges node.ends term.partner in
      closed_parts (names_of (nodes ++ node ∷ [])) (state_edges (nodes ++ node ∷ []) (state ++ term ∷ [])) outer
      ≡ closed_parts (names_of nodes) (state_edges nodes state) inner + closed_parts (inner ++ node.ends) edges outer

abbrev pub GluedNodeLaw : Type 0
GluedNodeLaw =
    (nodes : List Node) (node : Node) (inner outer : List ℕ) → All IsNode nodes → IsNode node →
    AreFew (nodes ++ node ∷ []) → AreOpen (names_of nodes) inner → AreOpen (names_of (nodes ++ node ∷ [])) outer →
    All (λ state. All (λ term. IsGluedTo nodes node inner outer state term) node.terms) (states nodes)

-- The same for the sum over all states, whatever the pairings are worth.
abbrev pub OneMoreNodeLaw : Type 0
OneMoreNodeLaw =
    (delta : ℕ) (nodes : List Node) (node : Node) (inner outer : List ℕ) (worth : List ℕ → ℕ) → All IsNode nodes → IsNode node →
    AreFew (nodes ++ node ∷ []) → AreOpen (names_of nodes) inner → AreOpen (names_of (nodes ++ node ∷ [])) outer →
    pairing_sum delta (nodes ++ node ∷ []) outer worth ≡ pairing_sum delta nodes inner (worth_before delta node inner outer worth)

-- With no open name the sum is the state sum.
abbrev pub WholeNetworkLaw : Type 0
WholeNetworkLaw =
    (delta free : ℕ) (nodes : List Node) → state_sum delta record { nodes = nodes; free_loops = free } ≡ delta ^ free * pairing_sum delta nodes [] (λ partner. 1)
