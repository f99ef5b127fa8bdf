-- A state sum as nested sums over labels: the form in which all laws, and programs that sum over states, use it.
use Rattle.std.proofs.Common.{◌≡◌, ℕ, ◌+◌, ◌^◌, List, ap, ◌∙◌}
use Rattle.graph_parts.specs.Parts.{part_count}
use Rattle.graph_parts.specs.Labels.{label_of, label_count}
use Rattle.graph_parts.proofs.LeastNames.{part_count-labels}
use Rattle.state_sums.specs.Networks.{Node, names_of}
use Rattle.state_sums.specs.StateSums.{state_sum}
use Rattle.state_sums.proofs.StateEdges.{HavePlaces, total_same}
use Rattle.state_sums.proofs.Sums.{total, total_is}

-- The definition's sum over states, one node inside the other.
pub state_sum-nested : (delta : ℕ) (nodes : List Node) (free : ℕ) →
    state_sum delta record { nodes = nodes; free_loops = free } ≡ total nodes (λ es. delta ^ (part_count (names_of nodes) es + free))
state_sum-nested delta nodes free = total_is nodes (λ es. delta ^ (part_count (names_of nodes) es + free))

-- THE STATE SUM BY LABELS
pub state_sum-labels : (delta : ℕ) (nodes : List Node) (free : ℕ) → HavePlaces nodes →
    state_sum delta record { nodes = nodes; free_loops = free } ≡ total nodes (λ es. delta ^ (label_count (label_of es) (names_of nodes) + free))
state_sum-labels delta nodes free places =
    state_sum-nested delta nodes free
    ∙ total_same nodes places (λ es. delta ^ (part_count (names_of nodes) es + free)) (λ es. delta ^ (label_count (label_of es) (names_of nodes) + free))
    (λ es among. ap (λ n. delta ^ (n + free)) (part_count-labels (names_of nodes) es among))
