-- A piece's sum over patterns as nested sums over labels.
--
--     label_weighed delta nodes free open_names worth es     what a state with these edges counts, by labels
use Rattle.std.proofs.Common.{◌≡◌, ℕ, ◌+◌, ◌*◌, ◌^◌, ◌==◌, List, ap, ◌∙◌}
use Rattle.std.specs.List.{AllPass}
use Rattle.std.specs.Set.{is_member}
use Rattle.graph_parts.specs.Patterns.{pattern, closed_parts, label_pattern, label_closed}
use Rattle.graph_parts.proofs.PatternLabels.{pattern-labels, closed_parts-labels}
use Rattle.state_sums.specs.LocalSums.{pattern_sum}
use Rattle.state_sums.specs.Networks.{Node, names_of}
use Rattle.state_sums.proofs.StateEdges.{HavePlaces, total_same}
use Rattle.state_sums.proofs.Sums.{total, total_is}

abbrev pub label_weighed : ℕ → List Node → ℕ → List ℕ → (List ℕ → ℕ) → List (ℕ × ℕ) → ℕ
label_weighed delta nodes free open_names worth es = delta ^ (label_closed es (names_of nodes) open_names + free) * worth (label_pattern es open_names)

-- A SUM OVER PATTERNS BY LABELS
pub pattern_sum-labels : (delta : ℕ) (nodes : List Node) (free : ℕ) (open_names : List ℕ) (worth : List ℕ → ℕ) → HavePlaces nodes → AllPass (is_member ◌==◌ (names_of nodes)) open_names →
    pattern_sum delta record { nodes = nodes; free_loops = free } open_names worth ≡ total nodes (label_weighed delta nodes free open_names worth)
unfolding pattern_sum
pattern_sum-labels delta nodes free open_names worth places has =
    let names = names_of nodes in
    let weighed : List (ℕ × ℕ) → ℕ = λ es. delta ^ (closed_parts names es open_names + free) * worth (pattern names es open_names) in
    total_is nodes weighed
    ∙ total_same nodes places weighed (label_weighed delta nodes free open_names worth)
    (λ es among.
    ap (λ n. delta ^ (n + free) * worth (pattern names es open_names)) (closed_parts-labels names es among open_names has)
    ∙ ap (λ p. delta ^ (label_closed es names open_names + free) * worth p) (pattern-labels names es among open_names has))
