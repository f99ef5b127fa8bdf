-- A network's sum through the patterns of its first nodes, and replacement: pieces with one coefficient at each pattern of
-- their open names may stand for one another.
--
--     rest_worth delta rest more open_names found     what the rest comes to where a pattern's edges stand in for the nodes
use Rattle.std.proofs.Common.{◌≡◌, ℕ, ◌+◌, ◌*◌, ◌^◌, ◌%◌, List, ◌++◌, zip, sym, ap, ◌∙◌}
use Rattle.std.proofs.lemmas.List.Concat.{flat_map-append}
use Rattle.std.proofs.lemmas.List.Elements.{All-append}
use Rattle.graph_parts.specs.Ends.{AreAmong}
use Rattle.graph_parts.specs.Labels.{label_of, label_count}
use Rattle.graph_parts.specs.Patterns.{label_pattern, label_closed}
use Rattle.graph_parts.proofs.Through.{label_count-through}
use Rattle.state_sums.specs.LocalSums.{pattern_sum, SameEverywhere, IsCut}
use Rattle.state_sums.specs.Networks.{Node, Network, names_of}
use Rattle.state_sums.specs.StateSums.{state_sum, value}
use Rattle.state_sums.proofs.Coefficients.{worth-from_SameEverywhere}
use Rattle.state_sums.proofs.LabelSums.{label_weighed, pattern_sum-labels}
use Rattle.state_sums.proofs.StateEdges.{HasPlaces, HavePlaces, total_same}
use Rattle.state_sums.proofs.StateSums.{state_sum-labels}
use Rattle.state_sums.proofs.Sums.{total, total-append, total-times, power_through}

abbrev pub rest_worth : ℕ → List Node → ℕ → List ℕ → List ℕ → ℕ
rest_worth delta rest more open_names found =
    total rest (λ fs. delta ^ (label_count (label_of (zip open_names found ++ fs)) (names_of rest ++ open_names) + more))

pub HavePlaces-append : (nodes rest : List Node) → HavePlaces nodes → HavePlaces rest → HavePlaces (nodes ++ rest)
HavePlaces-append nodes rest p q = All-append HasPlaces nodes rest p q

-- A NETWORK'S SUM THROUGH THE PATTERNS OF ITS FIRST NODES
pub state_sum-through : (delta : ℕ) (nodes rest : List Node) (open_names : List ℕ) (free more : ℕ) → HavePlaces nodes → HavePlaces rest → IsCut nodes rest open_names →
    state_sum delta record { nodes = nodes ++ rest; free_loops = free + more } ≡ pattern_sum delta record { nodes = nodes; free_loops = free } open_names (rest_worth delta rest more open_names)
state_sum-through delta nodes rest open_names free more nodes_ok rest_ok cut =
    let names = names_of nodes in
    let others = names_of rest in
    let whole : List (ℕ × ℕ) → ℕ = λ es. delta ^ (label_count (label_of es) (names_of (nodes ++ rest)) + (free + more)) in
    let worth : List ℕ → List (ℕ × ℕ) → ℕ = λ found fs. delta ^ (label_count (label_of (zip open_names found ++ fs)) (others ++ open_names) + more) in
    let weighed : List (ℕ × ℕ) → ℕ = label_weighed delta nodes free open_names (rest_worth delta rest more open_names) in
    let one : (es : List (ℕ × ℕ)) → AreAmong names es → total rest (λ fs. whole (es ++ fs)) ≡ weighed es =
    λ es p.
    total_same rest rest_ok (λ fs. whole (es ++ fs)) (λ fs. delta ^ (label_closed es names open_names + free) * worth (label_pattern es open_names) fs)
    (λ fs q. power_through delta (label_count (label_of (es ++ fs)) (names_of (nodes ++ rest))) (label_closed es names open_names) _ free more
    (ap (label_count (label_of (es ++ fs))) (flat_map-append (λ node. node.ends) nodes rest)
    ∙ label_count-through names others open_names es fs p q cut.has_open cut.meets))
    ∙ total-times (delta ^ (label_closed es names open_names + free)) rest (worth (label_pattern es open_names)) in
    state_sum-labels delta (nodes ++ rest) (free + more) (HavePlaces-append nodes rest nodes_ok rest_ok)
    ∙ total-append nodes rest whole
    ∙ total_same nodes nodes_ok (λ es. total rest (λ fs. whole (es ++ fs))) weighed one
    ∙ sym (pattern_sum-labels delta nodes free open_names (rest_worth delta rest more open_names) nodes_ok cut.has_open)

-- REPLACEMENT
pub replaced : (m delta : ℕ) (open_names : List ℕ) (old new : Network) (rest : List Node) (more : ℕ) →
    HavePlaces old.nodes → HavePlaces new.nodes → HavePlaces rest → IsCut old.nodes rest open_names → IsCut new.nodes rest open_names →
    SameEverywhere m delta open_names old new →
    value m delta record { nodes = old.nodes ++ rest; free_loops = old.free_loops + more } ≡ value m delta record { nodes = new.nodes ++ rest; free_loops = new.free_loops + more }
unfolding value
replaced m delta open_names old new rest more old_ok new_ok rest_ok old_cut new_cut same =
    ap (λ n. n % m) (state_sum-through delta old.nodes rest open_names old.free_loops more old_ok rest_ok old_cut)
    ∙ worth-from_SameEverywhere m delta open_names old new same (rest_worth delta rest more open_names)
    ∙ sym (ap (λ n. n % m) (state_sum-through delta new.nodes rest open_names new.free_loops more new_ok rest_ok new_cut))
