-- Pieces glued: the sum of nodes and rest over patterns of the outer open names is the sum of the nodes alone, where each
-- of their patterns is worth what the rest then comes to.
--
--     glued_worth delta rest more inner outer worth found     what the rest comes to where a pattern's edges stand in for
--                                                             the nodes, and outer names are left open
use Rattle.std.proofs.Common.{◌≡◌, ℕ, ◌+◌, ◌*◌, ◌^◌, ◌%◌, true, ◌==◌, List, ◌++◌, zip, sym, ap, ◌∙◌, arith, mul_assoc}
use Rattle.std.specs.List.{AllPass}
use Rattle.std.specs.Set.{is_member}
use Rattle.std.proofs.Math.Pow.{pow-add}
use Rattle.std.proofs.lemmas.List.Concat.{flat_map-append}
use Rattle.std.proofs.lemmas.List.Elements.{All-weaker}
use Rattle.graph_parts.specs.Ends.{AreAmong}
use Rattle.graph_parts.specs.Patterns.{pattern, closed_parts, label_pattern, label_closed}
use Rattle.graph_parts.proofs.Agreement.{from_All}
use Rattle.graph_parts.proofs.Distinct.{is_member-append}
use Rattle.graph_parts.proofs.PartLaws.{AreAmong-glued}
use Rattle.graph_parts.proofs.PatternLabels.{pattern-labels, closed_parts-labels, label_pattern-among}
use Rattle.graph_parts.proofs.Gluing.{label_pattern-glue, label_closed-glue}
use Rattle.state_sums.specs.LocalSums.{pattern_sum, rest_sum, SameEverywhere, IsCut}
use Rattle.state_sums.specs.Networks.{Node, Network, names_of}
use Rattle.state_sums.proofs.Coefficients.{SameEverywhere-from_worth, worth-from_SameEverywhere}
use Rattle.state_sums.proofs.LabelSums.{label_weighed, pattern_sum-labels}
use Rattle.state_sums.proofs.Replacing.{HavePlaces-append}
use Rattle.state_sums.proofs.StateEdges.{HavePlaces, total_same}
use Rattle.state_sums.proofs.Sums.{total, total_is, total-append, total-times}

abbrev pub glued_worth : ℕ → List Node → ℕ → List ℕ → List ℕ → (List ℕ → ℕ) → List ℕ → ℕ
glued_worth delta rest more inner outer worth found =
    total rest (λ fs. delta ^ (label_closed (zip inner found ++ fs) (names_of rest ++ inner) outer + more) * worth (label_pattern (zip inner found ++ fs) outer))

-- outer open names are names of both together
outer_names : (nodes rest : List Node) (inner outer : List ℕ) → AllPass (is_member ◌==◌ (names_of nodes)) inner → AllPass (is_member ◌==◌ (names_of rest ++ inner)) outer →
    AllPass (is_member ◌==◌ (names_of (nodes ++ rest))) outer
outer_names nodes rest inner outer has left =
    let names = names_of nodes in
    let others = names_of rest in
    let both = flat_map-append (λ node. node.ends) nodes rest in
    All-weaker (λ x. is_member ◌==◌ (others ++ inner) x ≡ true) (λ x. is_member ◌==◌ (names_of (nodes ++ rest)) x ≡ true)
    (λ x m.
    ap (λ ns. is_member ◌==◌ ns x) both
    ∙ is_member-append names others x
    ∙ (let a = is_member-append others inner x in let i = from_All (is_member ◌==◌ names) inner has x in grind (arith, m, a, i)))
    outer left

-- THE GLUING LEMMA
pub pattern_sum-glue : (delta : ℕ) (nodes rest : List Node) (inner outer : List ℕ) (free more : ℕ) (worth : List ℕ → ℕ) → HavePlaces nodes → HavePlaces rest → IsCut nodes rest inner →
    AllPass (is_member ◌==◌ (names_of rest ++ inner)) outer →
    pattern_sum delta record { nodes = nodes ++ rest; free_loops = free + more } outer worth
    ≡ pattern_sum delta record { nodes = nodes; free_loops = free } inner (glued_worth delta rest more inner outer worth)
pattern_sum-glue delta nodes rest inner outer free more worth nodes_ok rest_ok cut left =
    let names = names_of nodes in
    let others = names_of rest in
    let whole : List (ℕ × ℕ) → ℕ = label_weighed delta (nodes ++ rest) (free + more) outer worth in
    let part : List ℕ → List (ℕ × ℕ) → ℕ = λ found fs.
    delta ^ (label_closed (zip inner found ++ fs) (others ++ inner) outer + more) * worth (label_pattern (zip inner found ++ fs) outer) in
    let weighed : List (ℕ × ℕ) → ℕ = label_weighed delta nodes free inner (glued_worth delta rest more inner outer worth) in
    let one : (es : List (ℕ × ℕ)) → AreAmong names es → total rest (λ fs. whole (es ++ fs)) ≡ weighed es =
    λ es p.
    total_same rest rest_ok (λ fs. whole (es ++ fs)) (λ fs. delta ^ (label_closed es names inner + free) * part (label_pattern es inner) fs)
    (λ fs q.
    let split = ap (λ ns. label_closed (es ++ fs) ns outer) (flat_map-append (λ node. node.ends) nodes rest)
    ∙ label_closed-glue names others inner outer es fs p q cut.has_open cut.meets left in
    let c = label_closed es names inner in
    let k = label_closed (zip inner (label_pattern es inner) ++ fs) (others ++ inner) outer in
    let t : label_closed (es ++ fs) (names_of (nodes ++ rest)) outer + (free + more) ≡ (c + free) + (k + more) = omega (arith, split) in
    ap (λ w. delta ^ (label_closed (es ++ fs) (names_of (nodes ++ rest)) outer + (free + more)) * worth w)
    (label_pattern-glue names others inner outer es fs p q cut.has_open cut.meets left)
    ∙ ap (λ n. n * worth (label_pattern (zip inner (label_pattern es inner) ++ fs) outer)) (ap (λ i. delta ^ i) t ∙ pow-add delta (c + free) (k + more))
    ∙ mul_assoc (delta ^ (c + free)) (delta ^ (k + more)) (worth (label_pattern (zip inner (label_pattern es inner) ++ fs) outer)))
    ∙ total-times (delta ^ (label_closed es names inner + free)) rest (part (label_pattern es inner)) in
    pattern_sum-labels delta (nodes ++ rest) (free + more) outer worth (HavePlaces-append nodes rest nodes_ok rest_ok) (outer_names nodes rest inner outer cut.has_open left)
    ∙ total-append nodes rest whole
    ∙ total_same nodes nodes_ok (λ es. total rest (λ fs. whole (es ++ fs))) weighed one
    ∙ sym (pattern_sum-labels delta nodes free inner (glued_worth delta rest more inner outer worth) nodes_ok cut.has_open)

-- ALIKE EVERYWHERE IS KEPT UNDER ADDING NODES
pub kept_under_nodes : (m delta : ℕ) (inner outer : List ℕ) (old new : Network) (rest : List Node) (more : ℕ) →
    HavePlaces old.nodes → HavePlaces new.nodes → HavePlaces rest → IsCut old.nodes rest inner → IsCut new.nodes rest inner → AllPass (is_member ◌==◌ (names_of rest ++ inner)) outer →
    SameEverywhere m delta inner old new →
    SameEverywhere m delta outer record { nodes = old.nodes ++ rest; free_loops = old.free_loops + more } record { nodes = new.nodes ++ rest; free_loops = new.free_loops + more }
kept_under_nodes m delta inner outer old new rest more old_ok new_ok rest_ok old_cut new_cut left same =
    SameEverywhere-from_worth m delta outer _ _
    (λ worth.
    ap (λ n. n % m) (pattern_sum-glue delta old.nodes rest inner outer old.free_loops more worth old_ok rest_ok old_cut left)
    ∙ worth-from_SameEverywhere m delta inner old new same (glued_worth delta rest more inner outer worth)
    ∙ sym (ap (λ n. n % m) (pattern_sum-glue delta new.nodes rest inner outer new.free_loops more worth new_ok rest_ok new_cut left)))

-- GLUING
pub pattern_sum-rest : (delta : ℕ) (nodes rest : List Node) (inner outer : List ℕ) (free more : ℕ) (worth : List ℕ → ℕ) → HavePlaces nodes → HavePlaces rest → IsCut nodes rest inner →
    AllPass (is_member ◌==◌ (names_of rest ++ inner)) outer →
    pattern_sum delta record { nodes = nodes ++ rest; free_loops = free + more } outer worth
    ≡ pattern_sum delta record { nodes = nodes; free_loops = free } inner (rest_sum delta rest more inner outer worth)
pattern_sum-rest delta nodes rest inner outer free more worth nodes_ok rest_ok cut left =
    let others = names_of rest in
    let by_labels : List ℕ → ℕ = glued_worth delta rest more inner outer worth in
    let by_parts : List ℕ → ℕ = rest_sum delta rest more inner outer worth in
    let one : (found : List ℕ) → AllPass (is_member ◌==◌ inner) found → by_labels found ≡ by_parts found =
    λ found has.
    let part : List (ℕ × ℕ) → ℕ = λ fs.
    delta ^ (closed_parts (others ++ inner) (zip inner found ++ fs) outer + more) * worth (pattern (others ++ inner) (zip inner found ++ fs) outer) in
    total_same rest rest_ok
    (λ fs. delta ^ (label_closed (zip inner found ++ fs) (others ++ inner) outer + more) * worth (label_pattern (zip inner found ++ fs) outer)) part
    (λ fs q.
    let among = AreAmong-glued others inner found fs has q in
    ap (λ n. delta ^ (n + more) * worth (label_pattern (zip inner found ++ fs) outer)) (sym (closed_parts-labels (others ++ inner) (zip inner found ++ fs) among outer left))
    ∙ ap (λ p. delta ^ (closed_parts (others ++ inner) (zip inner found ++ fs) outer + more) * worth p) (sym (pattern-labels (others ++ inner) (zip inner found ++ fs) among outer left)))
    ∙ sym (total_is rest part) in
    pattern_sum-glue delta nodes rest inner outer free more worth nodes_ok rest_ok cut left
    ∙ pattern_sum-labels delta nodes free inner by_labels nodes_ok cut.has_open
    ∙ total_same nodes nodes_ok (label_weighed delta nodes free inner by_labels) (label_weighed delta nodes free inner by_parts)
    (λ es p. ap (λ n. delta ^ (label_closed es (names_of nodes) inner + free) * n) (one (label_pattern es inner) (label_pattern-among es inner)))
    ∙ sym (pattern_sum-labels delta nodes free inner by_parts nodes_ok cut.has_open)
