-- Two networks with no name in common: the sum over both is the product of the sums.
use Rattle.std.proofs.Common.{◌≡◌, ℕ, ◌+◌, ◌*◌, ◌^◌, true, false, ◌==◌, List, ◌++◌, sym, ap, ◌∙◌, mul_comm}
use Rattle.std.specs.Set.{is_member}
use Rattle.std.proofs.lemmas.List.Concat.{flat_map-append}
use Rattle.graph_parts.specs.Parts.{part_count}
use Rattle.graph_parts.proofs.PartLaws.{disjoint_graphs}
use Rattle.state_sums.specs.Networks.{Node, names_of}
use Rattle.state_sums.specs.StateSums.{state_sum}
use Rattle.state_sums.proofs.StateEdges.{HavePlaces, total_same}
use Rattle.state_sums.proofs.StateSums.{state_sum-nested}
use Rattle.state_sums.proofs.Sums.{total, total-append, total-times, power_through}

-- THE PRODUCT
pub state_sum-disjoint : (delta : ℕ) (nodes others : List Node) (free more : ℕ) → HavePlaces nodes → HavePlaces others →
    ((x : ℕ) → is_member ◌==◌ (names_of nodes) x ≡ true → is_member ◌==◌ (names_of others) x ≡ false) →
    state_sum delta record { nodes = nodes ++ others; free_loops = free + more }
    ≡ state_sum delta record { nodes = nodes; free_loops = free } * state_sum delta record { nodes = others; free_loops = more }
state_sum-disjoint delta nodes others free more p q apart =
    let whole : List (ℕ × ℕ) → ℕ = λ es. delta ^ (part_count (names_of (nodes ++ others)) es + (free + more)) in
    let first : List (ℕ × ℕ) → ℕ = λ es. delta ^ (part_count (names_of nodes) es + free) in
    let second : List (ℕ × ℕ) → ℕ = λ fs. delta ^ (part_count (names_of others) fs + more) in
    state_sum-nested delta (nodes ++ others) (free + more)
    ∙ total-append nodes others whole
    ∙ total_same nodes p (λ es. total others (λ fs. whole (es ++ fs))) (λ es. total others second * first es)
    (λ es in_nodes.
    total_same others q (λ fs. whole (es ++ fs)) (λ fs. first es * second fs)
    (λ fs in_others.
    power_through delta (part_count (names_of (nodes ++ others)) (es ++ fs)) (part_count (names_of nodes) es) (part_count (names_of others) fs) free more
    (ap (λ ns. part_count ns (es ++ fs)) (flat_map-append (λ node. node.ends) nodes others)
    ∙ disjoint_graphs (names_of nodes) (names_of others) es fs in_nodes in_others apart))
    ∙ total-times (first es) others second
    ∙ mul_comm (first es) (total others second))
    ∙ total-times (total others second) nodes first
    ∙ mul_comm (total others second) (total nodes first)
    ∙ ap (λ n. n * total others second) (sym (state_sum-nested delta nodes free))
    ∙ ap (λ n. state_sum delta record { nodes = nodes; free_loops = free } * n) (sym (state_sum-nested delta others more))
