-- Groups do not matter: no sum over states reads them.
use Rattle.std.proofs.Common.{◌≡◌, ℕ, ◌+◌, ◌*◌, ◌%◌, ◌^◌, List, [], ◌∷◌, ◌++◌, map, refl, sym, ap, ◌∙◌}
use Rattle.graph_parts.specs.Parts.{part_count}
use Rattle.graph_parts.specs.Patterns.{pattern, closed_parts}
use Rattle.list_lemmas.proofs.Sums.{sum_by_same}
use Rattle.state_sums.specs.LocalSums.{pattern_sum}
use Rattle.state_sums.specs.Networks.{Node, names_of}
use Rattle.state_sums.specs.StateSums.{value}
use Rattle.state_sums.proofs.StateSums.{state_sum-nested}
use Rattle.state_sums.proofs.Sums.{total, total_is}
use Rattle.piece_laws.specs.Laws.{GroupsLaw}
use Rattle.piece_laws.specs.TurnedNodes.{without_group}

total-ungrouped : (nodes : List Node) (f : List (ℕ × ℕ) → ℕ) → total (map without_group nodes) f ≡ total nodes f
total-ungrouped [] f = refl
total-ungrouped (node ∷ nodes) f = sum_by_same _ _ node.terms (λ term. ap (λ n. term.weight * n) (total-ungrouped nodes _))

names-ungrouped : (nodes : List Node) → names_of (map without_group nodes) ≡ names_of nodes
names-ungrouped [] = refl
names-ungrouped (node ∷ nodes) = ap (λ xs. node.ends ++ xs) (names-ungrouped nodes)

-- what is read off the names and the edges of states is one without groups
both : (nodes : List Node) (f : List ℕ → List (ℕ × ℕ) → ℕ) → total (map without_group nodes) (f (names_of (map without_group nodes))) ≡ total nodes (f (names_of nodes))
both nodes f = total-ungrouped nodes (f (names_of (map without_group nodes))) ∙ ap (λ names. total nodes (f names)) (names-ungrouped nodes)

alike : (nodes others : List Node) (f : List ℕ → List (ℕ × ℕ) → ℕ) → map without_group nodes ≡ map without_group others →
    total nodes (f (names_of nodes)) ≡ total others (f (names_of others))
alike nodes others f same = sym (both nodes f) ∙ ap (λ ns. total ns (f (names_of ns))) same ∙ both others f

-- GROUPS DO NOT MATTER
pub groups : GroupsLaw
unfolding value pattern_sum
groups delta free nodes others same =
    let counted : List ℕ → List (ℕ × ℕ) → ℕ = λ names es. delta ^ (part_count names es + free) in
    record {
      values = λ m. ap (λ n. n % m) (state_sum-nested delta nodes free ∙ alike nodes others counted same ∙ sym (state_sum-nested delta others free));
      patterns = λ open_names worth.
          let weighed : List ℕ → List (ℕ × ℕ) → ℕ = λ names es. delta ^ (closed_parts names es open_names + free) * worth (pattern names es open_names) in
          total_is nodes (weighed (names_of nodes)) ∙ alike nodes others weighed same ∙ sym (total_is others (weighed (names_of others)));
    }
