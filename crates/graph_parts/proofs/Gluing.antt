-- Gluing: of two graphs that share only the inner open names, the pattern and the closed parts of both together follow
-- from those of the first and from the second's edges. The first graph's pattern, taken as edges, stands in for it.
use Rattle.std.proofs.Common.{◌≡◌, ℕ, ◌+◌, true, ◌==◌, List, ◌++◌, map, zip, sym, ap, ◌∙◌, arith}
use Rattle.std.specs.List.{AllPass}
use Rattle.std.specs.Set.{is_member}
use Rattle.std.proofs.lemmas.List.Elements.{All-map, All-weaker}
use Rattle.graph_parts.specs.Ends.{AreAmong}
use Rattle.graph_parts.specs.Labels.{label_of, Agree}
use Rattle.graph_parts.specs.Patterns.{label_pattern, label_closed}
use Rattle.graph_parts.proofs.Agreement.{label_count-agree}
use Rattle.graph_parts.proofs.Counting.{Agree-after, is_member-map, label_after-append}
use Rattle.graph_parts.proofs.Distinct.{is_member-append, distinct_count-le_from_within}
use Rattle.graph_parts.proofs.Ends.{EndsAre-weaker}
use Rattle.graph_parts.proofs.Renaming.{first_like-agree, map_agree_on}
use Rattle.graph_parts.proofs.Through.{Agree-pattern, is_outer, label_count-through}

module _ (names others inner_open outer_open : List ℕ) (es fs : List (ℕ × ℕ)) (p : AreAmong names es) (q : AreAmong others fs)
    (has : AllPass (is_member ◌==◌ names) inner_open)
    (meets : (x : ℕ) → is_member ◌==◌ others x ≡ true → is_member ◌==◌ names x ≡ true → is_member ◌==◌ inner_open x ≡ true)
    (left : AllPass (is_member ◌==◌ (others ++ inner_open)) outer_open) where
  outer_others : (x : ℕ) → is_member ◌==◌ others x ≡ true → is_outer names inner_open x ≡ true
  outer_others x m = let k = meets x m in grind (arith, k)

  left_outer : AllPass (is_outer names inner_open) outer_open
  left_outer =
      All-weaker (λ x. is_member ◌==◌ (others ++ inner_open) x ≡ true) (λ x. is_outer names inner_open x ≡ true)
      (λ x m. let a = is_member-append others inner_open x in let k = outer_others x in grind (arith, m, a, k)) outer_open left

  agree : Agree (is_outer names inner_open) (label_of (es ++ fs)) (label_of (zip inner_open (label_pattern es inner_open) ++ fs))
  agree =
      let h = Agree-after (is_outer names inner_open) (label_of es) (label_of (zip inner_open (label_pattern es inner_open))) fs
      (EndsAre-weaker (is_member ◌==◌ others) (is_outer names inner_open) outer_others fs q) (Agree-pattern names inner_open es p) in
      λ u v hu hv. ap (λ k. k u == k v) (label_after-append (λ x. x) es fs) ∙ h u v hu hv ∙ sym (ap (λ k. k u == k v) (label_after-append (λ x. x) (zip inner_open (label_pattern es inner_open)) fs))

  -- THE PATTERN OF BOTH
  pub label_pattern-glue : label_pattern (es ++ fs) outer_open ≡ label_pattern (zip inner_open (label_pattern es inner_open) ++ fs) outer_open
  label_pattern-glue =
      map_agree_on (is_outer names inner_open) _ _ outer_open left_outer
      (λ x m. first_like-agree (is_outer names inner_open) (label_of (es ++ fs)) (label_of (zip inner_open (label_pattern es inner_open) ++ fs)) outer_open x agree m left_outer)

  -- THE CLOSED PARTS OF BOTH
  pub label_closed-glue : label_closed (es ++ fs) (names ++ others) outer_open ≡ label_closed es names inner_open + label_closed (zip inner_open (label_pattern es inner_open) ++ fs) (others ++ inner_open) outer_open
  label_closed-glue =
      let after = label_of (zip inner_open (label_pattern es inner_open) ++ fs) in
      let whole = label_count-through names others inner_open es fs p q has meets in
      let same = label_count-agree (is_outer names inner_open) (label_of (es ++ fs)) after outer_open agree left_outer in
      let below = distinct_count-le_from_within (map after outer_open) (map after (others ++ inner_open))
      (All-map (λ z. is_member ◌==◌ (map after (others ++ inner_open)) z ≡ true) after outer_open
      (All-weaker (λ x. is_member ◌==◌ (others ++ inner_open) x ≡ true) (λ x. is_member ◌==◌ (map after (others ++ inner_open)) (after x) ≡ true)
      (λ x m. is_member-map after (others ++ inner_open) x m) outer_open left)) in
      omega (arith, whole, same, below)
