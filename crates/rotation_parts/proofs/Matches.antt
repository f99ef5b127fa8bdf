-- Graphs between which walks go to and fro have as many parts.
use Rattle.std.proofs.Common.{◌≡◌, ℕ, ◌==◌, List, map, sym, ap, ◌∙◌, arith}
use Rattle.std.specs.Set.{is_member, distinct_count}
use Rattle.graph_parts.specs.Labels.{label_of, Agree}
use Rattle.graph_parts.specs.Walks.{back, on}
use Rattle.graph_parts.proofs.Agreement.{label_count-agree, eqb_from_iff, to_All}
use Rattle.graph_parts.proofs.Counting.{is_member-map}
use Rattle.graph_parts.proofs.Distinct.{distinct_count-le_from_within}
use Rattle.graph_parts.proofs.Ends.{is_member-itself}
use Rattle.graph_parts.proofs.LeastNames.{part_count-labels}
use Rattle.graph_parts.proofs.Walks.{labels-from_Joined, Joined-from_labels}
use Rattle.rotation_parts.specs.Laws.{MatchedGraphsLaw}
use Rattle.rotation_parts.specs.GraphMaps.{AreMatched}
use Rattle.rotation_parts.proofs.Exchange.{mapped_member}
use Rattle.rotation_parts.proofs.Retracts.{walks_along}

module _ (names others : List ℕ) (es fs : List (ℕ × ℕ)) (f g : ℕ → ℕ) (is : AreMatched names others es fs f g) where
  agree : Agree (is_member ◌==◌ names) (label_of es) (λ x. label_of fs (f x))
  agree x y mx my =
      eqb_from_iff (label_of es x) (label_of es y) (label_of fs (f x)) (label_of fs (f y))
      (λ e. labels-from_Joined fs (walks_along es fs f is.down (Joined-from_labels es x y e)))
      (λ e. labels-from_Joined es (on (is.near x mx) (on (walks_along fs es g is.up (Joined-from_labels fs (f x) (f y) e)) (back (is.near y my)))))

  abbrev label : ℕ → ℕ
  label = label_of fs

  abbrev sent : List ℕ
  sent = map (λ x. label (f x)) names

  same_count : distinct_count ◌==◌ sent ≡ distinct_count ◌==◌ (map label others)
  same_count =
      let a = distinct_count-le_from_within sent (map label others) (to_All (is_member ◌==◌ (map label others)) sent
      (λ z m. let w = mapped_member (λ x. label (f x)) names z m in ap (is_member ◌==◌ (map label others)) (sym w.2) ∙ is_member-map label others (f w.0) (is.onto_others w.0 w.1))) in
      let b = distinct_count-le_from_within (map label others) sent (to_All (is_member ◌==◌ sent) (map label others)
      (λ z m. let w = mapped_member label others z m in
      ap (is_member ◌==◌ sent) (sym w.2 ∙ labels-from_Joined fs (is.near_again w.0 w.1)) ∙ is_member-map (λ x. label (f x)) names (g w.0) (is.into_names w.0 w.1))) in
      omega (arith, a, b)

pub matched_graphs : MatchedGraphsLaw
matched_graphs names others es fs f g p q is =
    part_count-labels names es p
    ∙ label_count-agree (is_member ◌==◌ names) (label_of es) (λ x. label_of fs (f x)) names (agree names others es fs f g is) (is_member-itself names)
    ∙ same_count names others es fs f g is
    ∙ sym (part_count-labels others fs q)
