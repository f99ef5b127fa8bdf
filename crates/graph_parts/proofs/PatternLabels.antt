-- Patterns and closed parts, by labels: a name has the first of the open names in its part just where it has the first with
-- its label, since names have one label where they are in one part.
use Rattle.std.proofs.Common.{◌≡◌, ℕ, suc, ◌-◌, true, false, cond, ◌==◌, List, [], ◌∷◌, refl, sym, ap, ◌∙◌, arith}
use Rattle.std.specs.List.{AllPass}
use Rattle.std.specs.Set.{is_member, distinct_count}
use Rattle.std.proofs.lemmas.Bool.{eq-eqb, eqb-true}
use Rattle.std.proofs.lemmas.List.Elements.{All-map, All-weaker}
use Rattle.graph_parts.specs.Ends.{AreAmong}
use Rattle.graph_parts.specs.Labels.{label_of, label_count, Agree}
use Rattle.graph_parts.specs.Parts.{part}
use Rattle.graph_parts.specs.Patterns.{first_among, first_open, pattern, closed_parts, first_like, label_pattern, label_closed}
use Rattle.graph_parts.proofs.Agreement.{label_count-agree, eqb_from_iff}
use Rattle.graph_parts.proofs.Ends.{is_member-itself}
use Rattle.graph_parts.proofs.LeastNames.{part_count-labels}
use Rattle.graph_parts.proofs.Renaming.{map_agree_on}
use Rattle.graph_parts.proofs.Rounds.{part-Joined}
use Rattle.graph_parts.proofs.Through.{first_like_label, first_like_same}
use Rattle.graph_parts.proofs.Walks.{Joined-from_labels, labels-from_Joined}
use Rattle.list_lemmas.proofs.Bools.{same_bool}

first_like_member : (l : ℕ → ℕ) (names ys : List ℕ) (x : ℕ) → AllPass (is_member ◌==◌ names) ys → is_member ◌==◌ names x ≡ true → is_member ◌==◌ names (first_like l ys x) ≡ true
first_like_member l names [] x a m = m
first_like_member l names (y ∷ ys) x a m =
    let ih = first_like_member l names ys x (λ i d k. a (suc i) d (omega (arith, k))) m in
    let here = a 0 y (omega arith) in
    elim (l x == l y) as (λ b. is_member ◌==◌ names (cond b y (first_like l ys x)) ≡ true) [ true ↦ here | false ↦ ih ]

pub label_pattern-among : (edges : List (ℕ × ℕ)) (open_names : List ℕ) → AllPass (is_member ◌==◌ open_names) (label_pattern edges open_names)
label_pattern-among edges open_names =
    All-map (λ z. is_member ◌==◌ open_names z ≡ true) (first_like (label_of edges) open_names) open_names
    (All-weaker (λ x. is_member ◌==◌ open_names x ≡ true) (λ x. is_member ◌==◌ open_names (first_like (label_of edges) open_names x) ≡ true)
    (λ x m. first_like_member (label_of edges) open_names open_names x (is_member-itself open_names) m) open_names (is_member-itself open_names))

module _ (names : List ℕ) (edges : List (ℕ × ℕ)) (among : AreAmong names edges) where
  in_part : (x y : ℕ) → is_member ◌==◌ names x ≡ true → is_member ◌==◌ (part names edges x) y ≡ (label_of edges x == label_of edges y)
  in_part x y there =
      same_bool (is_member ◌==◌ (part names edges x) y) (label_of edges x == label_of edges y)
      (λ m. eq-eqb (label_of edges x) (label_of edges y) (labels-from_Joined edges ((part-Joined names edges x y there among).0 m)))
      (λ t. (part-Joined names edges x y there among).1 (Joined-from_labels edges x y (eqb-true (label_of edges x) (label_of edges y) t)))

  first_labels : (ys : List ℕ) (x : ℕ) → is_member ◌==◌ names x ≡ true → first_among (part names edges x) ys x ≡ first_like (label_of edges) ys x
  first_labels [] x there = refl
  first_labels (y ∷ ys) x there = let ih = first_labels ys x there in let e = in_part x y there in grind (arith, ih, e)

  -- A PATTERN BY LABELS
  pub pattern-labels : (open_names : List ℕ) → AllPass (is_member ◌==◌ names) open_names → pattern names edges open_names ≡ label_pattern edges open_names
  pattern-labels open_names has =
      map_agree_on (is_member ◌==◌ names) (first_open names edges open_names) (first_like (label_of edges) open_names) open_names has (first_labels open_names)

  -- CLOSED PARTS BY LABELS
  pub closed_parts-labels : (open_names : List ℕ) → AllPass (is_member ◌==◌ names) open_names → closed_parts names edges open_names ≡ label_closed edges names open_names
  closed_parts-labels open_names has =
      let l : ℕ → ℕ = label_of edges in
      let first : ℕ → ℕ = first_like l open_names in
      let alike : Agree (is_member ◌==◌ open_names) first l =
      λ u v p q. eqb_from_iff (first u) (first v) (l u) (l v) (λ e. sym (first_like_label l open_names u) ∙ ap l e ∙ first_like_label l open_names v) (λ e. first_like_same l open_names u v e p) in
      ap (λ n. n - distinct_count ◌==◌ (pattern names edges open_names)) (part_count-labels names edges among)
      ∙ ap (λ xs. label_count l names - distinct_count ◌==◌ xs) (pattern-labels open_names has)
      ∙ ap (λ n. label_count l names - n) (label_count-agree (is_member ◌==◌ open_names) first l open_names alike (is_member-itself open_names))
