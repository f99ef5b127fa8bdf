-- The strands of one item more, that the ends of strands are labels, and that no label is above the greatest.
use Rattle.std.proofs.Common.{take, cond, map, get_or, ◌≡◌, ℕ, ◌+◌, ◌<◌, ◌≤◌, ◌==◌, ◌||◌, Bool, true, List, [], ◌∷◌, ◌++◌, length, slice_index, refl, sym, ap, ◌∙◌, arith, append_assoc, append-nil, All, ⊎_elim}
use Rattle.std.specs.List.{AllByRecursion, filter}
use Rattle.std.specs.Set.{is_member}
use Rattle.std.proofs.lemmas.Bool.{eqb-true, or_cases, or_left, or_right}
use Rattle.std.proofs.lemmas.List.Elements.{All-nil, All-cons, All-head, All-tail}
use Rattle.graph_parts.specs.Ends.{EndsAre}
use Rattle.graph_parts.proofs.Distinct.{is_member-append}
use Rattle.graph_parts.proofs.Ends.{is_member-get_or}
use Rattle.pd_reader.specs.declared.item.Item.{Item}
use Rattle.pd_reader.specs.declared.item.Item.TheVariants as items
use Rattle.pd_reader.specs.Items.{item_labels, HasItsSlots}
use Rattle.pd_reader.specs.Diagrams.{labels}
use Rattle.pd_reader.proofs.ItemLabels.{labels-push}
use Rattle.std.proofs.lemmas.List.{take_more}
use Rattle.graph_parts.specs.Renaming.{renamed}
use Rattle.std.proofs.lemmas.List.{map-append}
use Rattle.planar_check.specs.Components.{item_strands, strand_edges, greatest, rank}

pub strand_edges-push : (xs : List Item) (x : Item) → strand_edges (xs ++ x ∷ []) ≡ strand_edges xs ++ item_strands x
strand_edges-push [] x = append-nil (item_strands x)
strand_edges-push (y ∷ ys) x = ap (λ (es : List (ℕ × ℕ)). item_strands y ++ es) (strand_edges-push ys x) ∙ sym (append_assoc (item_strands y) (strand_edges ys) (item_strands x))

pub member_at_most : (xs : List ℕ) (x : ℕ) → is_member ◌==◌ xs x ≡ true → x ≤ greatest xs
member_at_most [] x m = absurd (grind (arith, m))
member_at_most (y ∷ ys) x m =
    ⊎_elim
    (λ t. let same = eqb-true x y t in omega (arith, same))
    (λ t. let ih = member_at_most ys x t in omega (arith, ih))
    (or_cases (x == y) (is_member ◌==◌ ys x) m)

module _ (p : ℕ → Bool) where
  item_inside : (item : Item) → HasItsSlots item → ((x : ℕ) → is_member ◌==◌ (item_labels item) x ≡ true → p x ≡ true) → (es : List (ℕ × ℕ)) → EndsAre p es → EndsAre p (item_strands item ++ es)
  item_inside (items.X slots) four h es rest =
      let at : (k : ℕ) → k < 4 → p (slice_index slots k) ≡ true = λ k l. h (slice_index slots k) (is_member-get_or slots k (omega (arith, l, four))) in
      ((at 0 (omega arith)), (at 2 (omega arith)), ((at 1 (omega arith)), (at 3 (omega arith)), rest))
  item_inside (items.Loop label) t h es rest = rest

  pub strands_inside : (xs : List Item) → AllByRecursion HasItsSlots xs → ((x : ℕ) → is_member ◌==◌ (labels item_labels xs) x ≡ true → p x ≡ true) → EndsAre p (strand_edges xs)
  strands_inside [] sizes h = tt
  strands_inside (y ∷ ys) sizes h =
      let split : (x : ℕ) → is_member ◌==◌ (item_labels y ++ labels item_labels ys) x ≡ (is_member ◌==◌ (item_labels y) x || is_member ◌==◌ (labels item_labels ys) x) = λ x. is_member-append (item_labels y) (labels item_labels ys) x in
      item_inside y sizes.0
      (λ x m. h x (split x ∙ or_left (is_member ◌==◌ (item_labels y) x) (is_member ◌==◌ (labels item_labels ys) x) m))
      (strand_edges ys)
      (strands_inside ys sizes.1 (λ x m. h x (split x ∙ or_right (is_member ◌==◌ (item_labels y) x) (is_member ◌==◌ (labels item_labels ys) x) m)))

pub ends_below : (p : ℕ → Bool) (n : ℕ) → ((x : ℕ) → p x ≡ true → x < n) → (es : List (ℕ × ℕ)) → EndsAre p es → All (λ edge. (edge.0 < n) × (edge.1 < n)) es
ends_below p n h [] e = All-nil (λ edge. (edge.0 < n) × (edge.1 < n))
ends_below p n h (edge ∷ es) e =
    let P : ℕ × ℕ → Type 0 = λ edge. (edge.0 < n) × (edge.1 < n) in
    All-cons P edge es (h edge.0 e.0, h edge.1 e.1) (ends_below p n h es e.2)

pub filter_same : (p q : ℕ → Bool) (ns : List ℕ) → All (λ x. p x ≡ q x) ns → filter p ns ≡ filter q ns
filter_same p q [] h = refl
filter_same p q (x ∷ ns) h =
    let P : ℕ → Type 0 = λ y. p y ≡ q y in
    let rest = filter_same p q ns (All-tail P x ns h) in
    ap (λ (b : Bool). cond b (x ∷ filter p ns) (filter p ns)) (All-head P x ns h) ∙ ap (λ (ys : List ℕ). cond (q x) (x ∷ ys) ys) rest

-- one item more
pub labels_more : (xs : List Item) (i : ℕ) (d : Item) (before after : List ℕ) → i < length xs → before ≡ labels item_labels (take i xs) → after ≡ before ++ item_labels (get_or xs i d)
    → after ≡ labels item_labels (take (i + 1) xs)
labels_more xs i d before after l b a =
    let x = get_or xs i d in
    a ∙ (ap (λ (ls : List ℕ). ls ++ item_labels x) b ∙ sym (ap (labels item_labels) (take_more xs i d l) ∙ labels-push item_labels (take i xs) x))

pub strands_more : (names : List ℕ) (xs : List Item) (i : ℕ) (d : Item) (before after : List (ℕ × ℕ)) → i < length xs → before ≡ map (renamed (rank names)) (strand_edges (take i xs))
    → after ≡ before ++ map (renamed (rank names)) (item_strands (get_or xs i d)) → after ≡ map (renamed (rank names)) (strand_edges (take (i + 1) xs))
strands_more names xs i d before after l b a =
    let x = get_or xs i d in
    let f : ℕ × ℕ → ℕ × ℕ = renamed (rank names) in
    a
    ∙ (ap (λ (es : List (ℕ × ℕ)). es ++ map f (item_strands x)) b
    ∙ (sym (map-append f (strand_edges (take i xs)) (item_strands x))
    ∙ ap (map f) (sym (ap strand_edges (take_more xs i d l) ∙ strand_edges-push (take i xs) x))))
