-- When two diagrams have components with the same least labels.
use Rattle.std.proofs.Common.{◌≡◌, ℕ, zero, suc, ◌+◌, ◌<◌, ◌≤◌, Bool, true, false, cond, ◌==◌, List, [], ◌∷◌, ◌++◌, slice_index, Contains, refl, sym, ap, ◌∙◌, arith, ⊎_elim, subst}
use Rattle.std.specs.List.{AllByRecursion, filter, range_with_len}
use Rattle.std.specs.Set.{is_member}
use Rattle.std.proofs.lemmas.Bool.{or_left, or_right, eq-eqb, eqb-true, cases_Bool, and_parts}
use Rattle.graph_parts.specs.Ends.{AreAmong}
use Rattle.graph_parts.specs.LeastNames.{least_label}
use Rattle.graph_parts.specs.Walks.{Joined, along, stay, back, on}
use Rattle.graph_parts.proofs.Distinct.{is_member-append}
use Rattle.graph_parts.proofs.Ends.{EndsAre-weaker, is_member-get_or}
use Rattle.graph_parts.proofs.LeastLabels.{AreLeast-labels, least_label-Joined, least_name-label}
use Rattle.pd_reader.specs.declared.item.Item.{Item}
use Rattle.pd_reader.specs.declared.item.Item.TheVariants as item
use Rattle.pd_reader.specs.Items.{item_labels, HasItsSlots}
use Rattle.pd_reader.specs.Diagrams.{labels}
use Rattle.planar_check.specs.Components.{strand_edges, component_least, is_least_of, least_labels, greatest}
use Rattle.planar_check.proofs.Strands.{member_at_most}

-- ---- strands join labels of the diagram
pub strands_among : (items : List Item) → AllByRecursion HasItsSlots items → AreAmong (labels item_labels items) (strand_edges items)
strands_among [] h = tt
strands_among (item.X slots ∷ rest) h =
    let all = slots ++ labels item_labels rest in
    let four = h.0 in
    let has : (i : ℕ) → i < 4 → is_member ◌==◌ all (slice_index slots i) ≡ true =
    λ i l. is_member-append slots (labels item_labels rest) (slice_index slots i) ∙ or_left (is_member ◌==◌ slots (slice_index slots i)) _ (is_member-get_or slots i (omega (arith, l, four))) in
    let later = EndsAre-weaker (is_member ◌==◌ (labels item_labels rest)) (is_member ◌==◌ all)
    (λ x m. is_member-append slots (labels item_labels rest) x ∙ or_right (is_member ◌==◌ slots x) (is_member ◌==◌ (labels item_labels rest) x) m) (strand_edges rest) (strands_among rest h.1) in
    (has 0 (omega arith), has 2 (omega arith), (has 1 (omega arith), has 3 (omega arith), later))
strands_among (item.Loop l ∷ rest) h =
    EndsAre-weaker (is_member ◌==◌ (labels item_labels rest)) (is_member ◌==◌ (l ∷ l ∷ labels item_labels rest))
    (λ x m. or_right (x == l) (is_member ◌==◌ (l ∷ labels item_labels rest) x) (or_right (x == l) (is_member ◌==◌ (labels item_labels rest) x) m)) (strand_edges rest) (strands_among rest h.1)

-- ---- the least label of a component is a label that no smaller one is joined with
abbrev pub IsLeast : List Item → ℕ → Type 0
IsLeast items l = (is_member ◌==◌ (labels item_labels items) l ≡ true) × ((y : ℕ) → Joined (strand_edges items) l y → l ≤ y)

module _ (items : List Item) (sizes : AllByRecursion HasItsSlots items) where
  pub least_is : (l : ℕ) → is_member ◌==◌ (labels item_labels items) l ≡ true → component_least items l ≡ least_label (strand_edges items) l
  unfolding component_least
  least_is l m = least_name-label (labels item_labels items) (strand_edges items) (strands_among items sizes) l m

  pub to_least : (l : ℕ) → is_least_of items l ≡ true → IsLeast items l
  to_least l h =
      let t = and_parts (is_member ◌==◌ (labels item_labels items) l) (component_least items l == l) h in
      let e : least_label (strand_edges items) l ≡ l = sym (least_is l t.0) ∙ eqb-true (component_least items l) l t.1 in
      let rules = AreLeast-labels (strand_edges items) in
      (t.0, λ y j. let same = (least_label-Joined (strand_edges items) l y).1 j in let below = rules.below y in omega (arith, e, same, below))

  pub from_least : (l : ℕ) → IsLeast items l → is_least_of items l ≡ true
  from_least l h =
      let m = h.0 in
      let rules = AreLeast-labels (strand_edges items) in
      let walk = (least_label-Joined (strand_edges items) l (least_label (strand_edges items) l)).0 (sym (rules.itself l)) in
      let above = h.1 (least_label (strand_edges items) l) walk in
      let below = rules.below l in
      let e : least_label (strand_edges items) l ≡ l = omega (arith, above, below) in
      let t = eq-eqb (component_least items l) l (least_is l m ∙ e) in
      grind (arith, m, t)

-- ---- lists of these
filter_same : (p q : ℕ → Bool) (xs : List ℕ) → ((x : ℕ) → p x ≡ q x) → filter p xs ≡ filter q xs
filter_same p q [] h = refl
filter_same p q (x ∷ xs) h = ap (λ c. cond c (x ∷ filter p xs) (filter p xs)) (h x) ∙ ap (λ ns. cond (q x) (x ∷ ns) ns) (filter_same p q xs h)

filter_none : (p : ℕ → Bool) (a n : ℕ) → ((x : ℕ) → a ≤ x → p x ≡ false) → filter p (range_with_len a n) ≡ []
filter_none p a zero h = refl
filter_none p a (suc n) h =
    ap (λ c. cond c (a ∷ filter p (range_with_len (a + 1) n)) (filter p (range_with_len (a + 1) n))) (h a (omega arith)) ∙ filter_none p (a + 1) n (λ x l. h x (omega (arith, l)))

filter_longer : (p : ℕ → Bool) (a n k : ℕ) → ((x : ℕ) → a + n ≤ x → p x ≡ false) → filter p (range_with_len a (n + k)) ≡ filter p (range_with_len a n)
filter_longer p a zero k h = ap (λ j. filter p (range_with_len a j)) (let e : 0 + k ≡ k = omega arith in e) ∙ filter_none p a k (λ x l. h x (omega (arith, l)))
filter_longer p a (suc n) k h =
    ap (λ j. filter p (range_with_len a j)) (let e : suc n + k ≡ suc (n + k) = omega arith in e)
    ∙ ap (λ ns. cond (p a) (a ∷ ns) ns) (filter_longer p (a + 1) n k (λ x l. h x (omega (arith, l))))

-- a range that is long enough
pub in_range_of : (p : ℕ → Bool) (n k : ℕ) → ((x : ℕ) → p x ≡ true → x < n) → ((x : ℕ) → p x ≡ true → x < k) → filter p (range_with_len 0 n) ≡ filter p (range_with_len 0 k)
in_range_of p n k h i =
    let far_n : (x : ℕ) → 0 + n ≤ x → p x ≡ false = λ x l. ⊎_elim (λ t. absurd (let s = h x t in omega (arith, s, l))) (λ f. f) (cases_Bool (p x)) in
    let far_k : (x : ℕ) → 0 + k ≤ x → p x ≡ false = λ x l. ⊎_elim (λ t. absurd (let s = i x t in omega (arith, s, l))) (λ f. f) (cases_Bool (p x)) in
    let one : n + k ≡ k + n = omega arith in
    sym (filter_longer p 0 n k far_n) ∙ ap (λ j. filter p (range_with_len 0 j)) one ∙ filter_longer p 0 k n far_k

pub bool_same : (p q : Bool) → (p ≡ true → q ≡ true) → (q ≡ true → p ≡ true) → p ≡ q
bool_same true q h k = sym (h refl)
bool_same false true h k = k refl
bool_same false false h k = refl

pub least_labels_by : (old new : List Item) → AllByRecursion HasItsSlots old → AllByRecursion HasItsSlots new →
    ((l : ℕ) → IsLeast old l → IsLeast new l) → ((l : ℕ) → IsLeast new l → IsLeast old l) → least_labels new ≡ least_labels old
unfolding least_labels
least_labels_by old new sizes_old sizes_new to from =
    let p = is_least_of new in
    let q = is_least_of old in
    let same : (l : ℕ) → p l ≡ q l = λ l. bool_same (p l) (q l) (λ t. from_least old sizes_old l (from l (to_least new sizes_new l t))) (λ t. from_least new sizes_new l (to l (to_least old sizes_old l t))) in
    let n = greatest (labels item_labels new) + 1 in
    let k = greatest (labels item_labels old) + 1 in
    in_range_of p n k
    (λ x t. let g = member_at_most (labels item_labels new) x (to_least new sizes_new x t).0 in omega (arith, g))
    (λ x t. let g = member_at_most (labels item_labels old) x (to_least old sizes_old x (sym (same x) ∙ t)).0 in omega (arith, g))
    ∙ filter_same p q (range_with_len 0 k) same

-- ---- walks along walks
pub joined_through : (es fs : List (ℕ × ℕ)) → ((x y : ℕ) → Contains es (x, y) → Joined fs x y) → {x y : ℕ} → Joined es x y → Joined fs x y
joined_through es fs h (along {x = x} {y = y} c) = h x y c
joined_through es fs h stay = stay
joined_through es fs h (back j) = back (joined_through es fs h j)
joined_through es fs h (on i j) = on (joined_through es fs h i) (joined_through es fs h j)

pub joined_as : (f : ℕ → ℕ) (es fs : List (ℕ × ℕ)) → ((x y : ℕ) → Contains es (x, y) → Joined fs (f x) (f y)) → {x y : ℕ} → Joined es x y → Joined fs (f x) (f y)
joined_as f es fs h (along {x = x} {y = y} c) = h x y c
joined_as f es fs h stay = stay
joined_as f es fs h (back j) = back (joined_as f es fs h j)
joined_as f es fs h (on i j) = on (joined_as f es fs h i) (joined_as f es fs h j)

-- The big diagram's labels are contracted to labels of the small one, each within its component and to no greater one.
pub record Contracts (big small : List Item) (f : ℕ → ℕ) : Type 0 where
  pub fixes : (l : ℕ) → is_member ◌==◌ (labels item_labels small) l ≡ true → f l ≡ l
  pub lowers : (l : ℕ) → f l ≤ l
  pub walks : (l : ℕ) → is_member ◌==◌ (labels item_labels big) l ≡ true → Joined (strand_edges big) l (f l)
  pub onto : (l : ℕ) → is_member ◌==◌ (labels item_labels big) l ≡ true → is_member ◌==◌ (labels item_labels small) (f l) ≡ true
  pub within : (l : ℕ) → is_member ◌==◌ (labels item_labels small) l ≡ true → is_member ◌==◌ (labels item_labels big) l ≡ true
  pub edge : (x y : ℕ) → Contains (strand_edges big) (x, y) → Joined (strand_edges small) (f x) (f y)
  pub edge_back : (x y : ℕ) → Contains (strand_edges small) (x, y) → Joined (strand_edges big) x y

pub least_in_small : (big small : List Item) (f : ℕ → ℕ) → Contracts big small f → (l : ℕ) → IsLeast big l → IsLeast small l
least_in_small big small f c l h =
    let m = h.0 in
    let low = c.lowers l in
    let high = h.1 (f l) (c.walks l m) in
    let fixed : f l ≡ l = omega (arith, low, high) in
    (sym (ap (is_member ◌==◌ (labels item_labels small)) fixed) ∙ c.onto l m, λ y j. h.1 y (joined_through (strand_edges small) (strand_edges big) c.edge_back j))

pub least_in_big : (big small : List Item) (f : ℕ → ℕ) → Contracts big small f → (l : ℕ) → IsLeast small l → IsLeast big l
least_in_big big small f c l h =
    let m = h.0 in
    let fixed = c.fixes l m in (
      c.within l m,
      λ y j.
          let walk = joined_as f (strand_edges big) (strand_edges small) c.edge j in
          let P : ℕ → Type 0 = λ z. Joined (strand_edges small) z (f y) in
          let high = h.1 (f y) (subst P fixed walk) in
          let low = c.lowers y in
          omega (arith, high, low),
    )
