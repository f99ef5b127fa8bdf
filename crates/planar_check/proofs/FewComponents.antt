-- A diagram has at most 512 components: each has a label that stands twice, of at most 1,024 that stand at
-- the items. And the number of a label's component is from 1 to the number of components: the least label of the
-- component is itself a label, and its own least label.
use Rattle.std.proofs.Common.{◌≡◌, ℕ, zero, suc, ◌+◌, ◌*◌, ◌<◌, ◌≤◌, ◌==◌, Bool, true, cond, leb, min, List, [], ◌∷◌, length, count_by, refl, sym, subst, ap, ◌∙◌, arith, Option, Some, None, IfSome, ⊎_elim, ◌⊎◌, inl, inr, length-append, fold, filter}
use Rattle.std.specs.List.{AllByRecursion, range_with_len, sum_by}
use Rattle.std.specs.Set.{is_member}
use Rattle.std.proofs.lemmas.Bool.{cases_Bool, cases_order, eq-eqb, eqb-true, or_cases, and_from}
use Rattle.std.proofs.lemmas.Bool.Decides.{nat_tests}
use Rattle.std.proofs.lemmas.List.Sums.{count_by-le-length, length-filter, sum_by-cons}
use Rattle.graph_parts.specs.Ends.{EndsAre}
use Rattle.graph_parts.specs.LeastNames.{least_label, join_least}
use Rattle.graph_parts.proofs.LeastLabels.{least_name-label, AreLeast-labels}
use Rattle.graph_parts.proofs.Numbered.{is_member-numbered}
use Rattle.pd_reader.specs.declared.item.Item.{Item}
use Rattle.pd_reader.specs.declared.item.Item.TheVariants as items
use Rattle.pd_reader.specs.Items.{item_labels, HasItsSlots}
use Rattle.list_lemmas.specs.Times.{times_in}
use Rattle.pd_reader.specs.Diagrams.{labels, IsDiagram}
use Rattle.planar_check.specs.Components.{strand_edges, greatest, component_least, is_least_of, least_labels, number_of, component_of}
use Rattle.planar_check.proofs.Strands.{strands_inside, member_at_most}
use Rattle.list_lemmas.proofs.Bools.{and_first}

-- what a test counts
abbrev once : Bool → ℕ
once b = cond b 1 0

count-more : (p : ℕ → Bool) (x : ℕ) (xs : List ℕ) → count_by p (x ∷ xs) ≡ once (p x) + count_by p xs
count-more p x xs = sum_by-cons (λ y. once (p y)) x xs

-- ---- each number that passes stands twice in a list, so at most half as many pass as stand there
no_earlier : (l a n : ℕ) → l < a → count_by (λ x. x == l) (range_with_len a n) ≡ 0
no_earlier l a zero h = refl
no_earlier l a (suc n) h =
    let ih = no_earlier l (a + 1) n (omega (arith, h)) in
    let more = count-more (λ x. x == l) a (range_with_len (a + 1) n) in
    let none : once (a == l) ≡ 0 = grind (arith, nat_tests, h) in
    omega (arith, more, none, ih)

at_most_once : (l a n : ℕ) → count_by (λ x. x == l) (range_with_len a n) ≤ 1
at_most_once l a zero = omega arith
at_most_once l a (suc n) =
    let ih = at_most_once l (a + 1) n in
    let more = count-more (λ x. x == l) a (range_with_len (a + 1) n) in
    elim (cases_Bool (a == l)) [
      | inl t ↦ (let none = no_earlier l (a + 1) n (let same = eqb-true a l t in omega (arith, same)) in let one : once (a == l) ≡ 1 = ap once t in omega (arith, more, none, one))
      | inr t ↦ (let here : once (a == l) ≡ 0 = ap once t in omega (arith, more, here, ih))
    ]

sum-none : (xs : List ℕ) → sum_by (λ x. times_in [] x) xs ≡ 0
sum-none [] = refl
sum-none (x ∷ xs) = let more = sum_by-cons (λ y. times_in [] y) x xs in omega (arith, more, sum-none xs)

sum-cons : (l : ℕ) (ls xs : List ℕ) → sum_by (λ x. times_in (l ∷ ls) x) xs ≡ count_by (λ x. x == l) xs + sum_by (λ x. times_in ls x) xs
sum-cons l ls [] = refl
sum-cons l ls (x ∷ xs) =
    let whole = sum_by-cons (λ y. times_in (l ∷ ls) y) x xs in
    let rest = sum_by-cons (λ y. times_in ls y) x xs in
    let here = count-more (λ other. x == other) l ls in
    let first = count-more (λ y. y == l) x xs in
    omega (arith, whole, rest, here, first, sum-cons l ls xs)

sum-le : (n : ℕ) (ls : List ℕ) → sum_by (λ x. times_in ls x) (range_with_len 0 n) ≤ length ls
sum-le n [] = omega (arith, sum-none (range_with_len 0 n))
sum-le n (l ∷ ls) = omega (arith, sum-cons l ls (range_with_len 0 n), at_most_once l 0 n, sum-le n ls)

twice-le : (p : ℕ → Bool) (ls xs : List ℕ) → ((x : ℕ) → p x ≡ true → times_in ls x ≡ 2) → 2 * count_by p xs ≤ sum_by (λ x. times_in ls x) xs
twice-le p ls [] h = omega arith
twice-le p ls (x ∷ xs) h =
    let ih = twice-le p ls xs h in
    let more = count-more p x xs in
    let whole = sum_by-cons (λ y. times_in ls y) x xs in
    elim (cases_Bool (p x)) [
      | inl t ↦ (let two = h x t in let one : once (p x) ≡ 1 = ap once t in omega (arith, ih, more, whole, two, one))
      | inr t ↦ (let none : once (p x) ≡ 0 = ap once t in omega (arith, ih, more, whole, none))
    ]

item_short : (item : Item) → HasItsSlots item → length (item_labels item) ≤ 4
item_short (items.X slots) four = omega (arith, four)
item_short (items.Loop label) t = omega arith

labels_short : (xs : List Item) → AllByRecursion HasItsSlots xs → length (labels item_labels xs) ≤ 4 * length xs
labels_short [] sizes = omega arith
labels_short (x ∷ xs) sizes = omega (arith, length-append (item_labels x) (labels item_labels xs), item_short x sizes.0, labels_short xs sizes.1)

pub at_member : (P : ℕ → Type 0) (xs : List ℕ) → AllByRecursion P xs → (x : ℕ) → is_member ◌==◌ xs x ≡ true → P x
at_member P [] h x m = absurd (grind (arith, m))
at_member P (y ∷ ys) h x m =
    ⊎_elim (λ t. subst P (sym (eqb-true x y t)) h.0) (λ t. at_member P ys h.1 x t) (or_cases (x == y) (is_member ◌==◌ ys x) m)

module _ (xs : List Item) (diagram : IsDiagram xs) where
  abbrev ls : List ℕ
  ls = labels item_labels xs

  -- AT MOST 512 COMPONENTS
  pub few_components : length (least_labels xs) ≤ 512
  unfolding least_labels
  few_components =
      let n = greatest ls + 1 in
      let long = length-filter (is_least_of xs) (range_with_len 0 n) in
      let half = twice-le (is_least_of xs) ls (range_with_len 0 n) (λ x t. at_member (λ label. times_in ls label ≡ 2) ls diagram.twice x (and_first (is_member ◌==◌ ls x) (component_least xs x == x) t)) in
      omega (arith, long, half, sum-le n ls, labels_short xs diagram.sizes, diagram.few)

-- ---- labels by least ones stay among the ends of edges
either_min : (a b : ℕ) → (min a b ≡ a) ⊎ (min a b ≡ b)
either_min a b = ⊎_elim (λ e. inl (omega (arith, e))) (λ o. ⊎_elim (λ l. inl (omega (arith, l))) (λ g. inr (omega (arith, g))) o) (cases_order a b)

module _ (p : ℕ → Bool) where
  pub join_inside : (l : ℕ → ℕ) (e : ℕ × ℕ) → ((x : ℕ) → p x ≡ true → p (l x) ≡ true) → p e.0 ≡ true → p e.1 ≡ true → (x : ℕ) → p x ≡ true → p (join_least l e x) ≡ true
  join_inside l e h a b x t =
      let here = h x t in let left = h e.0 a in let right = h e.1 b in
      elim (cases_Bool (l x == l e.0)) [
        | inl q ↦ ⊎_elim (λ s. grind (arith, q, s, left)) (λ s. grind (arith, q, s, right)) (either_min (l e.0) (l e.1))
        | inr q ↦ elim (cases_Bool (l x == l e.1)) [
          | inl r ↦ ⊎_elim (λ s. grind (arith, q, r, s, left)) (λ s. grind (arith, q, r, s, right)) (either_min (l e.0) (l e.1))
          | inr r ↦ grind (arith, q, r, here)
        ]
      ]

  after_inside : (l : ℕ → ℕ) (es : List (ℕ × ℕ)) → ((x : ℕ) → p x ≡ true → p (l x) ≡ true) → EndsAre p es → (x : ℕ) → p x ≡ true → p (fold join_least l es x) ≡ true
  after_inside l [] h ends x t = h x t
  after_inside l (e ∷ es) h ends x t = after_inside (join_least l e) es (join_inside l e h ends.0 ends.1) ends.2 x t

counted : (q p : ℕ → Bool) (xs : List ℕ) (m : ℕ) → is_member ◌==◌ xs m ≡ true → q m ≡ true → p m ≡ true → 1 ≤ count_by p (filter q xs)
counted q p [] m t a b = absurd (grind (arith, t))
counted q p (y ∷ ys) m t a b =
    ⊎_elim
    (λ e.
    let same : y ≡ m = sym (eqb-true m y e) in
    let kept : q y ≡ true = ap q same ∙ a in
    let first : count_by p (filter q (y ∷ ys)) ≡ count_by p (y ∷ filter q ys) = ap (λ (c : Bool). count_by p (cond c (y ∷ filter q ys) (filter q ys))) kept in
    let one : once (p y) ≡ 1 = ap once (ap p same ∙ b) in
    omega (arith, first, count-more p y (filter q ys), one))
    (λ e.
    let ih = counted q p ys m e a b in
    let more = count-more p y (filter q ys) in
    elim (cases_Bool (q y)) [
      | inl k ↦ (let first : count_by p (filter q (y ∷ ys)) ≡ count_by p (y ∷ filter q ys) = ap (λ (c : Bool). count_by p (cond c (y ∷ filter q ys) (filter q ys))) k in omega (arith, first, more, ih))
      | inr k ↦ (let first : count_by p (filter q (y ∷ ys)) ≡ count_by p (filter q ys) = ap (λ (c : Bool). count_by p (cond c (y ∷ filter q ys) (filter q ys))) k in omega (arith, first, ih))
    ])
    (or_cases (m == y) (is_member ◌==◌ ys m) t)

module _ (xs : List Item) (sizes : AllByRecursion HasItsSlots xs) where
  abbrev here : List ℕ
  here = labels item_labels xs

  least_at_label : (x : ℕ) → is_member ◌==◌ here x ≡ true → component_least xs x ≡ least_label (strand_edges xs) x
  unfolding component_least
  least_at_label x m = least_name-label here (strand_edges xs) (strands_inside (is_member ◌==◌ here) xs sizes (λ y k. k)) x m

  -- the least label of a component is a label
  pub least_is_label : (x : ℕ) → is_member ◌==◌ here x ≡ true → is_member ◌==◌ here (component_least xs x) ≡ true
  least_is_label x m =
      ap (is_member ◌==◌ here) (least_at_label x m)
      ∙ after_inside (is_member ◌==◌ here) (λ y. y) (strand_edges xs) (λ y k. k) (strands_inside (is_member ◌==◌ here) xs sizes (λ y k. k)) x m

  -- and its own least label
  pub least_again : (x : ℕ) → is_member ◌==◌ here x ≡ true → component_least xs (component_least xs x) ≡ component_least xs x
  least_again x m =
      let l : ℕ → ℕ = least_label (strand_edges xs) in
      least_at_label (component_least xs x) (least_is_label x m)
      ∙ (ap l (least_at_label x m) ∙ ((AreLeast-labels (strand_edges xs)).itself x ∙ sym (least_at_label x m)))

  -- NUMBERS FROM 1
  pub number_first : (x : ℕ) → is_member ◌==◌ here x ≡ true → 1 ≤ number_of xs x
  unfolding least_labels
  number_first x m =
      let least = component_least xs x in
      let there = least_is_label x m in
      let within : least < greatest here + 1 = (let h = member_at_most here least there in omega (arith, h)) in
      counted (is_least_of xs) (λ k. leb k least) (range_with_len 0 (greatest here + 1)) least
      (is_member-numbered (greatest here + 1) least within)
      (and_from (is_member ◌==◌ here least) (component_least xs least == least) there (eq-eqb (component_least xs least) least (least_again x m)))
      (grind (arith, nat_tests))

-- TO THE NUMBER OF COMPONENTS
pub number_last : (xs : List Item) (x : ℕ) → number_of xs x ≤ length (least_labels xs)
number_last xs x = count_by-le-length (λ least. leb least (component_least xs x)) (least_labels xs)

-- so the component of a label is in range
pub component_in_range : (xs : List Item) → IsDiagram xs → (label : ℕ) (found : Option ℕ) → found ≡ component_of xs label → IfSome found (λ number. (1 ≤ number) × (number ≤ length (least_labels xs)))
component_in_range xs diagram label found is =
    let P : Option ℕ → Type 0 = λ answer. IfSome answer (λ number. (1 ≤ number) × (number ≤ length (least_labels xs))) in
    let there = is_member ◌==◌ (labels item_labels xs) label in
    subst P (sym is) (elim (cases_Bool there) [
      | inl t ↦ subst P (sym (ap (λ (b : Bool). cond b (Some (number_of xs label)) None) t)) (number_first xs diagram.sizes label t, number_last xs label)
      | inr t ↦ subst P (sym (ap (λ (b : Bool). cond b (Some (number_of xs label)) None) t)) tt
    ])
