-- A loop with a new label is one component more, the last; the others stay as they were.
use Rattle.std.proofs.Common.{◌≡◌, ℕ, zero, suc, ◌+◌, ◌-◌, ◌<◌, ◌≤◌, ◌==◌, ◌&&◌, ◌||◌, Bool, true, false, cond, if◌then◌else◌, nat_le, min, max, fold, List, [], ◌∷◌, ◌++◌, length, count_by, filter, refl, sym, ap, ap₂, ◌∙◌, arith, ⊎_elim, append-nil, append_assoc}
use Rattle.std.specs.List.{AllByRecursion, range_with_len}
use Rattle.std.specs.Set.{is_member}
use Rattle.std.proofs.lemmas.Bool.{cases_Bool, eqb-true, eq-eqb, or_left, or_right, or_cases, and_parts}
use Rattle.std.proofs.lemmas.Bool.Decides.{nat_tests}
use Rattle.std.proofs.lemmas.List.Sums.{sum_by-append, sum_by-cons}
use Rattle.graph_parts.specs.Ends.{EndsAre}
use Rattle.graph_parts.specs.LeastNames.{least_name, join_least}
use Rattle.graph_parts.proofs.Distinct.{is_member-append}
use Rattle.graph_parts.proofs.LeastLabels.{least_name-label, AreLeast-labels}
use Rattle.pd_reader.specs.declared.item.Item.{Item}
use Rattle.pd_reader.specs.declared.item.Item.TheVariants.{Loop}
use Rattle.pd_reader.specs.Items.{item_labels, HasItsSlots}
use Rattle.pd_reader.specs.Diagrams.{labels}
use Rattle.planar_check.specs.Components.{strand_edges, greatest, component_least, is_least_of, least_labels, number_of}
use Rattle.list_lemmas.proofs.Ranges.{All-below}
use Rattle.list_lemmas.proofs.Ranges.{range_push}
use Rattle.planar_check.proofs.Strands.{strand_edges-push, member_at_most, strands_inside, filter_same}

labels-append : (xs ys : List Item) → labels item_labels (xs ++ ys) ≡ labels item_labels xs ++ labels item_labels ys
labels-append [] ys = refl
labels-append (x ∷ xs) ys = ap (λ ls. item_labels x ++ ls) (labels-append xs ys) ∙ sym (append_assoc (item_labels x) (labels item_labels xs) (labels item_labels ys))

greatest-append : (xs ys : List ℕ) → greatest (xs ++ ys) ≡ max (greatest xs) (greatest ys)
greatest-append [] ys = omega arith
greatest-append (x ∷ xs) ys = let ih = greatest-append xs ys in omega (arith, ih)

filter-append : (p : ℕ → Bool) (xs ys : List ℕ) → filter p (xs ++ ys) ≡ filter p xs ++ filter p ys
filter-append p [] ys = refl
filter-append p (x ∷ xs) ys =
    let ih = filter-append p xs ys in
    elim (p x) as (λ b. cond b (x ∷ filter p (xs ++ ys)) (filter p (xs ++ ys)) ≡ cond b (x ∷ filter p xs) (filter p xs) ++ filter p ys) [ true ↦ ap (λ zs. x ∷ zs) ih | false ↦ ih ]

-- numbers past which none passes add nothing
filter-past : (p : ℕ → Bool) (n k : ℕ) → ((x : ℕ) → n ≤ x → p x ≡ false) → filter p (range_with_len 0 (n + k)) ≡ filter p (range_with_len 0 n)
filter-past p n zero h = let z : n + 0 ≡ n = omega arith in ap (λ i. filter p (range_with_len 0 i)) z
filter-past p n (suc k) h =
    let z : n + suc k ≡ n + k + 1 = omega arith in
    ap (λ i. filter p (range_with_len 0 i)) z
    ∙ ap (filter p) (range_push (n + k))
    ∙ filter-append p (range_with_len 0 (n + k)) ((n + k) ∷ [])
    ∙ ap (λ b. filter p (range_with_len 0 (n + k)) ++ cond b ((n + k) ∷ []) []) (h (n + k) (omega arith))
    ∙ append-nil (filter p (range_with_len 0 (n + k)))
    ∙ filter-past p n k h

-- what is kept passes
kept_passes : (p : ℕ → Bool) (xs : List ℕ) (x : ℕ) → is_member ◌==◌ (filter p xs) x ≡ true → p x ≡ true
kept_passes p [] x m = absurd (grind (arith, m))
kept_passes p (y ∷ xs) x m =
    ⊎_elim
    (λ t. ⊎_elim (λ e. ap p (eqb-true x y e) ∙ t) (λ r. kept_passes p xs x r)
    (or_cases (x == y) (is_member ◌==◌ (filter p xs) x) (sym (ap (λ b. is_member ◌==◌ (cond b (y ∷ filter p xs) (filter p xs)) x) t) ∙ m)))
    (λ f. kept_passes p xs x (sym (ap (λ b. is_member ◌==◌ (cond b (y ∷ filter p xs) (filter p xs)) x) f) ∙ m))
    (cases_Bool (p y))

-- a number past all ends keeps itself as its label
past_label : (es : List (ℕ × ℕ)) (l : ℕ) (f : ℕ → ℕ) → EndsAre (λ x. nat_le (x + 1) l) es → f l ≡ l → ((x : ℕ) → x < l → f x < l) → fold join_least f es l ≡ l
past_label [] l f ends itself low = itself
past_label (e ∷ es) l f ends itself low =
    let a = low e.0 (under e.0 l ends.0) in
    let b = low e.1 (under e.1 l ends.1) in
    past_label es l (join_least f e) ends.2 (kept l (f l) (f e.0) (f e.1) itself a b) (λ x h. stays l (f x) (f e.0) (f e.1) (low x h) a b)
  where
    under : (x l : ℕ) → nat_le (x + 1) l ≡ true → x < l
    under x l t = grind (arith, nat_tests, t)

    kept : (l fl a b : ℕ) → fl ≡ l → a < l → b < l → (if fl == a || fl == b then min a b else fl) ≡ l
    kept l fl a b e ha hb = grind (arith, nat_tests, e, ha, hb)

    stays : (l fx a b : ℕ) → fx < l → a < l → b < l → (if fx == a || fx == b then min a b else fx) < l
    stays l fx a b h ha hb =
        elim (fx == a || fx == b) as (λ t. (if t then min a b else fx) < l) [ true ↦ omega (arith, ha, hb) | false ↦ h ]

module _ (items : List Item) (label : ℕ) (sizes : AllByRecursion HasItsSlots items) (past : greatest (labels item_labels items) < label) where
  abbrev pub added : List Item
  added = items ++ Loop label ∷ []

  abbrev ls : List ℕ
  ls = labels item_labels items

  labels-added : labels item_labels added ≡ ls ++ label ∷ label ∷ []
  labels-added = labels-append items (Loop label ∷ [])

  edges-added : strand_edges added ≡ strand_edges items
  edges-added = strand_edges-push items (Loop label) ∙ append-nil (strand_edges items)

  inside : EndsAre (is_member ◌==◌ ls) (strand_edges items)
  inside = strands_inside (is_member ◌==◌ ls) items sizes (λ x m. m)

  inside_added : EndsAre (is_member ◌==◌ (labels item_labels added)) (strand_edges items)
  inside_added = strands_inside (is_member ◌==◌ (labels item_labels added)) items sizes (λ x m.
      ap (λ xs. is_member ◌==◌ xs x) labels-added ∙ is_member-append ls (label ∷ label ∷ []) x ∙ or_left (is_member ◌==◌ ls x) (is_member ◌==◌ (label ∷ label ∷ []) x) m)

  below : (x : ℕ) → is_member ◌==◌ ls x ≡ true → x < label
  below x m = let h = member_at_most ls x m in omega (arith, h, past)

  -- the least label of a component stays
  pub component_least-added : (x : ℕ) → is_member ◌==◌ ls x ≡ true → component_least added x ≡ component_least items x
  unfolding component_least
  component_least-added x m =
      ap (λ es. least_name (labels item_labels added) es x) edges-added
      ∙ least_name-label (labels item_labels added) (strand_edges items) inside_added x
      (ap (λ xs. is_member ◌==◌ xs x) labels-added ∙ is_member-append ls (label ∷ label ∷ []) x ∙ or_left (is_member ◌==◌ ls x) (is_member ◌==◌ (label ∷ label ∷ []) x) m)
      ∙ sym (least_name-label ls (strand_edges items) inside x m)

  label_stands : is_member ◌==◌ (labels item_labels added) label ≡ true
  label_stands =
      ap (λ xs. is_member ◌==◌ xs label) labels-added ∙ is_member-append ls (label ∷ label ∷ []) label
      ∙ or_right (is_member ◌==◌ ls label) (is_member ◌==◌ (label ∷ label ∷ []) label) (or_left (label == label) (label == label || false) (eq-eqb label label refl))

  component_least-last : component_least added label ≡ label
  unfolding component_least
  component_least-last =
      ap (λ es. least_name (labels item_labels added) es label) edges-added
      ∙ least_name-label (labels item_labels added) (strand_edges items) inside_added label label_stands
      ∙ past_label (strand_edges items) label (λ x. x)
      (strands_inside (λ x. nat_le (x + 1) label) items sizes (λ x m. let b = below x m in grind (arith, nat_tests, b))) refl (λ x h. h)

  least_at_most : (x : ℕ) → is_member ◌==◌ ls x ≡ true → component_least items x ≤ x
  unfolding component_least
  least_at_most x m =
      let e = least_name-label ls (strand_edges items) inside x m in
      let b = (AreLeast-labels (strand_edges items)).below x in
      omega (arith, e, b)

  not_member : (x : ℕ) → is_member ◌==◌ ls x ≡ false → x < label → is_member ◌==◌ (labels item_labels added) x ≡ false
  not_member x f lt =
      ap (λ xs. is_member ◌==◌ xs x) labels-added ∙ is_member-append ls (label ∷ label ∷ []) x ∙ both (is_member ◌==◌ ls x) x label f lt
    where
      both : (b : Bool) (x l : ℕ) → b ≡ false → x < l → (b || (x == l || (x == l || false))) ≡ false
      both b x l e h = grind (arith, nat_tests, e, h)

  is_least_same : (x : ℕ) → x < label → is_least_of added x ≡ is_least_of items x
  is_least_same x lt =
      ⊎_elim
      (λ m. ap₂ (λ a b. a && (b == x))
      (ap (λ xs. is_member ◌==◌ xs x) labels-added ∙ is_member-append ls (label ∷ label ∷ []) x ∙ or_left (is_member ◌==◌ ls x) (is_member ◌==◌ (label ∷ label ∷ []) x) m ∙ sym m)
      (component_least-added x m))
      (λ f. ap (λ a. a && (component_least added x == x)) (not_member x f lt) ∙ sym (ap (λ a. a && (component_least items x == x)) f))
      (cases_Bool (is_member ◌==◌ ls x))

  greatest-added : greatest (labels item_labels added) ≡ label
  greatest-added = ap greatest labels-added ∙ greatest-append ls (label ∷ label ∷ []) ∙ (let h = past in omega (arith, h))

  -- ONE COMPONENT MORE, THE LAST
  pub least_labels-added : least_labels added ≡ least_labels items ++ label ∷ []
  unfolding least_labels
  least_labels-added =
      let g = greatest ls in
      let k : g + 1 + (label - (g + 1)) ≡ label = (let h = past in omega (arith, h)) in
      let here : is_least_of added label ≡ true = ap₂ (λ a b. a && (b == label)) label_stands component_least-last ∙ eq-eqb label label refl in
      ap (λ n. filter (is_least_of added) (range_with_len 0 (n + 1))) greatest-added
      ∙ ap (filter (is_least_of added)) (range_push label)
      ∙ filter-append (is_least_of added) (range_with_len 0 label) (label ∷ [])
      ∙ ap₂ (λ xs b. xs ++ cond b (label ∷ []) [])
      (filter_same (is_least_of added) (is_least_of items) (range_with_len 0 label) (All-below (λ x. is_least_of added x ≡ is_least_of items x) label is_least_same)
      ∙ ap (λ n. filter (is_least_of items) (range_with_len 0 n)) (sym k)
      ∙ filter-past (is_least_of items) (g + 1) (label - (g + 1)) (λ x h. none x h))
      here
    where
      none : (x : ℕ) → greatest ls + 1 ≤ x → is_least_of items x ≡ false
      none x h =
          ⊎_elim (λ m. absurd (let b = member_at_most ls x m in omega (arith, b, h))) (λ f. ap (λ a. a && (component_least items x == x)) f) (cases_Bool (is_member ◌==◌ ls x))

  one_last : (least : ℕ) → count_by (λ first. nat_le first least) (least_labels added) ≡ count_by (λ first. nat_le first least) (least_labels items) + cond (nat_le label least) 1 0
  one_last least =
      ap (count_by (λ first. nat_le first least)) least_labels-added
      ∙ sum_by-append (λ first. cond (nat_le first least) 1 0) (least_labels items) (label ∷ [])
      ∙ (let e = sum_by-cons (λ first. cond (nat_le first least) 1 0) label [] in omega (arith, e))

  pub number_of-added : (x : ℕ) → is_member ◌==◌ ls x ≡ true → number_of added x ≡ number_of items x
  number_of-added x m =
      let lt = below x m in
      let le = least_at_most x m in
      let off : nat_le label (component_least items x) ≡ false = grind (arith, nat_tests, lt, le) in
      ap (λ k. count_by (λ first. nat_le first k) (least_labels added)) (component_least-added x m)
      ∙ one_last (component_least items x)
      ∙ ap (λ b. number_of items x + cond b 1 0) off
      ∙ (omega arith)

  least_members : (x : ℕ) → is_member ◌==◌ (least_labels items) x ≡ true → x ≤ label
  unfolding least_labels
  least_members x m =
      let t = kept_passes (is_least_of items) (range_with_len 0 (greatest ls + 1)) x m in
      let b = below x (and_parts (is_member ◌==◌ ls x) (component_least items x == x) t).0 in
      omega (arith, b)

  -- ONE COMPONENT MORE, THE LAST
  pub number_of-last : number_of added label ≡ length (least_labels items) + 1
  number_of-last =
      let self : nat_le label label ≡ true = grind (arith, nat_tests) in
      ap (λ k. count_by (λ first. nat_le first k) (least_labels added)) component_least-last
      ∙ one_last label
      ∙ ap₂ (λ n b. n + cond b 1 0) (all_below (least_labels items) least_members) self
    where
      all_below : (xs : List ℕ) → ((x : ℕ) → is_member ◌==◌ xs x ≡ true → x ≤ label) → count_by (λ first. nat_le first label) xs ≡ length xs
      all_below [] h = refl
      all_below (x ∷ xs) h =
          let ih = all_below xs (λ y m. h y (or_right (y == x) (is_member ◌==◌ xs y) m)) in
          let more = sum_by-cons (λ first. cond (nat_le first label) 1 0) x xs in
          let le = h x (or_left (x == x) (is_member ◌==◌ xs x) (eq-eqb x x refl)) in
          grind (arith, nat_tests, ih, more, le)
