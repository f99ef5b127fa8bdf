-- The components of the items of a slide have their old numbers: the least label of each is the one that it had.
use Rattle.std.proofs.Common.{◌≡◌, ◌≢◌, ℕ, zero, suc, ◌+◌, ◌<◌, ◌≤◌, ◌==◌, Bool, true, false, cond, List, [], ◌∷◌, length, slice_index, count_by, refl, sym, ap, ap₂, subst, ◌∙◌, arith, inl, inr, ⊎_elim}
use Rattle.std.specs.Prelude.{nat_le}
use Rattle.std.specs.List.{AllByRecursion, range_with_len, filter}
use Rattle.std.specs.Set.{is_member}
use Rattle.std.proofs.lemmas.Bool.{cases_Bool, or_right}
use Rattle.graph_parts.specs.LeastNames.{least_label}
use Rattle.graph_parts.specs.Walks.{Joined, back, on}
use Rattle.graph_parts.proofs.Ends.{is_member-get_or}
use Rattle.graph_parts.proofs.LeastLabels.{AreLeast-labels, least_label-Joined}
use Rattle.pd_reader.specs.declared.item.Item.{Item}
use Rattle.pd_reader.specs.Items.{item_labels}
use Rattle.pd_reader.specs.Diagrams.{labels, IsDiagram}
use Rattle.planar_check.specs.Places.{labels_by_place, crossings_of}
use Rattle.planar_check.specs.Components.{greatest, component_least, is_least_of, least_labels, number_of, strand_edges}
use Rattle.slide_strands.specs.declared.strand.Strand.{Strand}
use Rattle.slide_strands.specs.declared.strand.Piece.{Piece}
use Rattle.slide_strands.specs.declared.strand.Piece.TheVariants.{Crossed, Free}
use Rattle.slide_strands.specs.Strands.{strands, end_of, end_sum, is_label, piece_edges}
use Rattle.slide_strands.specs.Components.{KeepsRoots}
use Rattle.slide_strands.proofs.Counted.{some_end}
use Rattle.slide_strands.proofs.Frees.{free}
use Rattle.slide_strands.proofs.Joins.{every_weaker, every_both, all_joined, walk_holds}
use Rattle.slide_strands.proofs.Slides.{classed_every}
use Rattle.slide_laws.specs.Directed.{directed, items_of}
use Rattle.slide_laws.specs.Slides.{top_of}
use Rattle.slide_laws.proofs.LoopLabels.{is_free, free_loops, least_cases, loop_is_least, placed_is_least, least_small}
use Rattle.slide_laws.proofs.DirectedItems.{items_back}
use Rattle.planar_check.proofs.Directions.{least_is, least_member}
use Rattle.list_lemmas.proofs.Items.{member_at}
use Rattle.planar_check.proofs.Crossings.{places_labels}
use Rattle.slide_laws.proofs.Roots.{root, root_of, number_some, number_back, least_again}
use Rattle.planar_check.proofs.FewComponents.{number_last}
use Rattle.planar_check.proofs.Strands.{member_at_most}
use Rattle.slide_laws.proofs.StartPieces.{start_class, start_below, none, IsComponent, edges_same, entered_once}

-- ---- filters of ranges
pub none_pass : (test : ℕ → Bool) (s n : ℕ) → ((y : ℕ) → s ≤ y → test y ≡ false) → filter test (range_with_len s n) ≡ []
none_pass test s zero h = refl
none_pass test s (suc n) h = ap (λ (b : Bool). cond b (s ∷ filter test (range_with_len (s + 1) n)) (filter test (range_with_len (s + 1) n))) (h s (omega arith)) ∙ none_pass test (s + 1) n (λ y l. h y (omega (arith, l)))

bounded : (test : ℕ → Bool) (s a b : ℕ) → a ≤ b → ((y : ℕ) → s + a ≤ y → test y ≡ false) → filter test (range_with_len s b) ≡ filter test (range_with_len s a)
bounded test s zero b l h = none_pass test s b (λ y k. h y (omega (arith, k)))
bounded test s (suc a) zero l h = absurd (omega (arith, l))
bounded test s (suc a) (suc b) l h = ap (λ (ys : List ℕ). cond (test s) (s ∷ ys) ys) (bounded test (s + 1) a b (omega (arith, l)) (λ y k. h y (omega (arith, k))))

same_tests : (p q : ℕ → Bool) (s n : ℕ) → ((y : ℕ) → p y ≡ q y) → filter p (range_with_len s n) ≡ filter q (range_with_len s n)
same_tests p q s zero h = refl
same_tests p q s (suc n) h = ap₂ (λ (b : Bool) (ys : List ℕ). cond b (s ∷ ys) ys) (h s) (same_tests p q (s + 1) n h)

same_filters : (p q : ℕ → Bool) (a b : ℕ) → ((y : ℕ) → p y ≡ q y) → ((y : ℕ) → p y ≡ true → y < a) → ((y : ℕ) → q y ≡ true → y < b) → filter p (range_with_len 0 a) ≡ filter q (range_with_len 0 b)
same_filters p q a b same below_a below_b =
    let past : (n : ℕ) → ((y : ℕ) → p y ≡ true → y < n) → (y : ℕ) → n ≤ y → p y ≡ false =
    λ n below y l. elim (cases_Bool (p y)) [ inl t ↦ absurd (let k = below y t in omega (arith, k, l)) | inr t ↦ t ] in
    let low : (y : ℕ) → p y ≡ true → y < b = λ y t. below_b y (sym (same y) ∙ t) in
    sym (bounded p 0 a (a + b) (omega arith) (λ y l. past a below_a y (omega (arith, l))))
    ∙ (bounded p 0 b (a + b) (omega arith) (λ y l. past b low y (omega (arith, l))) ∙ same_tests p q 0 b same)

iff_same : (a b : Bool) → (a ≡ true → b ≡ true) → (b ≡ true → a ≡ true) → a ≡ b
iff_same true b f g = sym (f refl)
iff_same false true f g = g refl
iff_same false false f g = refl

-- the label at each place is an end of a strand
at_places : (P : ℕ → Type 0) (ps : List Piece) → AllByRecursion (λ s. P s.from × P s.to) (strands ps) → (p : ℕ) → p < length (labels_by_place (crossings_of (items_of ps))) → P (slice_index (labels_by_place (crossings_of (items_of ps))) p)
at_places P [] h p l = absurd (omega (arith, l))
at_places P (Crossed u o ∷ ps) h zero l = h.0.0
at_places P (Crossed u o ∷ ps) h (suc zero) l = h.1.0.1
at_places P (Crossed u o ∷ ps) h (suc (suc zero)) l = h.0.1
at_places P (Crossed u o ∷ ps) h (suc (suc (suc zero))) l = h.1.0.0
at_places P (Crossed u o ∷ ps) h (suc (suc (suc (suc p)))) l = at_places P ps h.1.1 p (omega (arith, l))
at_places P (Free label ∷ ps) h p l = at_places P ps h p l

-- and the ends of strands stand at places
pub ends_placed : (ps : List Piece) → AllByRecursion (λ s. (is_member ◌==◌ (labels_by_place (crossings_of (items_of ps))) s.from ≡ true) × (is_member ◌==◌ (labels_by_place (crossings_of (items_of ps))) s.to ≡ true)) (strands ps)
ends_placed [] = tt
ends_placed (Crossed u o ∷ ps) =
    let rest = labels_by_place (crossings_of (items_of ps)) in
    let all = u.from ∷ o.to ∷ u.to ∷ o.from ∷ rest in
    let at : (i : ℕ) → i < length all → is_member ◌==◌ all (slice_index all i) ≡ true = λ i l. is_member-get_or all i l in (
      (at 0 (omega arith), at 2 (omega arith)),
      (
        (at 3 (omega arith), at 1 (omega arith)),
        every_weaker (λ s. (is_member ◌==◌ rest s.from ≡ true) × (is_member ◌==◌ rest s.to ≡ true)) (λ s. (is_member ◌==◌ all s.from ≡ true) × (is_member ◌==◌ all s.to ≡ true))
            (λ s h. (later u o rest s.from h.0, later u o rest s.to h.1)) (strands ps) (ends_placed ps),
      ),
    )
  where
    later : (u o : Strand) (rest : List ℕ) (x : ℕ) → is_member ◌==◌ rest x ≡ true → is_member ◌==◌ (u.from ∷ o.to ∷ u.to ∷ o.from ∷ rest) x ≡ true
    later u o rest x h =
        or_right (x == u.from) _ (or_right (x == o.to) _ (or_right (x == u.to) _ (or_right (x == o.from) _ h)))
ends_placed (Free label ∷ ps) = ends_placed ps

module _ (xs : List Item) (diagram : IsDiagram xs) (j m : ℕ) (result : List Piece) (result_diagram : IsDiagram (items_of result))
    (above : top_of xs < m) (keeps : KeepsRoots (start_class xs diagram j) (root xs diagram) (none xs diagram) m result)
    (known : AllByRecursion (λ s. IsComponent xs diagram s.component) (strands result))
    (entered : (x : ℕ) → x < top_of xs + 1 → 1 ≤ end_sum true (is_label x) (strands (directed xs)) → 1 ≤ end_sum true (is_label x) (strands result))
    (same_free : free result ≡ free (directed xs)) where
  abbrev new : List Item
  new = items_of result

  abbrev ls : List ℕ
  ls = labels_by_place (crossings_of xs)

  abbrev ls' : List ℕ
  ls' = labels_by_place (crossings_of new)

  abbrev class : ℕ → ℕ
  class = keeps.new_class

  abbrev roots : ℕ → ℕ
  roots = root xs diagram

  abbrev es : List (ℕ × ℕ)
  es = piece_edges result

  -- what is known of the label at a place
  abbrev pub Fact : ℕ → Type 0
  Fact x = IsComponent xs diagram (class x) × Joined es x (roots (class x))

  pub facts : (p : ℕ) → p < length ls' → Fact (slice_index ls' p)
  facts = at_places Fact result
      (every_weaker
      (λ s. ((class s.from ≡ s.component) × (class s.to ≡ s.component)) × (IsComponent xs diagram s.component × (Joined es s.from (roots s.component) × Joined es s.from s.to)))
      (λ s. Fact s.from × Fact s.to)
      (λ s k.
      let at : (x : ℕ) → class x ≡ s.component → Joined es x (roots s.component) → Fact x =
      λ x e r. (subst (IsComponent xs diagram) (sym e) k.1.0, subst (λ (c : ℕ). Joined es x (roots c)) (sym e) r) in
      (at s.from k.0.0 k.1.1.0, at s.to k.0.1 (on (back k.1.1.1) k.1.1.0)))
      (strands result)
      (every_both _ _ (strands result) (classed_every class (strands result) keeps.has.classed) (every_both _ _ (strands result) known (every_both _ _ (strands result) keeps.has.rooted (all_joined result)))))

  one_class : (x y : ℕ) → Joined es x y → class x ≡ class y
  one_class = walk_holds (λ a b. class a ≡ class b) (λ a b e. sym e) (λ a. refl) (λ a b c e f. e ∙ f) result
      (every_weaker (λ s. (class s.from ≡ s.component) × (class s.to ≡ s.component)) (λ s. class s.from ≡ class s.to) (λ s k. k.0 ∙ sym k.1) (strands result) (classed_every class (strands result) keeps.has.classed))

  -- an old label of a component is not less than its root
  root_least : (c y : ℕ) → IsComponent xs diagram c → y ≤ roots c → class y ≡ c → y ≡ roots c
  root_least c y is l e =
      let q = is.0 in
      let w = is.1.0 in
      let at_root : roots c ≡ component_least xs (slice_index ls q) = ap roots (sym is.1.1) ∙ root_of xs diagram q w in
      let root_small : roots c ≤ top_of xs = let s = member_at_most (labels item_labels xs) (component_least xs (slice_index ls q)) (places_labels xs diagram.sizes (component_least xs (slice_index ls q)) (least_member xs diagram q w)) in omega (arith, at_root, s) in
      let small : y ≤ top_of xs = omega (arith, l, root_small) in
      let old : start_class xs diagram j y ≡ cond (is_member ◌==◌ ls y) (number_of xs y) 0 = start_below xs diagram j y small in
      let not_none : start_class xs diagram j y ≢ none xs diagram =
      λ h. (elim (cases_Bool (is_member ◌==◌ ls y)) [
        | inl t ↦ absurd (let v : number_of xs y ≡ none xs diagram = sym (ap (λ (b : Bool). cond b (number_of xs y) 0) t) ∙ (sym old ∙ h) in omega (arith, v, number_last xs y))
        | inr t ↦ absurd (let v : 0 ≡ none xs diagram = sym (ap (λ (b : Bool). cond b (number_of xs y) 0) t) ∙ (sym old ∙ h) in omega (arith, v))
      ]) in
      let now : c ≡ cond (is_member ◌==◌ ls y) (number_of xs y) 0 = sym e ∙ (keeps.as_before y (omega (arith, small, above)) not_none ∙ old) in
      elim (cases_Bool (is_member ◌==◌ ls y)) [
        | inl t ↦ (
            let p = member_at ls y t in
            let number : c ≡ number_of xs y = now ∙ ap (λ (b : Bool). cond b (number_of xs y) 0) t in
            let back_root : roots c ≡ component_least xs y = ap roots number ∙ (ap (λ (z : ℕ). roots (number_of xs z)) (sym p.2) ∙ (root_of xs diagram p.0 p.1 ∙ ap (component_least xs) p.2)) in
            let a = AreLeast-labels (strand_edges xs) in
            let below = a.below y in
            let is_least = least_is xs diagram y (places_labels xs diagram.sizes y t) in
            omega (arith, l, back_root, below, is_least))
        | inr t ↦ absurd (
            let zero_class : c ≡ 0 = now ∙ ap (λ (b : Bool). cond b (number_of xs y) 0) t in
            let some = number_some xs diagram q w in
            let same = is.1.1 in
            omega (arith, zero_class, some, same))
      ]

  edges_are : strand_edges new ≡ es
  edges_are = edges_same result

  -- THE LEAST LABEL OF EACH COMPONENT IS THE OLD ONE
  pub least_same : (p : ℕ) → p < length ls' → component_least new (slice_index ls' p) ≡ roots (class (slice_index ls' p))
  least_same p l =
      let x = slice_index ls' p in
      let f = facts p l in
      let c = class x in
      let a = AreLeast-labels es in
      let y = least_label es (roots c) in
      let here : component_least new x ≡ least_label es x = least_is new result_diagram x (places_labels new result_diagram.sizes x (is_member-get_or ls' p l)) ∙ ap (λ (e : List (ℕ × ℕ)). least_label e x) edges_are in
      let there : least_label es x ≡ y = (least_label-Joined es x (roots c)).1 f.1 in
      let j_y : Joined es (roots c) y = (least_label-Joined es (roots c) y).0 (sym (a.itself (roots c))) in
      let class_y : class y ≡ c = sym (one_class (roots c) y j_y) ∙ sym (one_class x (roots c) f.1) in
      here ∙ (there ∙ root_least c y f.0 (a.below (roots c)) class_y)

  -- a label that is entered stands at a place
  entered_placed : (x : ℕ) → 1 ≤ end_sum true (is_label x) (strands result) → is_member ◌==◌ ls' x ≡ true
  entered_placed x h = some_end (is_member ◌==◌ ls' x ≡ true) x (strands result)
      (every_weaker (λ s. (is_member ◌==◌ ls' s.from ≡ true) × (is_member ◌==◌ ls' s.to ≡ true)) (λ s. end_of true s ≡ x → is_member ◌==◌ ls' x ≡ true)
      (λ s k e. subst (λ (y : ℕ). is_member ◌==◌ ls' y ≡ true) e (at_end s.ahead s.from s.to k.0 k.1)) (strands result) (ends_placed result)) h
    where
      at_end : (b : Bool) (u v : ℕ) → is_member ◌==◌ ls' u ≡ true → is_member ◌==◌ ls' v ≡ true → is_member ◌==◌ ls' (cond b u v) ≡ true
      at_end true u v h k = h
      at_end false u v h k = k

  loops_same : (y : ℕ) → is_free new y ≡ is_free xs y
  loops_same y = free_loops result (directed xs) same_free y ∙ ap (λ (its : List Item). is_free its y) (items_back xs diagram.sizes)

  -- THE SAME LEAST LABELS
  tests_same : (y : ℕ) → is_least_of xs y ≡ is_least_of new y
  tests_same y =
      iff_same (is_least_of xs y) (is_least_of new y)
      (λ h. ⊎_elim
      (λ l. loop_is_least new result_diagram y (loops_same y ∙ l))
      (λ k.
      let p = member_at ls y k.0 in
      let small : y ≤ top_of xs = member_at_most (labels item_labels xs) y (places_labels xs diagram.sizes y k.0) in
      let one : end_sum true (is_label y) (strands (directed xs)) ≡ 1 = ap (λ (x : ℕ). end_sum true (is_label x) (strands (directed xs))) (sym p.2) ∙ entered_once xs diagram true p.0 p.1 in
      let there = entered_placed y (entered y (omega (arith, small)) (omega (arith, one))) in
      let p' = member_at ls' y there in
      let a = AreLeast-labels es in
      let f = facts p'.0 p'.1 in
      let class_of_y : class y ≡ number_of xs y =
      keeps.as_before y (omega (arith, small, above)) (λ e. absurd (omega (arith, sym (old_class y k.0 small) ∙ e, number_last xs y))) ∙ old_class y k.0 small in
      let is_root : roots (number_of xs y) ≡ y = ap (λ (z : ℕ). roots (number_of xs z)) (sym p.2) ∙ (root_of xs diagram p.0 p.1 ∙ (ap (component_least xs) p.2 ∙ k.1)) in
      placed_is_least new result_diagram y there
      (ap (component_least new) (sym p'.2) ∙ (least_same p'.0 p'.1 ∙ (ap (λ (z : ℕ). roots (class z)) p'.2 ∙ (ap roots class_of_y ∙ is_root)))))
      (least_cases xs diagram y h))
      (λ h. ⊎_elim
      (λ l. loop_is_least xs diagram y (sym (loops_same y) ∙ l))
      (λ k.
      let p = member_at ls' y k.0 in
      let f = facts p.0 p.1 in
      let q = f.0.0 in
      let w = f.0.1.0 in
      let is : y ≡ component_least xs (slice_index ls q) =
      sym k.1 ∙ (ap (component_least new) (sym p.2) ∙ (least_same p.0 p.1 ∙ (ap roots (sym f.0.1.1) ∙ root_of xs diagram q w))) in
      subst (λ (z : ℕ). is_least_of xs z ≡ true) (sym is) (placed_is_least xs diagram (component_least xs (slice_index ls q)) (least_member xs diagram q w) (least_again xs diagram q w)))
      (least_cases new result_diagram y h))
    where
      old_class : (y : ℕ) → is_member ◌==◌ ls y ≡ true → y ≤ top_of xs → start_class xs diagram j y ≡ number_of xs y
      old_class y t l = start_below xs diagram j y l ∙ ap (λ (b : Bool). cond b (number_of xs y) 0) t

  pub leasts_same : least_labels new ≡ least_labels xs
  unfolding least_labels
  leasts_same = sym (same_filters (is_least_of xs) (is_least_of new) (greatest (labels item_labels xs) + 1) (greatest (labels item_labels new) + 1) tests_same (least_small xs diagram) (least_small new result_diagram))

  -- THE NUMBERS
  pub number_same : (p : ℕ) → p < length ls' → number_of new (slice_index ls' p) ≡ class (slice_index ls' p)
  number_same p l =
      let f = facts p l in
      ap₂ (λ (leasts : List ℕ) (y : ℕ). count_by (λ least. nat_le least y) leasts) leasts_same (least_same p l)
      ∙ (ap (λ (c : ℕ). count_by (λ least. nat_le least (roots c)) (least_labels xs)) (sym f.0.1.1)
      ∙ (number_back xs diagram f.0.0 f.0.1.0 ∙ f.0.1.1))
