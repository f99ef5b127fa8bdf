-- The labels of loops: they stand at no place, and each is the least of its component.
use Rattle.std.proofs.Common.{◌≡◌, ℕ, ◌+◌, ◌*◌, ◌<◌, ◌≤◌, ◌==◌, ◌&&◌, ◌||◌, Bool, true, false, cond, List, [], ◌∷◌, length, slice_index, refl, sym, ap, subst, ◌∙◌, arith, inl, inr, ◌⊎◌, ⊎_elim, eq-eqb, ne_eqb}
use Rattle.std.specs.List.{AllByRecursion}
use Rattle.std.specs.Set.{is_member}
use Rattle.std.proofs.lemmas.Bool.{cases_Bool, eqb-true, eqb-false, or_cases, or_left, or_right}
use Rattle.graph_parts.specs.LeastNames.{least_label}
use Rattle.graph_parts.specs.Walks.{Joined}
use Rattle.graph_parts.proofs.Distinct.{is_member-append}
use Rattle.graph_parts.proofs.Ends.{is_member-get_or}
use Rattle.graph_parts.proofs.LeastLabels.{AreLeast-labels, least_label-Joined}
use Rattle.graph_parts.proofs.Through.{inside-from_Joined}
use Rattle.list_lemmas.specs.Times.{times_in}
use Rattle.list_lemmas.proofs.Items.{member_at}
use Rattle.list_lemmas.proofs.Times.{times_in-cons, times_in-append, times_of_member}
use Rattle.pd_reader.specs.declared.item.Item.{Item}
use Rattle.pd_reader.specs.declared.item.Item.TheVariants as items
use Rattle.pd_reader.specs.Items.{item_labels, HasItsSlots}
use Rattle.pd_reader.specs.Diagrams.{labels, IsDiagram}
use Rattle.planar_check.specs.Places.{labels_by_place, crossings_of}
use Rattle.planar_check.specs.Components.{greatest, component_least, is_least_of, strand_edges}
use Rattle.planar_check.proofs.Crossings.{slot_lists-X, places_labels}
use Rattle.planar_check.proofs.Directions.{least_is, strand_ends}
use Rattle.planar_check.proofs.FewComponents.{at_member}
use Rattle.planar_check.proofs.Strands.{member_at_most}
use Rattle.slide_strands.specs.declared.strand.Piece.{Piece}
use Rattle.slide_strands.specs.declared.strand.Piece.TheVariants.{Crossed, Free}
use Rattle.slide_strands.proofs.Frees.{free}
use Rattle.slide_laws.specs.Directed.{items_of}

-- the label of one of the loops
abbrev pub is_free : List Item → ℕ → Bool
is_free [] label = false
is_free (items.X at ∷ rest) label = is_free rest label
is_free (items.Loop l ∷ rest) label = l == label || is_free rest label

-- ---- loops stand apart
abbrev once : Bool → ℕ
once b = cond b 1 0

abbrev loop_times : ℕ → List Item → ℕ
loop_times x [] = 0
loop_times x (items.X slots ∷ xs) = loop_times x xs
loop_times x (items.Loop label ∷ xs) = once (x == label) + loop_times x xs

split_times : (x : ℕ) (xs : List Item) → AllByRecursion HasItsSlots xs → times_in (labels item_labels xs) x ≡ times_in (labels_by_place (crossings_of xs)) x + 2 * loop_times x xs
split_times x [] h = refl
split_times x (items.X slots ∷ xs) h =
    let e = ap (λ (cs : List (List ℕ)). times_in (labels_by_place cs) x) (slot_lists-X slots xs h.0) in
    omega (arith, e, times_in-append slots (labels item_labels xs) x, times_in-append slots (labels_by_place (crossings_of xs)) x, split_times x xs h.1)
split_times x (items.Loop label ∷ xs) h =
    let a = times_in-cons label (label ∷ labels item_labels xs) x in
    let b = times_in-cons label (labels item_labels xs) x in
    omega (arith, a, b, split_times x xs h.1)

loop_counted : (x : ℕ) (xs : List Item) → is_free xs x ≡ true → 1 ≤ loop_times x xs
loop_counted x [] h = absurd cc
loop_counted x (items.X slots ∷ xs) h = loop_counted x xs h
loop_counted x (items.Loop label ∷ xs) h =
    ⊎_elim
    (λ e. let one : once (x == label) ≡ 1 = ap once (eq-eqb x label (sym (eqb-true label x e))) in omega (arith, one))
    (λ e. omega (arith, loop_counted x xs e))
    (or_cases (label == x) (is_free xs x) h)

-- a label at a place is no loop's
loop_once : (xs : List Item) → IsDiagram xs → (p : ℕ) → p < length (labels_by_place (crossings_of xs)) → is_free xs (slice_index (labels_by_place (crossings_of xs)) p) ≡ true → ⊥
loop_once xs diagram p l h =
    let ls = labels_by_place (crossings_of xs) in
    let x = slice_index ls p in
    let here = is_member-get_or ls p l in
    let two : times_in (labels item_labels xs) x ≡ 2 = at_member (λ label. times_in (labels item_labels xs) label ≡ 2) (labels item_labels xs) diagram.twice x (places_labels xs diagram.sizes x here) in
    omega (arith, split_times x xs diagram.sizes, times_of_member x ls here, two, loop_counted x xs h)

-- a label that is not a loop's stands at a place
pub label_placed : (xs : List Item) → AllByRecursion HasItsSlots xs → (x : ℕ) → is_member ◌==◌ (labels item_labels xs) x ≡ true → is_free xs x ≡ false → is_member ◌==◌ (labels_by_place (crossings_of xs)) x ≡ true
label_placed [] h x m l = m
label_placed (items.X at ∷ xs) h x m l =
    subst (λ (cs : List (List ℕ)). is_member ◌==◌ (labels_by_place cs) x ≡ true) (sym (slot_lists-X at xs h.0))
    (is_member-append at (labels_by_place (crossings_of xs)) x
    ∙ ⊎_elim (λ t. or_left (is_member ◌==◌ at x) (is_member ◌==◌ (labels_by_place (crossings_of xs)) x) t)
    (λ t. or_right (is_member ◌==◌ at x) (is_member ◌==◌ (labels_by_place (crossings_of xs)) x) (label_placed xs h.1 x t l))
    (or_cases (is_member ◌==◌ at x) (is_member ◌==◌ (labels item_labels xs) x) (sym (is_member-append at (labels item_labels xs) x) ∙ m)))
label_placed (items.Loop label ∷ xs) h x m l =
    let apart : (label == x) ≡ false = or_none_left (label == x) (is_free xs x) l in
    let rest : is_free xs x ≡ false = or_none_right (label == x) (is_free xs x) l in
    let other : (x == label) ≡ false = ne_eqb x label (λ e. eqb-false label x apart (sym e)) in
    let there : is_member ◌==◌ (labels item_labels xs) x ≡ true = rw other at m in
    label_placed xs h.1 x there rest
  where
    or_none_left : (a b : Bool) → (a || b) ≡ false → a ≡ false
    or_none_left true b h = h
    or_none_left false b h = refl

    or_none_right : (a b : Bool) → (a || b) ≡ false → b ≡ false
    or_none_right true b h = absurd cc
    or_none_right false b h = h

pub loop_label : (xs : List Item) (y : ℕ) → is_free xs y ≡ true → is_member ◌==◌ (labels item_labels xs) y ≡ true
loop_label [] y h = absurd cc
loop_label (items.X at ∷ xs) y h = is_member-append at (labels item_labels xs) y ∙ or_right (is_member ◌==◌ at y) (is_member ◌==◌ (labels item_labels xs) y) (loop_label xs y h)
loop_label (items.Loop l ∷ xs) y h =
    ⊎_elim
    (λ e. or_left (y == l) (is_member ◌==◌ (l ∷ labels item_labels xs) y) (eq-eqb y l (sym (eqb-true l y e))))
    (λ e. or_right (y == l) (is_member ◌==◌ (l ∷ labels item_labels xs) y) (or_right (y == l) (is_member ◌==◌ (labels item_labels xs) y) (loop_label xs y e)))
    (or_cases (l == y) (is_free xs y) h)

abbrev any_is : List ℕ → ℕ → Bool
any_is [] y = false
any_is (l ∷ ls) y = l == y || any_is ls y

by_free : (ps : List Piece) (y : ℕ) → is_free (items_of ps) y ≡ any_is (free ps) y
by_free [] y = refl
by_free (Crossed u o ∷ ps) y = by_free ps y
by_free (Free l ∷ ps) y = ap (λ (b : Bool). l == y || b) (by_free ps y)

pub free_loops : (ps qs : List Piece) → free ps ≡ free qs → (y : ℕ) → is_free (items_of ps) y ≡ is_free (items_of qs) y
free_loops ps qs e y = by_free ps y ∙ (ap (λ (ls : List ℕ). any_is ls y) e ∙ sym (by_free qs y))

module _ (xs : List Item) (diagram : IsDiagram xs) where
  -- a loop's label stands at no place, and is the least of its component
  pub loop_apart : (y : ℕ) → is_free xs y ≡ true → is_member ◌==◌ (labels_by_place (crossings_of xs)) y ≡ false
  loop_apart y h = elim (cases_Bool (is_member ◌==◌ (labels_by_place (crossings_of xs)) y)) [
    | inl m ↦ absurd (let p = member_at (labels_by_place (crossings_of xs)) y m in
        loop_once xs diagram p.0 p.1 (ap (is_free xs) p.2 ∙ h))
    | inr m ↦ m
  ]

  pub loop_least : (y : ℕ) → is_free xs y ≡ true → component_least xs y ≡ y
  loop_least y h =
      let es = strand_edges xs in
      let a = AreLeast-labels es in
      let j : Joined es y (least_label es y) = (least_label-Joined es y (least_label es y)).0 (sym (a.itself y)) in
      least_is xs diagram y (loop_label xs y h)
      ∙ ⊎_elim (λ (e : y ≡ least_label es y). sym e) (λ b. absurd (let clash : true ≡ false = sym b.0 ∙ loop_apart y h in cc))
      (inside-from_Joined (is_member ◌==◌ (labels_by_place (crossings_of xs))) es (strand_ends xs diagram) j)

  -- the least labels: those of loops, and at places those that are the least of their component
  pub least_cases : (y : ℕ) → is_least_of xs y ≡ true → (is_free xs y ≡ true) ⊎ ((is_member ◌==◌ (labels_by_place (crossings_of xs)) y ≡ true) × (component_least xs y ≡ y))
  least_cases y h =
      let two = both_true (is_member ◌==◌ (labels item_labels xs) y) (component_least xs y == y) h in
      elim (cases_Bool (is_free xs y)) [
        | inl l ↦ inl l
        | inr l ↦ inr (label_placed xs diagram.sizes y two.0 l, eqb-true (component_least xs y) y two.1)
      ]
    where
      both_true : (a b : Bool) → (a && b) ≡ true → (a ≡ true) × (b ≡ true)
      both_true true b h = (refl, h)
      both_true false b h = absurd cc

  pub loop_is_least : (y : ℕ) → is_free xs y ≡ true → is_least_of xs y ≡ true
  loop_is_least y h = rw (loop_label xs y h, eq-eqb (component_least xs y) y (loop_least y h)) refl

  pub placed_is_least : (y : ℕ) → is_member ◌==◌ (labels_by_place (crossings_of xs)) y ≡ true → component_least xs y ≡ y → is_least_of xs y ≡ true
  placed_is_least y m e = rw (places_labels xs diagram.sizes y m, eq-eqb (component_least xs y) y e) refl

  pub least_small : (y : ℕ) → is_least_of xs y ≡ true → y < greatest (labels item_labels xs) + 1
  least_small y h =
      let m : is_member ◌==◌ (labels item_labels xs) y ≡ true =
      ⊎_elim (λ l. loop_label xs y l) (λ p. places_labels xs diagram.sizes y p.0) (least_cases y h) in
      let l = member_at_most (labels item_labels xs) y m in omega (arith, l)
