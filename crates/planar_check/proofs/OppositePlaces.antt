-- The places of a diagram: each crossing has four; the slot opposite to a slot comes two slots later; each label stands at two
-- places, each of which is across the edge from the other; and a strand leads from a place to the opposite one.
use Rattle.std.proofs.Common.{◌≡◌, ◌≢◌, ◌⊎◌, ℕ, zero, suc, ◌+◌, ◌-◌, ◌*◌, ◌/◌, ◌%◌, ◌<◌, ◌≤◌, ◌==◌, Bool, true, false, cond, if◌then◌else◌, List, [], ◌∷◌, ◌++◌, length, map, slice_index, Contains, inl, inr, refl, sym, ap, ap₂, subst, ◌∙◌, arith, ⊎_elim, length-append, eq-eqb, ne_eqb}
use Rattle.std.specs.List.{AllByRecursion, range_with_len}
use Rattle.std.proofs.lemmas.Bool.{cases_Bool, cases_order, eqb-true, eqb-false}
use Rattle.std.proofs.Math.ListN.{get_or-append}
use Rattle.graph_parts.proofs.Ends.{is_member-get_or}
use Rattle.graph_parts.proofs.Rounds.{count_by-cons}
use Rattle.graph_parts.proofs.Walks.{Contains-cases, Contains-later}
use Rattle.graph_parts.specs.Walks.{Joined, along, back}
use Rattle.pd_reader.specs.declared.item.Item.{Item}
use Rattle.pd_reader.specs.declared.item.Item.TheVariants as items
use Rattle.pd_reader.specs.Items.{item_labels, HasItsSlots}
use Rattle.list_lemmas.proofs.Times.{times_in-append}
use Rattle.list_lemmas.specs.Times.{times_in}
use Rattle.pd_reader.specs.Diagrams.{labels, IsDiagram}
use Rattle.planar_check.specs.Places.{crossings_of, labels_by_place, slot_after, slots_after, other_place, is_across}
use Rattle.planar_check.specs.Components.{strand_edges}
use Rattle.planar_check.proofs.Crossings.{slot_lists-X, places_four, places_labels}
use Rattle.planar_check.proofs.FewComponents.{at_member}
use Rattle.planar_check.proofs.Reversal.{ArePlaced}
use Rattle.planar_check.specs.Directions.{opposite}
use Rattle.planar_check.proofs.TwoPlaces.{two_places, found_one}

-- ---- four slots each
abbrev pub AreFours : List (List ℕ) → Type 0
AreFours = AllByRecursion (λ slots. length slots ≡ 4)

pub fours : (xs : List Item) → AllByRecursion HasItsSlots xs → AreFours (crossings_of xs)
fours [] h = tt
fours (items.X slots ∷ xs) h = subst AreFours (sym (slot_lists-X slots xs h.0)) (h.0, fours xs h.1)
fours (items.Loop label ∷ xs) h = fours xs h.1

-- ---- the next slot
abbrev pub next_slot : ℕ → ℕ
next_slot p = p / 4 * 4 + (p % 4 + 1) % 4

first_after : (start : ℕ) (rest : List ℕ) (p : ℕ) → p < 4 → slice_index (map (slot_after start 4) (range_with_len 0 4) ++ rest) p ≡ start + next_slot p
first_after start rest zero l = refl
first_after start rest (suc zero) l = refl
first_after start rest (suc (suc zero)) l = refl
first_after start rest (suc (suc (suc zero))) l = refl
first_after start rest (suc (suc (suc (suc p)))) l = absurd (omega (arith, l))

after_later : (start : ℕ) (rest : List ℕ) (n : ℕ) → ((q : ℕ) → q < n → slice_index rest q ≡ start + 4 + next_slot q) → (p : ℕ) → p < 4 + n → slice_index (map (slot_after start 4) (range_with_len 0 4) ++ rest) p ≡ start + next_slot p
after_later start rest n ih (suc (suc (suc (suc q)))) k = ih q (omega (arith, k)) ∙ (let e : start + 4 + next_slot q ≡ start + next_slot (suc (suc (suc (suc q)))) = omega arith in e)
after_later start rest n ih zero k = first_after start rest 0 (omega arith)
after_later start rest n ih (suc zero) k = first_after start rest 1 (omega arith)
after_later start rest n ih (suc (suc zero)) k = first_after start rest 2 (omega arith)
after_later start rest n ih (suc (suc (suc zero))) k = first_after start rest 3 (omega arith)

pub after_at : (start : ℕ) (cs : List (List ℕ)) → AreFours cs → (p : ℕ) → p < length (labels_by_place cs) → slice_index (slots_after start cs) p ≡ start + next_slot p
after_at start [] h p l = absurd (omega (arith, l))
after_at start (c ∷ cs) h p l =
    let all = length-append c (labels_by_place cs) in
    let same : slice_index (slots_after start (c ∷ cs)) p ≡ slice_index (map (slot_after start 4) (range_with_len 0 4) ++ slots_after (start + 4) cs) p =
    ap (λ n. slice_index (map (slot_after start n) (range_with_len 0 n) ++ slots_after (start + n) cs) p) h.0 in
    same ∙ after_later start (slots_after (start + 4) cs) (length (labels_by_place cs)) (after_at (start + 4) cs h.1) p (omega (arith, l, all, h.0))

next_within : (n p : ℕ) → p < 4 * n → next_slot p < 4 * n
next_within n p l = omega arith

next_next : (p : ℕ) → next_slot (next_slot p) ≡ opposite p
next_next p = omega arith

opposite_stays : (n p : ℕ) → p < 4 * n → opposite p < 4 * n
opposite_stays n p l = omega arith

opposite_twice : (p : ℕ) → opposite (opposite p) ≡ p
opposite_twice p = omega arith

opposite_other : (p : ℕ) → opposite p ≢ p
opposite_other p e = omega (arith, e)

pub opposite_later : (p : ℕ) → opposite (4 + p) ≡ 4 + opposite p
opposite_later p = omega arith

-- ---- loops stand apart
abbrev loop_times : ℕ → List Item → ℕ
loop_times x [] = 0
loop_times x (items.X slots ∷ xs) = loop_times x xs
loop_times x (items.Loop label ∷ xs) = (if x == label then 1 else 0) + loop_times x xs

abbrev once : Bool → ℕ
once b = cond b 1 0

split_times : (x : ℕ) (xs : List Item) → AllByRecursion HasItsSlots xs → times_in (labels item_labels xs) x ≡ times_in (labels_by_place (crossings_of xs)) x + 2 * loop_times x xs
split_times x [] h = refl
split_times x (items.X slots ∷ xs) h =
    let e = ap (λ (cs : List (List ℕ)). times_in (labels_by_place cs) x) (slot_lists-X slots xs h.0) in
    omega (arith, e, times_in-append slots (labels item_labels xs) x, times_in-append slots (labels_by_place (crossings_of xs)) x, split_times x xs h.1)
split_times x (items.Loop label ∷ xs) h =
    let a = count_by-cons (λ y. x == y) label (label ∷ labels item_labels xs) in
    let b = count_by-cons (λ y. x == y) label (labels item_labels xs) in
    omega (arith, a, b, split_times x xs h.1)

some_times : (ls : List ℕ) (p : ℕ) → p < length ls → 1 ≤ times_in ls (slice_index ls p)
some_times [] p l = absurd (omega (arith, l))
some_times (y ∷ ls) zero l =
    let one : once (y == y) ≡ 1 = ap once (eq-eqb y y refl) in
    omega (arith, count_by-cons (λ z. y == z) y ls, one)
some_times (y ∷ ls) (suc p) l = omega (arith, count_by-cons (λ z. slice_index ls p == z) y ls, some_times ls p (omega (arith, l)))

-- ---- strands
appended_here : (slots rest : List ℕ) (i : ℕ) → i < length slots → slice_index (slots ++ rest) i ≡ slice_index slots i
appended_here slots rest i l = get_or-append slots rest 0 i l

appended_there : (slots rest : List ℕ) → length slots ≡ 4 → (i : ℕ) → slice_index (slots ++ rest) (4 + i) ≡ slice_index rest i
appended_there (a ∷ b ∷ c ∷ d ∷ []) rest four i = ap (slice_index (a ∷ b ∷ c ∷ d ∷ rest)) (let e : 4 + i ≡ suc (suc (suc (suc i))) = omega arith in e)
appended_there [] rest four i = absurd (omega (arith, four))
appended_there (a ∷ []) rest four i = absurd (omega (arith, four))
appended_there (a ∷ b ∷ []) rest four i = absurd (omega (arith, four))
appended_there (a ∷ b ∷ c ∷ []) rest four i = absurd (omega (arith, four))
appended_there (a ∷ b ∷ c ∷ d ∷ e ∷ more) rest four i = absurd (omega (arith, four))

-- a strand leads from a place to the opposite one
pub record LeadsBetween (ls : List ℕ) (x y : ℕ) : Type 0 where
  pub place : ℕ
  pub within : place < length ls
  pub from_is : slice_index ls place ≡ x
  pub to_is : slice_index ls (opposite place) ≡ y

leads_here : (slots rest : List ℕ) → length slots ≡ 4 → (i : ℕ) → i < 2 → LeadsBetween (slots ++ rest) (slice_index slots i) (slice_index slots (i + 2))
leads_here slots rest four i l = record {
  place = i;
  within = omega (arith, length-append slots rest, four);
  from_is = appended_here slots rest i (omega (arith, four));
  to_is = ap (slice_index (slots ++ rest)) (let e : opposite i ≡ i + 2 = omega arith in e) ∙ appended_here slots rest (i + 2) (omega (arith, four, l));
}

leads_there : (slots rest : List ℕ) → length slots ≡ 4 → (x y : ℕ) → LeadsBetween rest x y → LeadsBetween (slots ++ rest) x y
leads_there slots rest four x y b = record {
  place = 4 + b.place;
  within = let w = b.within in omega (arith, length-append slots rest, four, w);
  from_is = appended_there slots rest four b.place ∙ b.from_is;
  to_is = ap (slice_index (slots ++ rest)) (opposite_later b.place) ∙ (appended_there slots rest four (opposite b.place) ∙ b.to_is);
}

pub strand_places : (xs : List Item) → AllByRecursion HasItsSlots xs → (x y : ℕ) → Contains (strand_edges xs) (x, y) → LeadsBetween (labels_by_place (crossings_of xs)) x y
strand_places [] h x y (k, l, e) = absurd (omega (arith, l))
strand_places (items.Loop label ∷ xs) h x y c = strand_places xs h.1 x y c
strand_places (items.X slots ∷ xs) h x y c =
    let rest = labels_by_place (crossings_of xs) in
    let Leads : List (List ℕ) → Type 0 = λ cs. LeadsBetween (labels_by_place cs) x y in
    let ends : (a b : ℕ) → a ≡ x → b ≡ y → LeadsBetween (slots ++ rest) a b → LeadsBetween (slots ++ rest) x y =
    λ a b p q. subst (λ (e : ℕ × ℕ). LeadsBetween (slots ++ rest) a b → LeadsBetween (slots ++ rest) e.0 e.1) (ap₂ (λ (m n : ℕ). (m, n)) p q) (λ z. z) in
    subst Leads (sym (slot_lists-X slots xs h.0))
    (⊎_elim
    (λ e. ends (slice_index slots 0) (slice_index slots 2) (ap (λ (f : ℕ × ℕ). f.0) e) (ap (λ (f : ℕ × ℕ). f.1) e) (leads_here slots rest h.0 0 (omega arith)))
    (λ later. ⊎_elim
    (λ e. ends (slice_index slots 1) (slice_index slots 3) (ap (λ (f : ℕ × ℕ). f.0) e) (ap (λ (f : ℕ × ℕ). f.1) e) (leads_here slots rest h.0 1 (omega arith)))
    (λ more. leads_there slots rest h.0 x y (strand_places xs h.1 x y more))
    (Contains-cases (slice_index slots 1, slice_index slots 3) (x, y) (strand_edges xs) later))
    (Contains-cases (slice_index slots 0, slice_index slots 2) (x, y) ((slice_index slots 1, slice_index slots 3) ∷ strand_edges xs) c))

-- and each place leads to its opposite one, this way round or the other
Between : List (ℕ × ℕ) → ℕ → ℕ → Type 0
Between es x y = Contains es (x, y) ⊎ Contains es (y, x)

leads_first : (slots rest : List ℕ) (es : List (ℕ × ℕ)) → length slots ≡ 4 → (p : ℕ) → p < 4 →
    Between ((slice_index slots 0, slice_index slots 2) ∷ (slice_index slots 1, slice_index slots 3) ∷ es) (slice_index slots p) (slice_index slots (opposite p))
unfolding Between
leads_first slots rest es four zero l = inl (0, omega arith, refl)
leads_first slots rest es four (suc zero) l = inl (1, omega arith, refl)
leads_first slots rest es four (suc (suc zero)) l = inr (0, omega arith, refl)
leads_first slots rest es four (suc (suc (suc zero))) l = inr (1, omega arith, refl)
leads_first slots rest es four (suc (suc (suc (suc p)))) l = absurd (omega (arith, l))

leads_on : (slots rest : List ℕ) (es : List (ℕ × ℕ)) (n : ℕ) → length slots ≡ 4 → ((q : ℕ) → q < n → Between es (slice_index rest q) (slice_index rest (opposite q))) →
    (a b : ℕ × ℕ) → ((p : ℕ) → p < 4 → Between (a ∷ b ∷ es) (slice_index slots p) (slice_index slots (opposite p))) →
    (p : ℕ) → p < 4 + n → (q : ℕ) → p ≡ 4 + q ⊎ (p < 4) → Between (a ∷ b ∷ es) (slice_index (slots ++ rest) p) (slice_index (slots ++ rest) (opposite p))
unfolding Between
leads_on slots rest es n four ih a b first p l q (inl e) =
    let moved : Between (a ∷ b ∷ es) (slice_index rest q) (slice_index rest (opposite q)) =
    ⊎_elim (λ c. inl (Contains-later a (slice_index rest q, slice_index rest (opposite q)) (b ∷ es) (Contains-later b (slice_index rest q, slice_index rest (opposite q)) es c))) (λ c. inr (Contains-later a (slice_index rest (opposite q), slice_index rest q) (b ∷ es) (Contains-later b (slice_index rest (opposite q), slice_index rest q) es c))) (ih q (omega (arith, l, e))) in
    let x : slice_index (slots ++ rest) p ≡ slice_index rest q = ap (slice_index (slots ++ rest)) e ∙ appended_there slots rest four q in
    let y : slice_index (slots ++ rest) (opposite p) ≡ slice_index rest (opposite q) =
    ap (slice_index (slots ++ rest)) (ap opposite e ∙ opposite_later q) ∙ appended_there slots rest four (opposite q) in
    subst (λ (m : ℕ). Between (a ∷ b ∷ es) m (slice_index (slots ++ rest) (opposite p))) (sym x) (subst (λ (m : ℕ). Between (a ∷ b ∷ es) (slice_index rest q) m) (sym y) moved)
leads_on slots rest es n four ih a b first p l q (inr small) =
    let x : slice_index (slots ++ rest) p ≡ slice_index slots p = appended_here slots rest p (omega (arith, four, small)) in
    let below : opposite p < 4 = omega (arith, small) in
    let y : slice_index (slots ++ rest) (opposite p) ≡ slice_index slots (opposite p) = appended_here slots rest (opposite p) (omega (arith, four, below)) in
    subst (λ (m : ℕ). Between (a ∷ b ∷ es) m (slice_index (slots ++ rest) (opposite p))) (sym x) (subst (λ (m : ℕ). Between (a ∷ b ∷ es) (slice_index slots p) m) (sym y) (first p small))

near_or_far : (p : ℕ) → (p ≡ 4 + (p - 4)) ⊎ (p < 4)
near_or_far p = ⊎_elim (λ e. inl (omega (arith, e))) (λ o. ⊎_elim (λ l. inr l) (λ g. inl (omega (arith, g))) o) (cases_order p 4)

place_strands : (xs : List Item) → AllByRecursion HasItsSlots xs → (p : ℕ) → p < length (labels_by_place (crossings_of xs)) →
    Between (strand_edges xs) (slice_index (labels_by_place (crossings_of xs)) p) (slice_index (labels_by_place (crossings_of xs)) (opposite p))
place_strands [] h p l = absurd (omega (arith, l))
place_strands (items.Loop label ∷ xs) h p l = place_strands xs h.1 p l
place_strands (items.X slots ∷ xs) h p l =
    let rest = labels_by_place (crossings_of xs) in
    let es = strand_edges xs in
    let a : ℕ × ℕ = (slice_index slots 0, slice_index slots 2) in
    let b : ℕ × ℕ = (slice_index slots 1, slice_index slots 3) in
    let here = slot_lists-X slots xs h.0 in
    let long : length (labels_by_place (crossings_of (items.X slots ∷ xs))) ≡ 4 + length rest =
    ap (λ (cs : List (List ℕ)). length (labels_by_place cs)) here ∙ (length-append slots rest ∙ ap (λ m. m + length rest) h.0) in
    subst (λ (cs : List (List ℕ)). Between (a ∷ b ∷ es) (slice_index (labels_by_place cs) p) (slice_index (labels_by_place cs) (opposite p))) (sym here)
    (leads_on slots rest es (length rest) h.0 (place_strands xs h.1) a b (leads_first slots rest es h.0) p (omega (arith, l, long)) (p - 4) (near_or_far p))

pub joined_opposite : (xs : List Item) → AllByRecursion HasItsSlots xs → (p : ℕ) → p < length (labels_by_place (crossings_of xs)) →
    Joined (strand_edges xs) (slice_index (labels_by_place (crossings_of xs)) p) (slice_index (labels_by_place (crossings_of xs)) (opposite p))
unfolding Between
joined_opposite xs h p l = ⊎_elim (λ c. along c) (λ c. back (along c)) (place_strands xs h p l)

-- ---- the other place
module _ (ls : List ℕ) (p : ℕ) (within : p < length ls) (twice : times_in ls (slice_index ls p) ≡ 2) where
  -- the other place of the label
  record IsMate (q : ℕ) : Type 0 where
    below : q < length ls
    apart : q ≢ p
    same : slice_index ls q ≡ slice_index ls p
    only : (r : ℕ) → r < length ls → slice_index ls r ≡ slice_index ls p → (r ≡ p) ⊎ (r ≡ q)

  mate : (q : ℕ) × IsMate q
  mate =
      let t = two_places (slice_index ls p) ls twice in
      ⊎_elim
      (λ e. (
        t.second,
        record {
          below = t.second_within;
          apart = λ s. t.apart (sym (s ∙ e));
          same = t.second_is;
          only = λ r l s. ⊎_elim (λ a. inl (a ∙ sym e)) (λ a. inr a) (t.only r l s);
        },
      ))
      (λ e. (
        t.first,
        record {
          below = t.first_within;
          apart = λ s. t.apart (s ∙ e);
          same = t.first_is;
          only = λ r l s. ⊎_elim (λ a. inr a) (λ a. inl (a ∙ sym e)) (t.only r l s);
        },
      ))
      (t.only p within refl)

  other_is : other_place ls p ≡ mate.0
  unfolding other_place
  other_is =
      let q = mate.0 in
      let m = mate.1 in
      found_one (is_across ls p) 0 (length ls) q p (omega arith) (let b = m.below in omega (arith, b))
      (rw (ne_eqb q p m.apart, eq-eqb (slice_index ls q) (slice_index ls p) m.same) refl)
      (λ r l t. passes r (omega (arith, l)) t (cases_Bool (r == p)))
    where
      passes : (r : ℕ) → r < length ls → is_across ls p r ≡ true → ((r == p) ≡ true) ⊎ ((r == p) ≡ false) → r ≡ mate.0
      passes r l t (inl h) = let no : false ≡ true = rw h at t in absurd cc
      passes r l t (inr h) =
          let yes : (slice_index ls r == slice_index ls p) ≡ true = rw h at t in
          ⊎_elim (λ s. absurd (eqb-false r p h s)) (λ s. s) (mate.1.only r l (eqb-true (slice_index ls r) (slice_index ls p) yes))

  pub other_below : other_place ls p < length ls
  other_below = subst (λ q. q < length ls) (sym other_is) mate.1.below

  pub other_other : other_place ls p ≢ p
  other_other = subst (λ q. q ≢ p) (sym other_is) mate.1.apart

  pub other_label : slice_index ls (other_place ls p) ≡ slice_index ls p
  other_label = ap (slice_index ls) other_is ∙ mate.1.same

  pub only_other : (r : ℕ) → r < length ls → slice_index ls r ≡ slice_index ls p → (r ≡ p) ⊎ (r ≡ other_place ls p)
  only_other r l s = ⊎_elim (λ e. inl e) (λ e. inr (e ∙ sym other_is)) (mate.1.only r l s)

module _ (xs : List Item) (diagram : IsDiagram xs) where
  abbrev ls : List ℕ
  ls = labels_by_place (crossings_of xs)

  pub places_twice : (p : ℕ) → p < length ls → times_in ls (slice_index ls p) ≡ 2
  places_twice p l =
      let x = slice_index ls p in
      let two : times_in (labels item_labels xs) x ≡ 2 = at_member (λ label. times_in (labels item_labels xs) label ≡ 2) (labels item_labels xs) diagram.twice x (places_labels xs diagram.sizes x (is_member-get_or ls p l)) in
      omega (arith, split_times x xs diagram.sizes, some_times ls p l, two)

  -- what is across the edge from what is across the edge
  across_back : (p : ℕ) → p < length ls → other_place ls (other_place ls p) ≡ p
  across_back p l =
      let q = other_place ls p in
      let two = places_twice p l in
      let there = other_below ls p l two in
      ⊎_elim (λ e. absurd (other_other ls p l two (sym e))) (λ e. sym e) (only_other ls q there (places_twice q there) p l (sym (other_label ls p l two)))

  -- THE PLACES
  pub placed : ArePlaced (length ls) opposite (other_place ls)
  placed =
      let four = places_four xs diagram.sizes in
      record {
        opposite_within = λ p l. let h : p < 4 * length (crossings_of xs) = omega (arith, l, four) in omega (arith, opposite_stays (length (crossings_of xs)) p h, four);
        other_within = λ p l. other_below ls p l (places_twice p l);
        opposite_back = λ p l. opposite_twice p;
        other_back = across_back;
        opposite_apart = λ p l. opposite_other p;
        other_apart = λ p l. other_other ls p l (places_twice p l);
      }

  pub same_label : (p q : ℕ) → p < length ls → q < length ls → slice_index ls q ≡ slice_index ls p → (q ≡ p) ⊎ (q ≡ other_place ls p)
  same_label p q l m e = only_other ls p l (places_twice p l) q m e

  -- the slot after the next one is the opposite one
  pub opposite_after : (p : ℕ) → p < length ls → slice_index (slots_after 0 (crossings_of xs)) (slice_index (slots_after 0 (crossings_of xs)) p) ≡ opposite p
  opposite_after p l =
      let cs = crossings_of xs in
      let four = places_four xs diagram.sizes in
      let once : slice_index (slots_after 0 cs) p ≡ next_slot p = after_at 0 cs (fours xs diagram.sizes) p l ∙ (let e : 0 + next_slot p ≡ next_slot p = omega arith in e) in
      let h : p < 4 * length cs = omega (arith, l, four) in
      let there : next_slot p < length ls = omega (arith, next_within (length cs) p h, four) in
      ap (slice_index (slots_after 0 cs)) once ∙ (after_at 0 cs (fours xs diagram.sizes) (next_slot p) there ∙ ((let e : 0 + next_slot (next_slot p) ≡ next_slot (next_slot p) = omega arith in e) ∙ next_next p))
