-- A loop with a new label changes no crossing: signs, components and writhes stay, and its own writhe is 0.
use Rattle.std.proofs.Common.{◌≡◌, ℕ, zero, suc, ◌+◌, ◌*◌, ◌<◌, ◌≤◌, ◌==◌, ◌&&◌, ◌||◌, nat_lt, not, Bool, true, false, cond, pos, ◌-ℤ◌, List, [], ◌∷◌, ◌++◌, length, map, slice_index, count_by, refl, ap, ap₂, ◌∙◌, arith, All, ◌⊎◌, inl, ⊎_elim}
use Rattle.std.specs.List.{AllByRecursion, range_with_len}
use Rattle.std.specs.Set.{is_member}
use Rattle.std.proofs.lemmas.Bool.Decides.{nat_tests}
use Rattle.std.proofs.lemmas.List.Elements.{All-head, All-tail}
use Rattle.std.proofs.lemmas.List.Sums.{sum_by-cons}
use Rattle.graph_parts.proofs.Ends.{is_member-get_or}
use Rattle.pd_reader.specs.declared.item.Item.{Item}
use Rattle.pd_reader.specs.declared.item.Item.TheVariants.{X, Loop}
use Rattle.pd_reader.specs.Items.{item_labels, HasItsSlots}
use Rattle.pd_reader.specs.Diagrams.{labels}
use Rattle.planar_check.specs.declared.sign.Signed.{Signed}
use Rattle.planar_check.specs.Places.{labels_by_place}
use Rattle.planar_check.specs.Components.{greatest, component_least, least_labels, number_of}
use Rattle.planar_check.specs.Tables.{IsWithin}
use Rattle.planar_check.specs.Signs.{is_walked_with, same_truth, sign_for, is_plus, is_between, signed_crossings, signs_between, writhe}
use Rattle.planar_check.specs.Places.{first_place}
use Rattle.planar_check.specs.Places.{crossings_of}
use Rattle.planar_check.proofs.Crossings.{places_four, places_labels}
use Rattle.planar_check.proofs.CrossingComponents.{crossings_within}
use Rattle.coloured_values.proofs.AddedComponents.{component_least-added, number_of-added}

pub crossings-added : (items : List Item) (label : ℕ) → crossings_of (items ++ Loop label ∷ []) ≡ crossings_of items
crossings-added [] label = refl
crossings-added (X slots ∷ items) label =
    elim (nat_lt 0 (length slots)) as (λ b. cond b (slots ∷ crossings_of (items ++ Loop label ∷ [])) (crossings_of (items ++ Loop label ∷ [])) ≡ cond b (slots ∷ crossings_of items) (crossings_of items)) [
      | true ↦ ap (λ cs. slots ∷ cs) (crossings-added items label)
      | false ↦ crossings-added items label
    ]
crossings-added (Loop l ∷ items) label = crossings-added items label

-- 1 where the test holds
abbrev pub once : Bool → ℕ
once b = cond b 1 0

-- a component that no crossing has
module _ (n i j : ℕ) (past : (n < i) ⊎ (n < j)) where
  pub none_linked : (keep : Signed → Bool) (list : List Signed) → All (IsWithin n) list → count_by (λ (c : Signed). is_between i j c && keep c) list ≡ 0
  none_linked keep [] a = refl
  none_linked keep (c ∷ list) a =
      let within = All-head (IsWithin n) c list a in
      let ih = none_linked keep list (All-tail (IsWithin n) c list a) in
      let more = sum_by-cons (λ (d : Signed). once (is_between i j d && keep d)) c list in
      let u = within.under_last in let o = within.over_last in
      let none : once (is_between i j c && keep c) ≡ 0 =
      ⊎_elim (λ h. first c.under c.over (keep c) u o h) (λ h. second c.under c.over (keep c) u o h) past in
      omega (arith, ih, more, none)
    where
      first : (under over : ℕ) (k : Bool) → under ≤ n → over ≤ n → n < i → once (((under == i && over == j) || (under == j && over == i)) && k) ≡ 0
      first under over k u o h = grind (arith, nat_tests, u, o, h)

      second : (under over : ℕ) (k : Bool) → under ≤ n → over ≤ n → n < j → once (((under == i && over == j) || (under == j && over == i)) && k) ≡ 0
      second under over k u o h = grind (arith, nat_tests, u, o, h)

map_range : {X : Type 0} (f g : ℕ → X) (a n : ℕ) → ((k : ℕ) → a ≤ k → k < a + n → f k ≡ g k) → map f (range_with_len a n) ≡ map g (range_with_len a n)
map_range f g a zero h = refl
map_range f g a (suc n) h =
    ap₂ (λ x xs. x ∷ xs) (h a (omega arith) (omega arith)) (map_range f g (a + 1) n (λ k lo hi. h k (omega arith) (omega arith)))

-- what is told of a crossing by the crossings, the numbers and the least labels
abbrev entered : List (List ℕ) → (ℕ → ℕ) → ℕ → Bool
entered cs least p = is_walked_with cs p (first_place (labels_by_place cs) (least (slice_index (labels_by_place cs) p)))

abbrev told : List (List ℕ) → (ℕ → ℕ) → (ℕ → ℕ) → ℕ → Signed
told cs number least k = record {
  under = number (slice_index (labels_by_place cs) (4 * k));
  over = number (slice_index (labels_by_place cs) (4 * k + 1));
  sign = sign_for (same_truth (entered cs least (4 * k)) (entered cs least (4 * k + 3)));
}

module _ (items : List Item) (label : ℕ) (sizes : AllByRecursion HasItsSlots items) (past : greatest (labels item_labels items) < label) where
  abbrev added : List Item
  added = items ++ Loop label ∷ []

  abbrev cs : List (List ℕ)
  cs = crossings_of items

  at_place : (q : ℕ) → q < length (labels_by_place cs) → is_member ◌==◌ (labels item_labels items) (slice_index (labels_by_place cs) q) ≡ true
  at_place q h = places_labels items sizes (slice_index (labels_by_place cs) q) (is_member-get_or (labels_by_place cs) q h)

  same_told : (k : ℕ) → k < length cs → told cs (number_of added) (component_least added) k ≡ told cs (number_of items) (component_least items) k
  same_told k h =
      let four = places_four items sizes in
      let ls = labels_by_place cs in
      let n0 = number_of-added items label sizes past (slice_index ls (4 * k)) (at_place (4 * k) (omega (arith, four, h))) in
      let n1 = number_of-added items label sizes past (slice_index ls (4 * k + 1)) (at_place (4 * k + 1) (omega (arith, four, h))) in
      let l0 = component_least-added items label sizes past (slice_index ls (4 * k)) (at_place (4 * k) (omega (arith, four, h))) in
      let l3 = component_least-added items label sizes past (slice_index ls (4 * k + 3)) (at_place (4 * k + 3) (omega (arith, four, h))) in
      let at : ℕ → ℕ → Bool = λ q least. is_walked_with cs q (first_place ls least) in
      let make : ℕ → ℕ → Bool → Bool → Signed = λ u o a d. record { under = u; over = o; sign = sign_for (same_truth a d) } in
      ap₂ (λ u o. make u o (entered cs (component_least added) (4 * k)) (entered cs (component_least added) (4 * k + 3))) n0 n1
      ∙ ap₂ (λ a d. make (number_of items (slice_index ls (4 * k))) (number_of items (slice_index ls (4 * k + 1))) a d) (ap (at (4 * k)) l0) (ap (at (4 * k + 3)) l3)

  -- NO CROSSING CHANGES
  pub signed_crossings-added : signed_crossings added ≡ signed_crossings items
  unfolding signed_crossings
  signed_crossings-added =
      ap (λ c. map (told c (number_of added) (component_least added)) (range_with_len 0 (length c))) (crossings-added items label)
      ∙ map_range (told cs (number_of added) (component_least added)) (told cs (number_of items) (component_least items)) 0 (length cs) (λ k lo hi. same_told k (omega arith))

  pub writhe-added : (i : ℕ) → writhe added i ≡ writhe items i
  writhe-added i = ap (signs_between i i) signed_crossings-added

  -- THE WRITHE OF THE NEW COMPONENT
  pub writhe-last : writhe added (length (least_labels items) + 1) ≡ pos 0
  writhe-last =
      let i = length (least_labels items) + 1 in
      let list = signed_crossings items in
      let within = crossings_within items sizes list refl in
      ap (signs_between i i) signed_crossings-added
      ∙ ap₂ (λ a b. pos a -ℤ pos b) (none_linked (length (least_labels items)) i i (inl (omega arith)) (λ c. is_plus c.sign) list within) (none_linked (length (least_labels items)) i i (inl (omega arith)) (λ c. not (is_plus c.sign)) list within)
