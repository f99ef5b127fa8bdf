-- The places of a diagram are paired, and each crossing's places turn.
use Rattle.std.proofs.Common.{◌≡◌, ◌≢◌, ℕ, zero, suc, ◌+◌, ◌-◌, ◌*◌, ◌/◌, ◌%◌, ◌<◌, ◌≤◌, ltb, List, [], ◌∷◌, ◌++◌, map, length, slice_index, refl, sym, ap, ◌∙◌, arith, ⊎_elim}
use Rattle.std.specs.List.{AllByRecursion, range_with_len}
use Rattle.std.proofs.lemmas.Bool.{cases_Bool, ltb-true}
use Rattle.std.proofs.lemmas.Bool.Decides.{nat_tests}
use Rattle.std.proofs.lemmas.List.{length-append}
use Rattle.graph_parts.proofs.Ends.{is_member-get_or}
use Rattle.graph_parts.proofs.Numbered.{numbered-member as in_range, is_member-numbered as range_has}
use Rattle.pd_reader.specs.declared.item.Item.{Item}
use Rattle.pd_reader.specs.declared.item.Item.TheVariants as item
use Rattle.pd_reader.specs.Items.{HasItsSlots}
use Rattle.planar_check.specs.Places.{crossings_of, slots_after, owners, other_place, place_labels, labels_by_place}
use Rattle.planar_check.proofs.Crossings.{slot_lists-X, places_four}
use Rattle.planar_check.proofs.OppositePlaces.{fours, after_at, other_below, other_other, other_label, only_other}
use Rattle.list_lemmas.specs.Times.{times_in}
use Rattle.list_lemmas.proofs.Times.{times_of_member}
use Rattle.diagram_moves.specs.Laws.{IsPairedDiagram}
use Rattle.diagram_moves.proofs.Paired.{paired}
use Rattle.diagram_moves.proofs.PlaceLemmas.{place_labels_are}
use Rattle.rotation_parts.specs.Rotations.{IsPermutation, IsPairing}
use Rattle.planar_forms.specs.PlaceSystems.{next_slot, slot_before}

-- the place that has the label too is the other place
pub other_is : (ls : List ℕ) (p q : ℕ) → p < length ls → q < length ls → p ≢ q → slice_index ls p ≡ slice_index ls q → times_in ls (slice_index ls p) ≡ 2 → other_place ls p ≡ q
other_is ls p q lp lq apart same two = ⊎_elim (λ e. absurd (apart (sym e))) (λ e. sym e) (only_other ls p lp two q lq (sym same))

pub slice_index-skip : (xs ys : List ℕ) (i : ℕ) → slice_index (xs ++ ys) (length xs + i) ≡ slice_index ys i
slice_index-skip [] ys i = ap (slice_index ys) (let e : 0 + i ≡ i = omega arith in e)
slice_index-skip (x ∷ xs) ys i = ap (slice_index (x ∷ (xs ++ ys))) (let e : suc (length xs) + i ≡ suc (length xs + i) = omega arith in e) ∙ slice_index-skip xs ys i

module _ (items : List Item) (pd : IsPairedDiagram items) where
  abbrev ls : List ℕ
  ls = place_labels items

  pub label_twice : (p : ℕ) → p < length ls → times_in ls (slice_index ls p) ≡ 2
  label_twice p l =
      let are = place_labels_are items in
      let a = ap (λ ns. times_in ns (slice_index ls p)) are in
      let m = times_of_member (slice_index ls p) ls (is_member-get_or ls p l) in
      let b = paired items pd (slice_index ls p) (omega (arith, a, m)) in
      omega (arith, a, b)

  pub paired_places : IsPairing (length ls) (other_place ls)
  paired_places =
      let below : (p : ℕ) → p < length ls → other_place ls p < length ls = λ p l. other_below ls p l (label_twice p l) in
      let apart : (p : ℕ) → p < length ls → other_place ls p ≢ p = λ p l. other_other ls p l (label_twice p l) in
      record {
        low = below;
        apart = apart;
        twice = λ p l. other_is ls (other_place ls p) p (below p l) l (apart p l) (other_label ls p l (label_twice p l)) (label_twice (other_place ls p) (below p l));
      }

  -- the next place counterclockwise
  pub turn_at : (p : ℕ) → p < length ls → slice_index (slots_after 0 (crossings_of items)) p ≡ next_slot p
  turn_at p l = after_at 0 (crossings_of items) (fours items pd.sizes) p l ∙ (let e : 0 + (p / 4 * 4 + (p % 4 + 1) % 4) ≡ next_slot p = omega arith in e)

-- the number of the crossing of each place
four_owned : (k : ℕ) (slots : List ℕ) (more : List ℕ) (s : ℕ) → length slots ≡ 4 → s < 4 → slice_index (map (λ (_ : ℕ). k) slots ++ more) s ≡ k
four_owned k [] more s h l = absurd (omega (arith, h))
four_owned k (a ∷ []) more s h l = absurd (omega (arith, h))
four_owned k (a ∷ b ∷ []) more s h l = absurd (omega (arith, h))
four_owned k (a ∷ b ∷ c ∷ []) more s h l = absurd (omega (arith, h))
four_owned k (a ∷ b ∷ c ∷ d ∷ rest) more zero h l = refl
four_owned k (a ∷ b ∷ c ∷ d ∷ rest) more (suc zero) h l = refl
four_owned k (a ∷ b ∷ c ∷ d ∷ rest) more (suc (suc zero)) h l = refl
four_owned k (a ∷ b ∷ c ∷ d ∷ rest) more (suc (suc (suc zero))) h l = refl
four_owned k (a ∷ b ∷ c ∷ d ∷ rest) more (suc (suc (suc (suc s)))) h l = absurd (omega (arith, l))

length_owned : (k : ℕ) (slots : List ℕ) → length (map (λ (_ : ℕ). k) slots) ≡ length slots
length_owned k [] = refl
length_owned k (s ∷ slots) = ap suc (length_owned k slots)

pub owner_of : (k : ℕ) (items : List Item) (o : ℕ) → AllByRecursion HasItsSlots items → o < length (place_labels items) → slice_index (owners k (crossings_of items)) o ≡ k + o / 4
owner_of k [] o h l = absurd (omega (arith, l))
owner_of k (item.X here ∷ rest) o h l =
    let four = h.0 in
    let T = owners (k + 1) (crossings_of rest) in
    let first = map (λ (_ : ℕ). k) here in
    let opened : owners k (crossings_of (item.X here ∷ rest)) ≡ first ++ T = ap (owners k) (slot_lists-X here rest four) in
    let long = ap length (ap (labels_by_place) (slot_lists-X here rest four)) in
    let parts = length-append here (place_labels rest) in
    let size = length_owned k here in
    ⊎_elim
    (λ t.
    let low : o < 4 = ltb-true o 4 t in
    ap (λ ns. slice_index ns o) opened ∙ four_owned k here T o four low ∙ (let e : k ≡ k + o / 4 = omega (arith, low) in e))
    (λ t.
    let high : 4 ≤ o = grind (arith, nat_tests, t) in
    let at : o ≡ length first + (o - 4) = omega (arith, high, size, four) in
    let ih = owner_of (k + 1) rest (o - 4) h.1 (omega (arith, l, long, parts, four, high)) in
    ap (λ ns. slice_index ns o) opened ∙ ap (slice_index (first ++ T)) at ∙ slice_index-skip first T (o - 4) ∙ ih
    ∙ (let e : k + 1 + (o - 4) / 4 ≡ k + o / 4 = omega (arith, high) in e))
    (cases_Bool (ltb o 4))
owner_of k (item.Loop label ∷ rest) o h l = owner_of k rest o h.1 l

pub owner_at : (items : List Item) (p : ℕ) → IsPairedDiagram items → p < length (place_labels items) → slice_index (owners 0 (crossings_of items)) p ≡ p / 4
owner_at items p pd l = owner_of 0 items p pd.sizes l ∙ (let e : 0 + p / 4 ≡ p / 4 = omega arith in e)

pub long_is : (items : List Item) → IsPairedDiagram items → length (place_labels items) ≡ 4 * length (crossings_of items)
long_is items pd = places_four items pd.sizes

-- a crossing's places turn
pub turned_names : (n : ℕ) → IsPermutation (range_with_len 0 (4 * n)) next_slot slot_before
turned_names n = record {
  inside = λ x m. (let l = in_range (4 * n) x m in range_has (4 * n) (next_slot x) (omega (arith, l)));
  inside_back = λ x m. (let l = in_range (4 * n) x m in range_has (4 * n) (slot_before x) (omega (arith, l)));
  undone = λ x m. omega arith;
  done_again = λ x m. omega arith;
}
