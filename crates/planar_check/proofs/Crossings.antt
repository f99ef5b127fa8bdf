-- The crossings of a diagram have four places each, whose labels are the diagram's; and what is computed of
-- a crossing's places is its sign and its components.
use Rattle.std.proofs.Common.{◌≡◌, ℕ, ◌+◌, ◌*◌, ◌<◌, ◌≤◌, ◌==◌, ◌||◌, Bool, true, false, Option, Some, None, IfSome, subst, ap₂, cond, leb, ltb, List, [], ◌∷◌, ◌++◌, length, map, get_or, slice_index, count_by, refl, sym, ap, ◌∙◌, arith, length-append, ⊎_elim}
use Rattle.std.specs.List.{AllByRecursion, range_with_len}
use Rattle.std.specs.Set.{is_member}
use Rattle.std.proofs.lemmas.Bool.{lt-ltb, or_cases, or_left, or_right}
use Rattle.std.proofs.lemmas.List.{get_or-map, length-map}
use Rattle.std.proofs.lemmas.List.FromFn.{length-map-range_with_len, get_or-map-range_with_len, fill_by_all}
use Rattle.graph_parts.specs.LeastNames.{least_name}
use Rattle.graph_parts.proofs.Distinct.{is_member-append}
use Rattle.pd_reader.specs.declared.item.Item.{Item}
use Rattle.pd_reader.specs.declared.item.Item.TheVariants as items
use Rattle.pd_reader.specs.Items.{item_labels, HasItsSlots}
use Rattle.pd_reader.specs.Diagrams.{labels, IsDiagram}
use Rattle.planar_check.specs.declared.sign.Signed.{Signed}
use Rattle.planar_check.specs.declared.sign.Sign.{Sign}
use Rattle.planar_check.specs.Places.{slot_lists, item_slots, crossings_of, place_labels, labels_by_place, slots_after, first_place, other_places, other_place}
use Rattle.planar_check.specs.Components.{component_least, least_labels}
use Rattle.planar_check.specs.Signs.{walk_edges, walk_of, is_walked_with, enters, same_truth, is_positive, component_at, sign_for, signed_at, signed_crossings}
use Rattle.planar_check.specs.Tables.{AreEntered, is_same_walk, signed_from}
use Rattle.std.proofs.lemmas.List.Quantifiers.{position-Some}
use Rattle.std.proofs.Common.{All}
use Rattle.std.proofs.lemmas.List.Elements.{All-same, All-from_get_or}
use Rattle.graph_parts.proofs.Ends.{is_member-get_or, is_member-itself}
use Rattle.graph_parts.proofs.Renaming.{map_agree_on}
use Rattle.planar_check.proofs.FaceSteps.{entry_at}
use Rattle.std.proofs.lemmas.List.Sums.{length-filter, count_by-le-length}

pub slot_lists-X : (slots : List ℕ) (xs : List Item) → length slots ≡ 4 → slot_lists item_slots (items.X slots ∷ xs) ≡ slots ∷ slot_lists item_slots xs
slot_lists-X slots xs four = ap (λ (b : Bool). cond b (slots ∷ slot_lists item_slots xs) (slot_lists item_slots xs)) (lt-ltb 0 (length slots) (omega (arith, four)))

pub places_four : (xs : List Item) → AllByRecursion HasItsSlots xs → length (labels_by_place (crossings_of xs)) ≡ 4 * length (crossings_of xs)
places_four [] sizes = refl
places_four (items.X slots ∷ xs) sizes =
    let e = slot_lists-X slots xs sizes.0 in
    omega (arith, ap (λ (cs : List (List ℕ)). length (labels_by_place cs)) e, ap length e, length-append slots (labels_by_place (crossings_of xs)), places_four xs sizes.1, sizes.0)
places_four (items.Loop label ∷ xs) sizes = places_four xs sizes.1

pub places_labels : (xs : List Item) → AllByRecursion HasItsSlots xs → (x : ℕ) → is_member ◌==◌ (labels_by_place (crossings_of xs)) x ≡ true → is_member ◌==◌ (labels item_labels xs) x ≡ true
places_labels [] sizes x m = m
places_labels (items.X slots ∷ xs) sizes x m =
    let here = is_member ◌==◌ slots x in
    let there = is_member ◌==◌ (labels item_labels xs) x in
    let e : is_member ◌==◌ (slots ++ labels_by_place (crossings_of xs)) x ≡ true = sym (ap (λ (cs : List (List ℕ)). is_member ◌==◌ (labels_by_place cs) x) (slot_lists-X slots xs sizes.0)) ∙ m in
    is_member-append slots (labels item_labels xs) x
    ∙ ⊎_elim (λ t. or_left here there t) (λ t. or_right here there (places_labels xs sizes.1 x t))
    (or_cases here (is_member ◌==◌ (labels_by_place (crossings_of xs)) x) (sym (is_member-append slots (labels_by_place (crossings_of xs)) x) ∙ e))
places_labels (items.Loop label ∷ xs) sizes x m =
    let ih = places_labels xs sizes.1 x m in
    or_right (x == label) (x == label || is_member ◌==◌ (labels item_labels xs) x) (or_right (x == label) (is_member ◌==◌ (labels item_labels xs) x) ih)

-- a diagram has at most 256 crossings, so at most 1,024 places
crossings_short : (xs : List Item) → length (crossings_of xs) ≤ length xs
crossings_short xs = let kept = length-filter (λ (slots : List ℕ). ltb 0 (length slots)) (map item_slots xs) in let most = count_by-le-length (λ (slots : List ℕ). ltb 0 (length slots)) (map item_slots xs) in let long = length-map xs item_slots in omega (arith, kept, most, long)

pub few_crossings : (xs : List Item) → IsDiagram xs → length (crossings_of xs) ≤ 256
few_crossings xs diagram = let few = diagram.few in omega (arith, crossings_short xs, few)

pub few_places : (xs : List Item) → IsDiagram xs → length (place_labels xs) ≤ 1024
few_places xs diagram = omega (arith, few_crossings xs diagram, places_four xs diagram.sizes)

-- the walks, as they are computed from the lists
pub walks_are : (cs : List (List ℕ)) (after others walks : List ℕ) → after ≡ slots_after 0 cs → others ≡ other_places (labels_by_place cs) →
    walks ≡ map (least_name (range_with_len 0 (length others)) (walk_edges after others)) (range_with_len 0 (length others)) →
    walks ≡ map (walk_of cs) (range_with_len 0 (length (labels_by_place cs)))
unfolding walk_of
walks_are cs after others walks t o e =
    let labels = labels_by_place cs in
    let long : length (other_places labels) ≡ length labels = length-map-range_with_len (other_place labels) 0 (length labels) in
    e
    ∙ (ap (λ (ts : List ℕ). map (least_name (range_with_len 0 (length others)) (walk_edges ts others)) (range_with_len 0 (length others))) t
    ∙ (ap (λ (os : List ℕ). map (least_name (range_with_len 0 (length os)) (walk_edges (slots_after 0 cs) os)) (range_with_len 0 (length os))) o
    ∙ ap (λ (n : ℕ). map (walk_of cs) (range_with_len 0 n)) long))

signed_parts : (s : Signed) (under over : ℕ) (sign : Sign) → s.under ≡ under → s.over ≡ over → s.sign ≡ sign → s ≡ record { under = under; over = over; sign = sign }
signed_parts s under over sign u o g =
    ap (λ (x : ℕ). record s { under = x }) u ∙ (ap (λ (x : ℕ). record s { under = under; over = x }) o ∙ ap (λ (x : Sign). record s { under = under; over = over; sign = x }) g)

-- ---- what is told by the tables of walks and of least labels
module _ (xs : List Item) (walks leasts all : List ℕ) (found : ℕ → Option ℕ)
    (walks_is : walks ≡ map (walk_of (crossings_of xs)) (range_with_len 0 (length (place_labels xs))))
    (leasts_is : leasts ≡ map (component_least xs) (place_labels xs))
    (all_is : all ≡ least_labels xs)
    (firsts_is : (label : ℕ) → found label ≡ first_place (place_labels xs) label) where
  abbrev ls : List ℕ
  ls = place_labels xs

  least_at : (p : ℕ) → p < length ls → slice_index leasts p ≡ component_least xs (slice_index ls p)
  least_at p l = ap (λ (ns : List ℕ). get_or ns p 0) leasts_is ∙ get_or-map (component_least xs) ls p 0 0 l

  number_at : (p : ℕ) → p < length ls → count_by (λ label. leb label (slice_index leasts p)) all ≡ component_at xs p
  number_at p l = ap (λ (k : ℕ). count_by (λ label. leb label k) all) (least_at p l) ∙ ap (count_by (λ label. leb label (component_least xs (slice_index ls p)))) all_is

  walks_long : length walks ≡ length ls
  walks_long = ap length walks_is ∙ length-map-range_with_len (walk_of (crossings_of xs)) 0 (length ls)

  first_inside : (label q : ℕ) → first_place ls label ≡ Some q → q < length ls
  first_inside label q e = (position-Some (λ other. other == label) ls q 0 e).0

  -- the first place of a label can be looked up
  pub firsts_within : (label : ℕ) → IfSome (found label) (λ q. q < length walks)
  firsts_within label =
      let P : Option ℕ → Type 0 = λ o. IfSome o (λ q. q < length walks) in
      subst P (sym (firsts_is label)) (within (first_place ls label) (first_inside label)) where
        within : (o : Option ℕ) → ((q : ℕ) → o ≡ Some q → q < length ls) → IfSome o (λ q. q < length walks)
        within None h = tt
        within (Some q) h = let below = h q refl in omega (arith, below, walks_long)

  entered_at : (p : ℕ) → p < length ls → is_same_walk walks p (found (slice_index leasts p)) ≡ enters xs p
  entered_at p l =
      let label = component_least xs (slice_index ls p) in
      ap (is_same_walk walks p) (firsts_is (slice_index leasts p) ∙ ap (first_place ls) (least_at p l)) ∙ told (first_place ls label) (first_inside label) where
        told : (o : Option ℕ) → ((q : ℕ) → o ≡ Some q → q < length ls) → is_same_walk walks p o ≡ is_walked_with (crossings_of xs) p o
        told None h = refl
        told (Some q) h =
            ap₂ (λ (a b : ℕ). a == b) (entry_at (walk_of (crossings_of xs)) (length ls) p walks walks_is l) (entry_at (walk_of (crossings_of xs)) (length ls) q walks walks_is (h q refl))

  -- WHERE THE WALKS ENTER
  pub entered_are : (list : List Bool) → list ≡ map (λ p. is_same_walk walks p (found (slice_index leasts p))) (range_with_len 0 (length leasts)) → AreEntered xs list
  entered_are list e =
      let long : length leasts ≡ length ls = ap length leasts_is ∙ length-map ls (component_least xs) in
      let f : ℕ → Bool = λ p. is_same_walk walks p (found (slice_index leasts p)) in
      fill_by_all (enters xs) list (length ls) false (ap length e ∙ (length-map-range_with_len f 0 (length leasts) ∙ long)) (λ k l.
      ap (λ (bs : List Bool). get_or bs k false) e
      ∙ (get_or-map-range_with_len f 0 (length leasts) k k false (omega (arith, l, long)) (let z : 0 + k ≡ k = omega arith in z)
      ∙ entered_at k l))

  crossing_is : (list : List Bool) → AreEntered xs list → (k : ℕ) → 4 * k + 3 < length ls → signed_from list leasts all k ≡ signed_at xs k
  crossing_is list e k l =
      let at : (p : ℕ) → p < length ls → get_or list p false ≡ enters xs p =
      λ p h. ap (λ (bs : List Bool). get_or bs p false) e ∙ get_or-map-range_with_len (enters xs) 0 (length ls) p p false h (let z : 0 + p ≡ p = omega arith in z) in
      let s = signed_from list leasts all k in
      signed_parts s (component_at xs (4 * k)) (component_at xs (4 * k + 1)) (sign_for (is_positive xs k))
      (number_at (4 * k) (omega (arith, l)))
      (number_at (4 * k + 1) (omega (arith, l)))
      (ap₂ (λ a b. sign_for (same_truth a b)) (at (4 * k) (omega (arith, l))) (at (4 * k + 3) l))

  -- THE CROSSINGS
  pub signed_are : AllByRecursion HasItsSlots xs → (list : List Bool) → AreEntered xs list → (count : ℕ) (signed : List Signed) → count ≡ length (crossings_of xs) →
      signed ≡ map (signed_from list leasts all) (range_with_len 0 count) → signed ≡ signed_crossings xs
  unfolding signed_crossings
  signed_are sizes list e count signed n is =
      let four = places_four xs sizes in
      let f = signed_from list leasts all in
      fill_by_all (signed_at xs) signed (length (crossings_of xs)) (signed_at xs 0) (ap length is ∙ (length-map-range_with_len f 0 count ∙ n)) (λ k l.
      ap (λ (ss : List Signed). get_or ss k (signed_at xs 0)) is
      ∙ (get_or-map-range_with_len f 0 count k k (signed_at xs 0) (omega (arith, l, n)) (let z : 0 + k ≡ k = omega arith in z)
      ∙ crossing_is list e k (omega (arith, l, four))))

module _ (xs : List Item) (sizes : AllByRecursion HasItsSlots xs) where
  pub labels_covered : (P : ℕ → Type 0) → ((x : ℕ) → is_member ◌==◌ (labels item_labels xs) x ≡ true → P x) → (read : List ℕ) → read ≡ labels_by_place (crossings_of xs) → All P read
  labels_covered P covers read r =
      let ls = labels_by_place (crossings_of xs) in
      All-same P read ls r (All-from_get_or P ls 0 (λ i l. covers (slice_index ls i) (places_labels xs sizes (slice_index ls i) (is_member-get_or ls i l))))

  pub leasts_at_places : (least : ℕ → ℕ) → ((x : ℕ) → is_member ◌==◌ (labels item_labels xs) x ≡ true → least x ≡ component_least xs x) →
      (read : List ℕ) → read ≡ labels_by_place (crossings_of xs) → map least read ≡ map (component_least xs) (labels_by_place (crossings_of xs))
  leasts_at_places least agree read r =
      let ls = labels_by_place (crossings_of xs) in
      ap (map least) r
      ∙ map_agree_on (is_member ◌==◌ ls) least (component_least xs) ls (is_member-itself ls) (λ x m. agree x (places_labels xs sizes x m))
