-- What the tables of this crate's code hold: the invariants of its types and of its loops. A reader of the definitions needs
-- none of these.
--
--     AreLists lists read after numbers    the labels, next slots and owners of the places
--     ArePlaces lists places     what is known of each place of the items with these slots
--     AreComponents items names leasts all    the different labels, each one's least label, and the least labels of all components
--     AreCrossings items list    the crossings of the items, few enough to be counted
--     is_same_walk, signed_from  whether a walk enters at a place, and a crossing, from tables of these
--     AreEntered items list      for each place whether the walk of its component enters there
--     IsWithin n crossing        the components of the crossing's strands are of the first n
--     AreSignSums n list sums    the table of the sums of signs between each two of n components
--     entry_from framings sums place    the entry of the linking matrix at a place of that table
use Rattle.std.specs.Prelude.{◌≡◌, ◌≢◌, ℕ, ◌+◌, ◌*◌, ◌/◌, ◌%◌, ◌^◌, ◌<◌, ◌≤◌, ◌==◌, ℤ, pos, negsuc, Bool, false, if◌then◌else◌, nat_le, count_by, List, length, map, slice_index, slice_index_or, Option, Some, None}
use Rattle.std.specs.BTreeMap.{get}
use Rattle.std.specs.List.{range_with_len}
use Rattle.std.specs.Ordering.{nat_cmp}
use Rattle.pd_reader.specs.declared.item.Item.{Item}
use Rattle.pd_reader.specs.Items.{item_labels}
use Rattle.pd_reader.specs.Diagrams.{labels}
use Rattle.planar_check.specs.declared.placed.Places.{Places}
use Rattle.planar_check.specs.declared.sign.Sign.{Sign}
use Rattle.planar_check.specs.declared.sign.Sign.TheVariants as signs
use Rattle.planar_check.specs.declared.sign.Signed.{Signed}
use Rattle.planar_check.specs.Places.{labels_by_place, slots_after, owners, first_place, other_places, place_labels}
use Rattle.planar_check.specs.Planar.{face_of}
use Rattle.planar_check.specs.Components.{distinct, component_least, least_labels}
use Rattle.planar_check.specs.Signs.{enters, same_truth, sign_for, signed_crossings, signs_between, halved}

-- the lists are those of the places of the items with these slots
pub record AreLists (lists : List (List ℕ)) (read after numbers : List ℕ) : Type 0 where
  pub labels_are : read ≡ labels_by_place lists
  pub after_are : after ≡ slots_after 0 lists
  pub owners_are : numbers ≡ owners 0 lists

-- what is known of each place of the items with these slots
pub record ArePlaces (lists : List (List ℕ)) (places : Places) : Type 0 where
  pub labels_are : places.labels.items ≡ labels_by_place lists
  pub after_are : places.after.items ≡ slots_after 0 lists
  pub owners_are : places.owners.items ≡ owners 0 lists
  pub others_are : places.others.items ≡ other_places (labels_by_place lists)
  pub firsts_are : (label : ℕ) → get nat_cmp places.firsts label ≡ first_place (labels_by_place lists) label
  pub faces_are : places.faces.items ≡ map (face_of lists) (range_with_len 0 (length (labels_by_place lists)))
  pub count_is : places.item_count ≡ length lists

-- the different labels of a diagram's items, the least label of each one's component, and those of all components
pub record AreComponents (items : List Item) (names leasts all : List ℕ) : Type 0 where
  pub names_are : names ≡ distinct (labels item_labels items)
  pub leasts_are : leasts ≡ map (component_least items) names
  pub all_are : all ≡ least_labels items
  pub few : length all < 2 ^ 32

-- the crossings of the items, few enough to be counted
pub record AreCrossings (items : List Item) (list : List Signed) : Type 0 where
  pub crossings_are : list ≡ signed_crossings items
  pub few : length list < 2 ^ 32

-- p lies on the walk of the place, if there is one, where the walks are given
abbrev pub is_same_walk : List ℕ → ℕ → Option ℕ → Bool
is_same_walk walks p None = false
is_same_walk walks p (Some q) = slice_index walks p == slice_index walks q

-- the crossing with the number k, where it is given for each place whether a walk enters there, and the least label of its
-- component; and the least labels of all components
abbrev pub signed_from : List Bool → List ℕ → List ℕ → ℕ → Signed
signed_from entered leasts all k = record {
  under = count_by (λ label. nat_le label (slice_index leasts (4 * k))) all;
  over = count_by (λ label. nat_le label (slice_index leasts (4 * k + 1))) all;
  sign = sign_for (same_truth (slice_index_or entered (4 * k) false) (slice_index_or entered (4 * k + 3) false));
}

-- for each place whether the walk of its component enters there
abbrev pub AreEntered : List Item → List Bool → Type 0
AreEntered items list = list ≡ map (enters items) (range_with_len 0 (length (place_labels items)))

-- ---- the linking matrix
-- +1 or -1
abbrev pub sign_value : Sign → ℤ
sign_value signs.Plus = pos 1
sign_value signs.Minus = negsuc 0

-- the components of the crossing's strands are of the first n
pub record IsWithin (n : ℕ) (crossing : Signed) : Type 0 where
  pub under_first : 1 ≤ crossing.under
  pub under_last : crossing.under ≤ n
  pub over_first : 1 ≤ crossing.over
  pub over_last : crossing.over ≤ n

-- off the diagonal stand the sums of the signs between two of n components, rows one after the other
pub record AreSignSums (n : ℕ) (list : List Signed) (sums : List ℤ) : Type 0 where
  pub full : length sums ≡ n * n
  pub between : (i j : ℕ) → i < n → j < n → i ≢ j → slice_index_or sums (i * n + j) (pos 0) ≡ signs_between (i + 1) (j + 1) list

-- the entry at a place of the matrix, where the framings and the table of sums are given
abbrev pub entry_from : List ℤ → List ℤ → ℕ → ℤ
entry_from framings sums place =
    let n = length framings in
    if place / n == place % n then slice_index_or framings (place / n) (pos 0) else halved (slice_index_or sums place (pos 0))
