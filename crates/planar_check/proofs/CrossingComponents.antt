-- The components of a crossing's strands are components of the diagram.
use Rattle.std.proofs.Common.{◌≡◌, ℕ, ◌+◌, ◌*◌, ◌<◌, ◌≤◌, List, length, slice_index, map, arith, All}
use Rattle.std.specs.List.{AllByRecursion, range_with_len}
use Rattle.std.proofs.lemmas.List.Elements.{All-same, All-map}
use Rattle.graph_parts.proofs.Ends.{is_member-get_or}
use Rattle.pd_reader.specs.declared.item.Item.{Item}
use Rattle.pd_reader.specs.Items.{HasItsSlots}
use Rattle.planar_check.specs.declared.sign.Signed.{Signed}
use Rattle.planar_check.specs.Places.{labels_by_place, crossings_of}
use Rattle.planar_check.specs.Components.{least_labels}
use Rattle.planar_check.specs.Signs.{component_at, signed_at, signed_crossings}
use Rattle.planar_check.proofs.Crossings.{places_four, places_labels}
use Rattle.planar_check.proofs.FewComponents.{number_first, number_last}
use Rattle.planar_check.specs.Tables.{IsWithin}
use Rattle.list_lemmas.proofs.Ranges.{All-below}

module _ (xs : List Item) (sizes : AllByRecursion HasItsSlots xs) where
  first_at : (p : ℕ) → p < length (labels_by_place (crossings_of xs)) → 1 ≤ component_at xs p
  first_at p l =
      let ls = labels_by_place (crossings_of xs) in
      number_first xs sizes (slice_index ls p) (places_labels xs sizes (slice_index ls p) (is_member-get_or ls p l))

  last_at : (p : ℕ) → component_at xs p ≤ length (least_labels xs)
  last_at p = number_last xs (slice_index (labels_by_place (crossings_of xs)) p)

  pub crossings_within : (list : List Signed) → list ≡ signed_crossings xs → All (IsWithin (length (least_labels xs))) list
  unfolding signed_crossings
  crossings_within list is =
      let n = length (crossings_of xs) in
      let P : Signed → Type 0 = IsWithin (length (least_labels xs)) in
      All-same P list (map (signed_at xs) (range_with_len 0 n)) is
      (All-map P (signed_at xs) (range_with_len 0 n) (All-below (λ k. P (signed_at xs k)) n (λ k l.
      let four = places_four xs sizes in
      record {
        under_first = first_at (4 * k) (omega (arith, l, four));
        under_last = last_at (4 * k);
        over_first = first_at (4 * k + 1) (omega (arith, l, four));
        over_last = last_at (4 * k + 1);
      })))
