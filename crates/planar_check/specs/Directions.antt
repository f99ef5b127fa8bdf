-- Directions of a diagram's strands. A direction says at which places one comes into the crossing: one leaves at the opposite
-- slot, and comes in again at the other end of the edge. The walks by which signs are told are one; any other differs from it on
-- whole components.
--
--     opposite p                    the slot opposite to the place p, straight on through the crossing
--     IsDirection lists into        into says at which places one comes into the crossing
--     start_of items c              the first place of the least label of component c, if it stands at one
--     agrees items into c           the direction comes in there, as the walk of the component does; a loop has no place, and agrees
--     orientation items into c      1 or -1: whether it agrees
--     reversed_on items into c      the direction with component c reversed
--     sign_sum_by items into i j    the sum of the signs between the components i and j, as the direction tells them
--
-- The Hopf link has the sum of signs 2 between its components; with one of them reversed it is -2.
use Rattle.std.specs.Prelude.{◌≡◌, ℕ, ◌<◌, ◌+◌, ◌-◌, ◌%◌, ◌/◌, ◌*◌, ◌==◌, Bool, true, not, if◌then◌else◌, List, length, map, slice_index, Option, Some, None, ℤ, pos, negsuc}
use Rattle.std.specs.List.{range_with_len}
use Rattle.pd_reader.specs.declared.item.Item.{Item}
use Rattle.planar_check.specs.declared.sign.Signed.{Signed}
use Rattle.planar_check.specs.Places.{labels_by_place, crossings_of, place_labels, first_place, other_place}
use Rattle.planar_check.specs.Components.{least_labels}
use Rattle.planar_check.specs.Signs.{component_at, same_truth, sign_for, signs_between}

-- the slot opposite to the place
abbrev pub opposite : ℕ → ℕ
opposite p = p / 4 * 4 + (p % 4 + 2) % 4

-- one leaves at the opposite slot, and comes in at the other end of an edge
pub record IsDirection (lists : List (List ℕ)) (into : ℕ → Bool) : Type 0 where
  pub straight : (p : ℕ) → p < length (labels_by_place lists) → into (opposite p) ≡ not (into p)
  pub across : (p : ℕ) → p < length (labels_by_place lists) → into (other_place (labels_by_place lists) p) ≡ not (into p)

-- the first place of the least label of component c
abbrev pub start_of : List Item → ℕ → Option ℕ
start_of items c = first_place (place_labels items) (slice_index (least_labels items) (c - 1))

abbrev pub comes_in : (ℕ → Bool) → Option ℕ → Bool
comes_in into None = true
comes_in into (Some p) = into p

-- the direction comes in there
abbrev pub agrees : List Item → (ℕ → Bool) → ℕ → Bool
agrees items into c = comes_in into (start_of items c)

abbrev pub orientation : List Item → (ℕ → Bool) → ℕ → ℤ
orientation items into c = if agrees items into c then pos 1 else negsuc 0

-- component c reversed
abbrev pub reversed_on : List Item → (ℕ → Bool) → ℕ → ℕ → Bool
reversed_on items into c p = if component_at items p == c then not (into p) else into p

-- the crossing with the number k, from 0, with the sign that the direction gives it
abbrev pub signed_by : List Item → (ℕ → Bool) → ℕ → Signed
signed_by items into k = record {
  under = component_at items (4 * k);
  over = component_at items (4 * k + 1);
  sign = sign_for (same_truth (into (4 * k)) (into (4 * k + 3)));
}

-- the sum of the signs between two components
abbrev pub sign_sum_by : List Item → (ℕ → Bool) → ℕ → ℕ → ℤ
sign_sum_by items into i j = signs_between i j (map (signed_by items into) (range_with_len 0 (length (crossings_of items))))
