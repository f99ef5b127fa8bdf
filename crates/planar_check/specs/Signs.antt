-- Signs of crossings, writhes and linking numbers. A component is walked straight on; its least label is
-- walked from its second place to its first. No printed residue depends on this choice of direction.
--
--      c                           c
--      |                           |
--  d -----> b    sign +1       d <----- b    sign -1
--      |                           |
--      a  (under from a to c)      a
--
-- A crossing has sign +1 where, with the under strand walked from a to c, the over strand is walked from d
-- to b, or where both are reversed; else it has sign -1 (the right-hand rule; KnotTheory's X[a,b,c,d]).
-- A walk enters a place where it comes along the place's edge into the crossing.
--
--     walk_edges after others       each place with the one that a walk enters next
--     walk_of lists p               the walk that enters at p, by its least place
--     enters items p                the walk of p's component enters its crossing at p
--     is_positive items k           the crossing with the number k, from 0, has sign +1
--     component_at items p          the component of the strand at the place p
--     signed_crossings items        the crossings, each with its sign and its strands' components
--     signs_between i j list        the sum of the signs of those crossings that are between components i and j
--     sign_sum items i j            the same of the items' crossings
--     writhe items i                the sum of the signs of the crossings of component i with itself
--     linking items i j             that sum halved and rounded toward zero
--
-- The left-handed trefoil X[1,4,2,5] X[3,6,4,1] X[5,2,6,3] has the writhe -3.
use Rattle.std.specs.Prelude.{ℕ, ℤ, pos, ◌+◌, ◌*◌, ◌-ℤ◌, int_div, ◌==◌, ◌&&◌, ◌||◌, Bool, true, false, not, cond, if◌then◌else◌, List, length, map, slice_index, count_by, Option, Some, None}
use Rattle.std.specs.List.{range_with_len}
use Rattle.graph_parts.specs.LeastNames.{least_name}
use Rattle.pd_reader.specs.declared.item.Item.{Item}
use Rattle.planar_check.specs.declared.sign.Sign.{Sign}
use Rattle.planar_check.specs.declared.sign.Sign.TheVariants as signs
use Rattle.planar_check.specs.declared.sign.Signed.{Signed}
use Rattle.planar_check.specs.Places.{crossings_of, place_labels, labels_by_place, slots_after, first_place, other_places}
use Rattle.planar_check.specs.Components.{component_least, number_of}

-- each place with the one that a walk enters next: the other place of the label at the opposite slot
abbrev pub walk_edges : List ℕ → List ℕ → List (ℕ × ℕ)
walk_edges after others = map (λ p. (p, slice_index others (slice_index after (slice_index after p)))) (range_with_len 0 (length others))

-- the walk that the place lies on, by its least place
unfoldable pub walk_of : List (List ℕ) → ℕ → ℕ
walk_of lists p =
    let others = other_places (labels_by_place lists) in
    least_name (range_with_len 0 (length others)) (walk_edges (slots_after 0 lists) others) p

-- p lies on the walk that enters at the place, if there is one
abbrev pub is_walked_with : List (List ℕ) → ℕ → Option ℕ → Bool
is_walked_with lists p None = false
is_walked_with lists p (Some q) = walk_of lists p == walk_of lists q

-- the walk of p's component enters its crossing at p
abbrev pub enters : List Item → ℕ → Bool
enters items p =
    let labels = place_labels items in
    is_walked_with (crossings_of items) p (first_place labels (component_least items (slice_index labels p)))

-- two truth values are the same
abbrev pub same_truth : Bool → Bool → Bool
same_truth x y = cond x y (not y)

-- a is entered and d, or neither
abbrev pub is_positive : List Item → ℕ → Bool
is_positive items k = same_truth (enters items (4 * k)) (enters items (4 * k + 3))

-- the component of the strand at the place
abbrev pub component_at : List Item → ℕ → ℕ
component_at items p = number_of items (slice_index (place_labels items) p)

abbrev pub sign_for : Bool → Sign
sign_for b = if b then signs.Plus else signs.Minus

abbrev pub is_plus : Sign → Bool
is_plus signs.Plus = true
is_plus signs.Minus = false

-- the crossing with the number k, from 0: its strands' components and its sign
abbrev pub signed_at : List Item → ℕ → Signed
signed_at items k = record {
  under = component_at items (4 * k);
  over = component_at items (4 * k + 1);
  sign = sign_for (is_positive items k);
}

-- the crossings in their order
unfoldable pub signed_crossings : List Item → List Signed
signed_crossings items = map (signed_at items) (range_with_len 0 (length (crossings_of items)))

-- one strand is of component i, the other of j
abbrev pub is_between : ℕ → ℕ → Signed → Bool
is_between i j crossing = (crossing.under == i && crossing.over == j) || (crossing.under == j && crossing.over == i)

-- the sum of the signs of the crossings between i and j
abbrev pub signs_between : ℕ → ℕ → List Signed → ℤ
signs_between i j list =
    pos (count_by (λ (crossing : Signed). is_between i j crossing && is_plus crossing.sign) list)
    -ℤ pos (count_by (λ (crossing : Signed). is_between i j crossing && not (is_plus crossing.sign)) list)

-- the sum of the signs of the crossings between two components
abbrev pub sign_sum : List Item → ℕ → ℕ → ℤ
sign_sum items i j = signs_between i j (signed_crossings items)

-- the sum of the signs of the self-crossings
abbrev pub writhe : List Item → ℕ → ℤ
writhe items i = sign_sum items i i

-- half of the number, rounded toward zero: 1 for 3, and -1 for -3
abbrev pub halved : ℤ → ℤ
halved sum = int_div sum (pos 2)

-- the linking number: half the sum of the signs between the components, rounded toward zero
abbrev pub linking : List Item → ℕ → ℕ → ℤ
linking items i j = halved (sign_sum items i j)
