-- Handle slides. The component i of the edge e is slid over the component j of the edge f: j is given curls until its writhe is its
-- framing, it is doubled, and a band in a face that has both edges makes the copy a part of i. (Kirby's second move; the numbering of
-- places and labels is this project's own.)
--
--     SlidDiagram                what a slide gives: the framed diagram, the sign, and for each component whether it is walked against
--                                the direction that its old pieces had
--     band_places lists e f      the ends of the band: a place of e and a place of f in one face
--     excess framed j            how far the framing of component j is above its writhe
--     framed_pieces framed f     the pieces after the curls
--     slide_of i j top pieces at_e at_f    which component is doubled, which one gets the copy, and the copy's labels
--     slid_pieces ..             the pieces after the slide
--     slid_by framed e f pieces at_e at_f    the slide, where the walks come in or not at the ends of the band
--     early_refusal framed e f   why there is no slide, before the band is looked for
--     slid framed e f            THE SLIDE of e along f, or the first refusal
--
-- The Hopf link X[2,4,3,1] X[4,2,1,3] with the framings 0,0, slid at its edge 1 along its edge 2, is X[5,7,6,5] X[2,4,3,7]
-- X[4,2,8,3] X[8,1,1,6] with the framings -2,0.
use Rattle.std.specs.Prelude.{ℕ, ◌+◌, ◌-◌, ◌*◌, ◌%◌, ◌==◌, ◌&&◌, not, nat_lt, Bool, if◌then◌else◌, List, [], ◌∷◌, length, map, slice_index, slice_set, Option, Some, None, is_some, option_map, option_and_then, Result, Ok, Err, ℤ, ◌+ℤ◌, ◌-ℤ◌, ◌*ℤ◌}
use Rattle.std.specs.Int.RustNames.{unsigned_abs}
use Rattle.std.specs.List.{find, range_with_len}
use Rattle.std.specs.Option.{option_or}
use Rattle.std.specs.Set.{is_member}
use Rattle.inertia_laws.specs.Matrices.{is_positive}
use Rattle.pd_reader.specs.declared.diagram.TheConstants.{MOST_ITEMS}
use Rattle.pd_reader.specs.declared.item.Item.{Item}
use Rattle.pd_reader.specs.Items.{item_labels}
use Rattle.pd_reader.specs.Diagrams.{labels}
use Rattle.planar_check.specs.declared.sign.Sign.{Sign}
use Rattle.planar_check.specs.declared.sign.Signed.{Signed}
use Rattle.planar_check.specs.Places.{item_slots, labels_by_place, crossings_of, place_labels, first_place}
use Rattle.planar_check.specs.Planar.{face_of, planar_refusal}
use Rattle.planar_check.specs.Components.{greatest, distinct, rank, number_of, least_labels}
use Rattle.planar_check.specs.Signs.{sign_for, signed_crossings, signs_between, writhe}
use Rattle.planar_check.specs.Directions.{comes_in}
use Rattle.planar_check.specs.Framings.{FramedDiagram, framing_of, is_large}
use Rattle.planar_check.specs.Tables.{sign_value}
use Rattle.slide_strands.specs.declared.strand.Strand.{Strand}
use Rattle.slide_strands.specs.declared.strand.Piece.{Piece}
use Rattle.slide_strands.specs.Strands.{alike, strands, entered_at, has_one, has_two, crossings_with}
use Rattle.slide_strands.specs.Doubling.{Slide, doubled, banded, curls}
use Rattle.slide_laws.specs.declared.fault.SlideFault.{SlideFault}
use Rattle.slide_laws.specs.declared.fault.SlideFault.TheVariants.{NoEdge, LoopEdge, SameComponent, OddSigns, TooMany, NotSameFace, FramingSize}
use Rattle.slide_laws.specs.Directed.{directed, items_of}
use Rattle.slide_laws.specs.Refusals.{of_plane}

-- what a slide gives
pub record SlidDiagram : Type 0 where
  pub framed : FramedDiagram
  pub sign : Sign
  pub against : List Bool

-- ---- the ends of the band
-- the least place of f in the face of the place p, where faces are told by a function
abbrev pub place_in_face : List ℕ → (ℕ → ℕ) → ℕ → ℕ → Option ℕ
place_in_face ls face f p = find (λ q. slice_index ls q == f && face q == face p) (range_with_len 0 (length ls))

-- the first place of e whose face has a place of f
abbrev pub band_start : List ℕ → (ℕ → ℕ) → ℕ → ℕ → Option ℕ
band_start ls face e f = find (λ p. slice_index ls p == e && is_some (place_in_face ls face f p)) (range_with_len 0 (length ls))

-- that place, and the least place of f in its face
abbrev pub band_ends : List ℕ → (ℕ → ℕ) → ℕ → ℕ → Option (ℕ × ℕ)
band_ends ls face e f = option_and_then (λ p. option_map (λ q. (p, q)) (place_in_face ls face f p)) (band_start ls face e f)

abbrev pub band_places : List (List ℕ) → ℕ → ℕ → Option (ℕ × ℕ)
band_places lists e f = band_ends (labels_by_place lists) (face_of lists) e f

-- ---- the curls
-- how far the framing of component j is above its writhe
abbrev pub excess : FramedDiagram → ℕ → ℤ
excess framed j = framing_of framed j -ℤ writhe framed.items j

-- the greatest label
abbrev pub top_of : List Item → ℕ
top_of items = greatest (labels item_labels items)

-- the greatest label after the curls, each of which has two new ones
abbrev pub framed_top : FramedDiagram → ℕ → ℕ
framed_top framed f = top_of framed.items + 2 * unsigned_abs (excess framed (number_of framed.items f))

-- the pieces after the curls on f
unfoldable pub framed_pieces : FramedDiagram → ℕ → List Piece
framed_pieces framed f =
    let pieces = directed framed.items in
    let j = number_of framed.items f in
    curls (is_positive (excess framed j)) f j (comes_in (entered_at pieces) (first_place (place_labels framed.items) f)) (unsigned_abs (excess framed j)) (top_of framed.items + 1) pieces

-- ---- the copy and the band
-- the labels of component j at its strands
abbrev pub strand_labels : ℕ → List Strand → List ℕ
strand_labels j [] = []
strand_labels j (s ∷ ss) = if s.component == j then s.from ∷ s.to ∷ strand_labels j ss else strand_labels j ss

-- the labels of component j, increasing
abbrev pub labels_of_component : ℕ → List Piece → List ℕ
labels_of_component j pieces = distinct (strand_labels j (strands pieces))

-- the doubling of j for i, where the greatest label is `top`, and the walks come in or not at the ends of the band
abbrev pub slide_of : ℕ → ℕ → ℕ → List Piece → Bool → Bool → Slide
slide_of i j top pieces at_e at_f = record {
  over = j;
  onto = i;
  side = at_f;
  along = alike at_e at_f;
  copied = λ x. top + 1 + rank (labels_of_component j pieces) x;
}

-- the pieces after the slide
unfoldable pub slid_pieces : ℕ → ℕ → ℕ → ℕ → ℕ → List Piece → Bool → Bool → List Piece
slid_pieces i j e f top pieces at_e at_f =
    let slide = slide_of i j top pieces at_e at_f in
    banded at_e e (slide.copied f) (doubled slide (top + 1 + length (labels_of_component j pieces)) pieces)

-- ---- the result
-- the framing of i after the slide
abbrev pub slid_framing : FramedDiagram → ℕ → ℕ → Sign → ℤ
slid_framing framed i j sign = (framing_of framed i +ℤ framing_of framed j) +ℤ (sign_value sign *ℤ signs_between i j (signed_crossings framed.items))

-- the component with this least label is walked against the direction of its old pieces: a walk comes in at the first place of a
-- component's least label, and a loop has none
abbrev pub is_against : List Piece → ℕ → Bool
is_against pieces least = not (comes_in (entered_at pieces) (first_place (place_labels (items_of pieces)) least))

-- the slide, where the walks come in or not at the ends of the band
abbrev pub slid_by : FramedDiagram → ℕ → ℕ → List Piece → Bool → Bool → SlidDiagram
slid_by framed e f pieces at_e at_f =
    let i = number_of framed.items e in
    let j = number_of framed.items f in
    let sign = sign_for (alike at_e at_f) in
    let result = slid_pieces i j e f (framed_top framed f) pieces at_e at_f in
    record {
      framed = record { items = items_of result; framings = slice_set framed.framings (i - 1) (slid_framing framed i j sign) };
      sign = sign;
      against = map (is_against result) (least_labels framed.items);
    }

-- the slide with its band between these places
abbrev pub slid_at : FramedDiagram → ℕ → ℕ → List Piece → ℕ → ℕ → SlidDiagram
slid_at framed e f pieces p q = slid_by framed e f pieces (entered_at pieces p) (entered_at pieces q)

-- ---- refusals
-- the label is one of the diagram
abbrev pub is_edge : List Item → ℕ → Bool
is_edge items label = is_member ◌==◌ (labels item_labels items) label

-- a label of the diagram that stands at no place is a loop's
abbrev pub is_loop : List Item → ℕ → Bool
is_loop items label = not (is_member ◌==◌ (place_labels items) label)

-- the refusal of e, or else of f, where it passes the test
abbrev pub edge_refusal : (ℕ → Bool) → (ℕ → SlideFault) → ℕ → ℕ → Option SlideFault
edge_refusal test refusal e f = if test e then Some (refusal e) else if test f then Some (refusal f) else None

-- component b is above a, and the sum of the signs between both is odd
abbrev pub is_odd_above : List Signed → ℕ → ℕ → Bool
is_odd_above crossings a b = nat_lt a b && unsigned_abs (signs_between a b crossings) % 2 == 1

-- the first component above a, among these, with which it has an odd sum of signs
abbrev pub odd_with : List Signed → ℕ → List ℕ → Option ℕ
odd_with crossings a bs = find (is_odd_above crossings a) bs

-- the first two components, the sum of the signs between which is odd
abbrev pub odd_pair : List Signed → List ℕ → List ℕ → Option SlideFault
odd_pair crossings [] bs = None
odd_pair crossings (a ∷ rest) bs = elim (odd_with crossings a bs) as (λ _. Option SlideFault) [
  | None ↦ odd_pair crossings rest bs
  | Some b ↦ Some (OddSigns a b)
]

-- items after the slide: one more for a crossing with one strand of j, three more for one with two, four for a curl
abbrev pub items_after : FramedDiagram → ℕ → ℕ
items_after framed j =
    length framed.items
    + crossings_with (has_one j) (directed framed.items)
    + 3 * crossings_with (has_two j) (directed framed.items)
    + 4 * unsigned_abs (excess framed j)

-- why there is no slide, before the band is looked for
abbrev pub early_refusal : FramedDiagram → ℕ → ℕ → Option SlideFault
early_refusal framed e f =
    let items = framed.items in
    let numbers = range_with_len 1 (length framed.framings) in
    option_or (edge_refusal (λ x. not (is_edge items x)) NoEdge e f)
    (option_or (edge_refusal (is_loop items) LoopEdge e f)
    (option_or (if number_of items e == number_of items f then Some SameComponent else None)
    (option_or (odd_pair (signed_crossings items) numbers numbers)
    (if nat_lt MOST_ITEMS (items_after framed (number_of items f)) then Some (TooMany MOST_ITEMS) else None))))

-- a result whose framing is too large, or that is not planar, is refused
abbrev pub late_refusal : FramedDiagram → ℕ → SlidDiagram → Result SlidDiagram SlideFault
late_refusal framed i result =
    if is_large (framing_of result.framed i) then Err (FramingSize i)
    else elim (planar_refusal item_slots result.framed.items) as (λ _. Result SlidDiagram SlideFault) [
      | None ↦ Ok result
      | Some fault ↦ Err (of_plane fault)
    ]

-- THE SLIDE
unfoldable pub slid : FramedDiagram → ℕ → ℕ → Result SlidDiagram SlideFault
slid framed e f = elim (early_refusal framed e f) as (λ _. Result SlidDiagram SlideFault) [
  | Some refusal ↦ Err refusal
  | None ↦ elim (band_places (crossings_of (items_of (framed_pieces framed f))) e f) as (λ _. Result SlidDiagram SlideFault) [
    | None ↦ Err NotSameFace
    | Some places ↦ late_refusal framed (number_of framed.items e) (slid_at framed e f (framed_pieces framed f) places.0 places.1)
  ]
]
