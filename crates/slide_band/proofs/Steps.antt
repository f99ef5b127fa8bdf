-- The pieces of a slide, step by step.
use Rattle.std.proofs.Common.{◌≡◌, ℕ, zero, suc, ◌+◌, ◌*◌, ◌<◌, ◌≤◌, Bool, true, false, not, cond, List, [], ◌∷◌, ◌++◌, length, get_or, slice_index, map, take, All, Option, Some, None, Result, Ok, Err, ℤ, pos, unsigned_abs, refl, sym, ap, ◌∙◌, arith}
use Rattle.std.specs.Prelude.{option_map}
use Rattle.std.specs.List.{position}
use Rattle.std.proofs.lemmas.Grind.{common_steps}
use Rattle.std.proofs.lemmas.List.Elements.{All-get_or}
use Rattle.std.proofs.lemmas.List.Quantifiers.{position-Some}
use Rattle.inertia_laws.specs.Matrices.{is_positive}
use Rattle.pd_reader.specs.declared.item.Item.{Item}
use Rattle.pd_reader.specs.Diagrams.{IsDiagram}
use Rattle.planar_check.specs.Places.{item_slots, crossings_of, first_place, place_labels}
use Rattle.planar_check.specs.Planar.{planar_refusal}
use Rattle.planar_check.specs.declared.fault.PlanarFault.{PlanarFault}
use Rattle.planar_check.specs.Components.{number_of}
use Rattle.planar_check.specs.Directions.{comes_in}
use Rattle.planar_check.specs.Framings.{FramedDiagram, framing_of, is_large, first_large}
use Rattle.planar_check.specs.Signs.{enters}
use Rattle.planar_check.proofs.PlaceTables.{first_within}
use Rattle.slide_strands.specs.declared.strand.Piece.{Piece}
use Rattle.slide_strands.specs.Strands.{alike, ends, entered_at}
use Rattle.slide_strands.specs.Doubling.{doubled, banded, curls}
use Rattle.slide_laws.specs.declared.fault.SlideFault.{SlideFault}
use Rattle.slide_laws.specs.declared.fault.SlideFault.TheVariants.{NotSameFace, FramingSize}
use Rattle.slide_laws.specs.Directed.{directed, items_of}
use Rattle.slide_laws.specs.Refusals.{of_plane}
use Rattle.slide_laws.specs.Slides.{SlidDiagram, top_of, excess, framed_top, framed_pieces, labels_of_component, slid_pieces, is_against, slid_by, slid_at, band_places, early_refusal, late_refusal, slid}
use Rattle.slide_laws.proofs.DirectedItems.{ends_at}
use Rattle.slide_laws.proofs.StartPieces.{ends_count}
use Rattle.slide_band.specs.Copies.{copied_label, slide_with}
use Rattle.slide_band.specs.Faces.{face_list}
use Rattle.slide_band.specs.Sides.{sides_from}
use Rattle.slide_band.proofs.FaceLemmas.{sides_told}

-- ---- curls
first_same : (xs : List Item) → IsDiagram xs → (found : Option ℕ) → ((p : ℕ) → found ≡ Some p → p < length (place_labels xs)) → comes_in (enters xs) found ≡ comes_in (entered_at (directed xs)) found
first_same xs diagram None h = refl
first_same xs diagram (Some p) h = sym (ap (λ (e : ℕ × Bool). e.1) (ends_at xs diagram p (h p refl)))

-- the walk comes in at a label's first place as the pieces' ends say
pub comes_in_same : (xs : List Item) → IsDiagram xs → (f : ℕ) → comes_in (enters xs) (first_place (place_labels xs) f) ≡ comes_in (entered_at (directed xs)) (first_place (place_labels xs) f)
comes_in_same xs diagram f = first_same xs diagram (first_place (place_labels xs) f) (λ p e. first_within (crossings_of xs) f p e)

pub framed_told : (framed : FramedDiagram) → IsDiagram framed.items → (f j top count : ℕ) (plus entered : Bool) (pieces : List Piece) → j ≡ number_of framed.items f → top ≡ top_of framed.items →
    plus ≡ is_positive (excess framed j) → entered ≡ comes_in (enters framed.items) (first_place (place_labels framed.items) f) → count ≡ unsigned_abs (excess framed j) → pieces ≡ directed framed.items →
    curls plus f j entered count (top + 1) pieces ≡ framed_pieces framed f
unfolding framed_pieces
framed_told framed diagram f j top count plus entered pieces of_f of_top of_plus of_entered of_count of_pieces =
    let xs = framed.items in
    let J = number_of xs f in
    let now = of_entered ∙ comes_in_same xs diagram f in
    ap (λ (b : Bool). curls b f j entered count (top + 1) pieces) (of_plus ∙ ap (λ (c : ℕ). is_positive (excess framed c)) of_f)
    ∙ (ap (λ (c : ℕ). curls (is_positive (excess framed J)) f c entered count (top + 1) pieces) of_f
    ∙ (ap (λ (b : Bool). curls (is_positive (excess framed J)) f J b count (top + 1) pieces) now
    ∙ (ap (λ (c : ℕ). curls (is_positive (excess framed J)) f J (comes_in (entered_at (directed xs)) (first_place (place_labels xs) f)) c (top + 1) pieces) (of_count ∙ ap (λ (c : ℕ). unsigned_abs (excess framed c)) of_f)
    ∙ (ap (λ (t : ℕ). curls (is_positive (excess framed J)) f J (comes_in (entered_at (directed xs)) (first_place (place_labels xs) f)) (unsigned_abs (excess framed J)) (t + 1) pieces) of_top
    ∙ ap (λ (ps : List Piece). curls (is_positive (excess framed J)) f J (comes_in (entered_at (directed xs)) (first_place (place_labels xs) f)) (unsigned_abs (excess framed J)) (top_of xs + 1) ps) of_pieces))))

pub top_told : (framed : FramedDiagram) (f j top count : ℕ) → j ≡ number_of framed.items f → top ≡ top_of framed.items → count ≡ unsigned_abs (excess framed j) → top + 2 * count ≡ framed_top framed f
top_told framed f j top count of_f of_top of_count =
    let now = of_count ∙ ap (λ (c : ℕ). unsigned_abs (excess framed c)) of_f in
    omega (arith, of_top, now)

-- ---- the copy and the band
abbrev made_by : ℕ → ℕ → ℕ → ℕ → ℕ → List Piece → Bool → Bool → List ℕ → List Piece
made_by i j e f top pieces at_e at_f names =
    banded at_e e (copied_label names (top + 1) f) (doubled (slide_with (record { over = j; onto = i; side = at_f; along = alike at_e at_f }) names (top + 1)) (top + 1 + length names) pieces)

pub slid_told : (i j e f top : ℕ) (pieces : List Piece) (at_e at_f : Bool) (names : List ℕ) → names ≡ labels_of_component j pieces → made_by i j e f top pieces at_e at_f names ≡ slid_pieces i j e f top pieces at_e at_f
unfolding slid_pieces
slid_told i j e f top pieces at_e at_f names same = ap (made_by i j e f top pieces at_e at_f) same

-- ---- framings
abbrev Small : ℤ → Type 0
Small framing = is_large framing ≡ false

found_large : (xs : List ℤ) → All Small xs → (k : ℕ) (found : Option ℕ) → position is_large xs ≡ found → option_map suc found ≡ Some k → ⊥
found_large xs small k None e h = absurd cc
found_large xs small k (Some i) e h =
    let at = position-Some is_large xs i (pos 0) e in
    absurd (let f : true ≡ false = sym at.1 ∙ All-get_or Small xs i (pos 0) at.0 small in cc)

pub none_large : (fs : List ℤ) → All Small fs → (component : ℕ) → first_large fs ≡ Some component → ⊥
none_large fs h component e = found_large fs h component (position is_large fs) refl e

-- ---- directions
map_take : (f : ℕ → Bool) (xs : List ℕ) (i : ℕ) → i < length xs → map f (take i xs) ++ f (slice_index xs i) ∷ [] ≡ map f (take (suc i) xs)
map_take f [] i l = absurd (omega (arith, l))
map_take f (x ∷ xs) zero l = refl
map_take f (x ∷ xs) (suc i) l = ap (λ (bs : List Bool). f x ∷ bs) (map_take f xs i (omega (arith, l)))

pub against_more : (f : ℕ → Bool) (xs : List ℕ) (i : ℕ) (made more : List Bool) (b : Bool) → i < length xs → made ≡ map f (take i xs) → more ≡ made ++ b ∷ [] → b ≡ f (slice_index xs i) → more ≡ map f (take (i + 1) xs)
against_more f xs i made more b l so_far pushed is =
    pushed
    ∙ (ap (λ (bs : List Bool). bs ++ b ∷ []) so_far
    ∙ (ap (λ (c : Bool). map f (take i xs) ++ c ∷ []) is
    ∙ (map_take f xs i l ∙ ap (λ (n : ℕ). map f (take n xs)) (let e : suc i ≡ i + 1 = omega arith in e))))

pub against_done : (f : ℕ → Bool) (xs : List ℕ) (i : ℕ) (made : List Bool) → length xs ≤ i → made ≡ map f (take i xs) → made ≡ map f xs
against_done f xs i made past h = h ∙ ap (map f) (take_all i xs past)
  where
    take_all : (i : ℕ) (ys : List ℕ) → length ys ≤ i → take i ys ≡ ys
    take_all i ys l = grind (arith, common_steps)

pub ends_long : (planar : List Item) (pieces : List Piece) (directions : List (ℕ × Bool)) → planar ≡ items_of pieces → directions ≡ ends pieces → length directions ≡ length (place_labels planar)
ends_long planar pieces directions same are = ap length are ∙ (ends_count pieces ∙ sym (ap (λ (xs : List Item). length (place_labels xs)) same))

pub against_told : (planar : List Item) (pieces : List Piece) (directions : List (ℕ × Bool)) (least : ℕ) → planar ≡ items_of pieces → directions ≡ ends pieces →
    not (comes_in (λ p. (get_or directions p (0, false)).1) (first_place (place_labels planar) least)) ≡ is_against pieces least
against_told planar pieces directions least same are =
    ap (λ (ds : List (ℕ × Bool)). not (comes_in (λ p. (get_or ds p (0, false)).1) (first_place (place_labels planar) least))) are
    ∙ ap (λ (xs : List Item). not (comes_in (entered_at pieces) (first_place (place_labels xs) least))) same

-- ---- the result, by its plane
abbrev pub by_plane : SlidDiagram → Option PlanarFault → Result SlidDiagram SlideFault
by_plane s found = elim found as (λ _. Result SlidDiagram SlideFault) [
  | None ↦ Ok s
  | Some fault ↦ Err (of_plane fault)
]

-- ---- the slide
pub slid_early : (framed : FramedDiagram) (e f : ℕ) (fault : SlideFault) → early_refusal framed e f ≡ Some fault → slid framed e f ≡ Err fault
unfolding slid
slid_early framed e f fault h = ap (λ (o : Option SlideFault). elim o as (λ _. Result SlidDiagram SlideFault) [
  | Some refusal ↦ Err refusal
  | None ↦ elim (band_places (crossings_of (items_of (framed_pieces framed f))) e f) as (λ _. Result SlidDiagram SlideFault) [
    | None ↦ Err NotSameFace
    | Some places ↦ late_refusal framed (number_of framed.items e) (slid_at framed e f (framed_pieces framed f) places.0 places.1)
  ]
]) h

by_band : FramedDiagram → ℕ → ℕ → Option (ℕ × ℕ) → Result SlidDiagram SlideFault
by_band framed e f found = elim found as (λ _. Result SlidDiagram SlideFault) [
  | None ↦ Err NotSameFace
  | Some places ↦ late_refusal framed (number_of framed.items e) (slid_at framed e f (framed_pieces framed f) places.0 places.1)
]

slid_passed : (framed : FramedDiagram) (e f : ℕ) → early_refusal framed e f ≡ None → slid framed e f ≡ by_band framed e f (band_places (crossings_of (items_of (framed_pieces framed f))) e f)
unfolding slid by_band
slid_passed framed e f h = ap (λ (o : Option SlideFault). elim o as (λ _. Result SlidDiagram SlideFault) [
  | Some refusal ↦ Err refusal
  | None ↦ elim (band_places (crossings_of (items_of (framed_pieces framed f))) e f) as (λ _. Result SlidDiagram SlideFault) [
    | None ↦ Err NotSameFace
    | Some places ↦ late_refusal framed (number_of framed.items e) (slid_at framed e f (framed_pieces framed f) places.0 places.1)
  ]
]) h

-- the answer by the directions at the ends of the band
abbrev pub by_sides : FramedDiagram → ℕ → ℕ → Option (Bool × Bool) → Result SlidDiagram SlideFault
by_sides framed e f found = elim found as (λ _. Result SlidDiagram SlideFault) [
  | None ↦ Err NotSameFace
  | Some sides ↦ late_refusal framed (number_of framed.items e) (slid_by framed e f (framed_pieces framed f) sides.0 sides.1)
]

abbrev sides_of : List Piece → ℕ × ℕ → Bool × Bool
sides_of pieces places = (entered_at pieces places.0, entered_at pieces places.1)

same_band : (framed : FramedDiagram) (e f : ℕ) (found : Option (ℕ × ℕ)) → by_band framed e f found ≡ by_sides framed e f (option_map (sides_of (framed_pieces framed f)) found)
unfolding by_band
same_band framed e f None = refl
same_band framed e f (Some places) = refl

-- THE SLIDE, BY THE SIDES THAT ARE FOUND
pub slid_by_sides : (framed : FramedDiagram) (e f : ℕ) (pieces : List Piece) (found : Option (Bool × Bool)) → early_refusal framed e f ≡ None → pieces ≡ framed_pieces framed f →
    found ≡ sides_from (ends pieces) (map (λ (end : ℕ × Bool). end.0) (ends pieces)) (face_list (map (λ (end : ℕ × Bool). end.0) (ends pieces))) e f → slid framed e f ≡ by_sides framed e f found
slid_by_sides framed e f pieces found passed are told =
    let told_here : found ≡ option_map (sides_of (framed_pieces framed f)) (band_places (crossings_of (items_of (framed_pieces framed f))) e f) =
    told ∙ (sides_told pieces e f ∙ ap (λ (ps : List Piece). option_map (sides_of ps) (band_places (crossings_of (items_of ps)) e f)) are) in
    slid_passed framed e f passed
    ∙ (same_band framed e f (band_places (crossings_of (items_of (framed_pieces framed f))) e f) ∙ sym (ap (by_sides framed e f) told_here))

-- ---- the late refusals
pub late_large : (framed : FramedDiagram) (i : ℕ) (s : SlidDiagram) → is_large (framing_of s.framed i) ≡ true → late_refusal framed i s ≡ Err (FramingSize i)
late_large framed i s h = ap (λ (b : Bool). cond b (Err (FramingSize i)) (by_plane s (planar_refusal item_slots s.framed.items))) h

pub late_small : (framed : FramedDiagram) (i : ℕ) (s : SlidDiagram) → is_large (framing_of s.framed i) ≡ false → late_refusal framed i s ≡ by_plane s (planar_refusal item_slots s.framed.items)
late_small framed i s h = ap (λ (b : Bool). cond b (Err (FramingSize i)) (by_plane s (planar_refusal item_slots s.framed.items))) h

pub plane_refused : (s : SlidDiagram) (found : Option PlanarFault) (fault : SlideFault) → option_map of_plane found ≡ Some fault → by_plane s found ≡ Err fault
plane_refused s None fault h = absurd cc
plane_refused s (Some plane) fault h = let e : of_plane plane ≡ fault = cc in ap (λ (x : SlideFault). Err x) e

abbrev pub two_sides : Bool → Bool → Bool × Bool
two_sides a b = (a, b)

-- where both ends of the band are found, and where they are not
pub slid_found : (framed : FramedDiagram) (e f i : ℕ) (pieces again : List Piece) (found : Option (Bool × Bool)) (a b : Bool) → early_refusal framed e f ≡ None → i ≡ number_of framed.items e →
    pieces ≡ framed_pieces framed f → again ≡ framed_pieces framed f →
    found ≡ sides_from (ends pieces) (map (λ (end : ℕ × Bool). end.0) (ends pieces)) (face_list (map (λ (end : ℕ × Bool). end.0) (ends pieces))) e f →
    found ≡ Some (two_sides a b) → slid framed e f ≡ late_refusal framed i (slid_by framed e f again a b)
slid_found framed e f i pieces again found a b passed of_i of_pieces of_again told is =
    slid_by_sides framed e f pieces found passed of_pieces told
    ∙ (ap (by_sides framed e f) is
    ∙ (ap (λ (c : ℕ). late_refusal framed c (slid_by framed e f (framed_pieces framed f) a b)) (sym of_i)
    ∙ ap (λ (ps : List Piece). late_refusal framed i (slid_by framed e f ps a b)) (sym of_again)))

pub slid_apart : (framed : FramedDiagram) (e f : ℕ) (pieces : List Piece) (found : Option (Bool × Bool)) → early_refusal framed e f ≡ None → pieces ≡ framed_pieces framed f →
    found ≡ sides_from (ends pieces) (map (λ (end : ℕ × Bool). end.0) (ends pieces)) (face_list (map (λ (end : ℕ × Bool). end.0) (ends pieces))) e f →
    found ≡ None → slid framed e f ≡ Err NotSameFace
slid_apart framed e f pieces found passed of_pieces told is = slid_by_sides framed e f pieces found passed of_pieces told ∙ ap (by_sides framed e f) is
