-- The faces and the ends of the band that the code finds are the definition's.
use Rattle.std.proofs.Common.{◌≡◌, ℕ, zero, suc, ◌+◌, ◌<◌, ◌≤◌, ◌==◌, ◌&&◌, Bool, true, false, cond, List, [], ◌∷◌, length, slice_index, map, Option, Some, None, unwrap_or, refl, sym, ap, ap₂, ◌∙◌, arith}
use Rattle.std.specs.Prelude.{is_some, option_map, option_and_then}
use Rattle.std.specs.List.{find, range_with_len}
use Rattle.std.proofs.lemmas.List.FromFn.{length-map-range_with_len, get_or-map-range_with_len}
use Rattle.graph_parts.specs.LeastNames.{least_name}
use Rattle.planar_check.specs.Places.{crossings_of, labels_by_place, slots_after, first_passing, is_across, other_place, other_places}
use Rattle.planar_check.specs.Planar.{face_edges, face_of, next_in_face}
use Rattle.planar_check.proofs.Counts.{others_below}
use Rattle.planar_check.proofs.OppositePlaces.{AreFours, fours, after_at}
use Rattle.slide_strands.specs.declared.strand.Piece.{Piece}
use Rattle.slide_strands.specs.Strands.{ends, entered_at}
use Rattle.slide_laws.specs.Directed.{items_of}
use Rattle.slide_laws.specs.Slides.{place_in_face, band_start, band_ends, band_places}
use Rattle.slide_laws.proofs.DirectedItems.{sizes_of, ends_labels}
use Rattle.slide_band.specs.Faces.{other_found, others_found, next_slot, next_edges, face_list}
use Rattle.slide_band.specs.Sides.{sides_from}
use Rattle.slide_band.proofs.Found.{found_below}

-- ---- maps and searches over ranges
map_same : {A : Type 0} (f g : ℕ → A) (a n : ℕ) → ((p : ℕ) → a ≤ p → p < a + n → f p ≡ g p) → map f (range_with_len a n) ≡ map g (range_with_len a n)
map_same f g a zero h = refl
map_same f g a (suc n) h = ap₂ (λ x xs. x ∷ xs) (h a (omega arith) (omega arith)) (map_same f g (a + 1) n (λ p l k. h p (omega (arith, l)) (omega (arith, k))))

find_same : (s t : ℕ → Bool) (a n : ℕ) → ((p : ℕ) → a ≤ p → p < a + n → s p ≡ t p) → find s (range_with_len a n) ≡ find t (range_with_len a n)
find_same s t a zero h = refl
find_same s t a (suc n) h =
    ap₂ (λ (b : Bool) (o : Option ℕ). cond b (Some a) o) (h a (omega arith) (omega arith)) (find_same s t (a + 1) n (λ p l k. h p (omega (arith, l)) (omega (arith, k))))

-- ---- across an edge
passing_found : (test : ℕ → Bool) (ns : List ℕ) (d : ℕ) → unwrap_or (find test ns) d ≡ first_passing test ns d
passing_found test [] d = refl
passing_found test (n ∷ ns) d = by_test (test n) (passing_found test ns d)
  where
    by_test : (b : Bool) → unwrap_or (find test ns) d ≡ first_passing test ns d → unwrap_or (cond b (Some n) (find test ns)) d ≡ cond b n (first_passing test ns d)
    by_test true h = refl
    by_test false h = h

other_is : (ls : List ℕ) (p : ℕ) → other_found ls p ≡ other_place ls p
unfolding other_place
other_is ls p = passing_found (is_across ls p) (range_with_len 0 (length ls)) p

others_are : (ls : List ℕ) → others_found ls ≡ other_places ls
others_are ls = map_same (other_found ls) (other_place ls) 0 (length ls) (λ p l k. other_is ls p)

-- ---- faces
module _ (cs : List (List ℕ)) (four : AreFours cs) where
  abbrev ls : List ℕ
  ls = labels_by_place cs

  abbrev others : List ℕ
  others = other_places ls

  long : length others ≡ length ls
  long = length-map-range_with_len (other_place ls) 0 (length ls)

  edges_are : next_edges others ≡ face_edges (slots_after 0 cs) others
  edges_are = map_same (λ p. (p, next_slot (slice_index others p))) (λ p. (p, next_in_face (slots_after 0 cs) others p)) 0 (length others) (λ p l k.
      let q = slice_index others p in
      let within : q < length ls = (let b = others_below ls p 0 (omega (arith, k)) in omega (arith, b)) in
      ap (λ (n : ℕ). (p, n)) (sym (after_at 0 cs four q within ∙ (let e : 0 + next_slot q ≡ next_slot q = omega arith in e))))

  face_at : (p : ℕ) → p < length ls → slice_index (face_list ls) p ≡ face_of cs p
  unfolding face_of
  face_at p l =
      let names : ℕ → List ℕ = λ n. range_with_len 0 n in
      get_or-map-range_with_len (least_name (names (length ls)) (next_edges (others_found ls))) 0 (length ls) p p 0 l (let e : 0 + p ≡ p = omega arith in e)
      ∙ (ap (λ (os : List ℕ). least_name (names (length ls)) (next_edges os) p) (others_are ls)
      ∙ (ap (λ (es : List (ℕ × ℕ)). least_name (names (length ls)) es p) edges_are
      ∙ ap (λ (n : ℕ). least_name (names n) (face_edges (slots_after 0 cs) others) p) (sym long)))

  module _ (e f : ℕ) where
    abbrev found_face : ℕ → ℕ
    found_face = slice_index (face_list ls)

    place_same : (p : ℕ) → p < length ls → place_in_face ls found_face f p ≡ place_in_face ls (face_of cs) f p
    place_same p l = find_same (λ q. slice_index ls q == f && found_face q == found_face p) (λ q. slice_index ls q == f && face_of cs q == face_of cs p) 0 (length ls)
        (λ q k m. ap₂ (λ (x y : ℕ). slice_index ls q == f && x == y) (face_at q (omega (arith, m))) (face_at p l))

    start_same : band_start ls found_face e f ≡ band_start ls (face_of cs) e f
    start_same = find_same (λ p. slice_index ls p == e && is_some (place_in_face ls found_face f p)) (λ p. slice_index ls p == e && is_some (place_in_face ls (face_of cs) f p)) 0 (length ls)
        (λ p k m. ap (λ (o : Option ℕ). slice_index ls p == e && is_some o) (place_same p (omega (arith, m))))

    -- a place with the one that is found for it
    abbrev both : (ℕ → Option ℕ) → ℕ → Option (ℕ × ℕ)
    both place p = let made : ℕ → ℕ × ℕ = λ q. (p, q) in option_map made (place p)

    by_start : (o : Option ℕ) → band_start ls (face_of cs) e f ≡ o → option_and_then (both (place_in_face ls found_face f)) o ≡ option_and_then (both (place_in_face ls (face_of cs) f)) o
    by_start None h = refl
    by_start (Some p) h =
        let l = found_below (λ p. slice_index ls p == e && is_some (place_in_face ls (face_of cs) f p)) 0 (length ls) p h in
        let made : ℕ → ℕ × ℕ = λ q. (p, q) in
        ap (option_map made) (place_same p (omega (arith, l)))

    ends_same : band_ends ls found_face e f ≡ band_ends ls (face_of cs) e f
    ends_same =
        ap (option_and_then (both (place_in_face ls found_face f))) start_same
        ∙ by_start (band_start ls (face_of cs) e f) refl

-- THE DIRECTIONS AT THE ENDS OF THE BAND
pub sides_told : (ps : List Piece) (e f : ℕ) →
    sides_from (ends ps) (map (λ (end : ℕ × Bool). end.0) (ends ps)) (face_list (map (λ (end : ℕ × Bool). end.0) (ends ps))) e f
    ≡ option_map (λ (places : ℕ × ℕ). (entered_at ps places.0, entered_at ps places.1)) (band_places (crossings_of (items_of ps)) e f)
sides_told ps e f =
    let cs = crossings_of (items_of ps) in
    let sides : ℕ × ℕ → Bool × Bool = λ places. (entered_at ps places.0, entered_at ps places.1) in
    ap (λ (ls : List ℕ). sides_from (ends ps) ls (face_list ls) e f) (sym (ends_labels ps))
    ∙ ap (option_map sides) (ends_same cs (fours (items_of ps) (sizes_of ps)) e f)
