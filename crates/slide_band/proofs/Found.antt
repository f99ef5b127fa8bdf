-- What a search through a range finds, and the places that are found across edges.
use Rattle.std.proofs.Common.{◌≡◌, ℕ, zero, suc, ◌+◌, ◌*◌, ◌%◌, ◌<◌, ◌≤◌, ◌==◌, ◌&&◌, Bool, true, false, cond, List, [], ◌∷◌, length, get_or, slice_index, Option, Some, None, All, unwrap_or, refl, sym, subst, arith}
use Rattle.std.specs.Prelude.{is_some}
use Rattle.std.specs.List.{find, range_with_len}
use Rattle.std.proofs.lemmas.List.FromFn.{length-map-range_with_len, get_or-map-range_with_len}
use Rattle.std.proofs.lemmas.List.Elements.{All-from_get_or}
use Rattle.slide_strands.specs.declared.strand.Piece.{Piece}
use Rattle.slide_strands.specs.declared.strand.Piece.TheVariants.{Crossed, Free}
use Rattle.slide_strands.specs.Strands.{ends}
use Rattle.slide_laws.specs.Slides.{place_in_face, band_start}
use Rattle.slide_band.specs.Faces.{is_other, other_found, others_found, next_slot, next_edges, face_list}
use Rattle.graph_parts.specs.LeastNames.{least_name}

later : (test : ℕ → Bool) (a n k : ℕ) → (find test (range_with_len (a + 1) n) ≡ Some k → k < a + 1 + n) → (b : Bool) → cond b (Some a) (find test (range_with_len (a + 1) n)) ≡ Some k → k < a + suc n
later test a n k ih true e = let same : a ≡ k = cc in omega (arith, same)
later test a n k ih false e = let l = ih e in omega (arith, l)

-- what is found lies in the range
pub found_below : (test : ℕ → Bool) (a n k : ℕ) → find test (range_with_len a n) ≡ Some k → k < a + n
found_below test a zero k h = absurd cc
found_below test a (suc n) k h = later test a n k (λ e. found_below test (a + 1) n k e) (test a) h

other_below : (labels : List ℕ) (p : ℕ) → p < length labels → other_found labels p < length labels
other_below labels p l = by_found (find (is_other labels p) (range_with_len 0 (length labels))) refl
  where
    by_found : (o : Option ℕ) → find (is_other labels p) (range_with_len 0 (length labels)) ≡ o → unwrap_or o p < length labels
    by_found None e = l
    by_found (Some q) e = let k = found_below (is_other labels p) 0 (length labels) q e in omega (arith, k)

pub others_long : (labels : List ℕ) → length (others_found labels) ≡ length labels
others_long labels = length-map-range_with_len (other_found labels) 0 (length labels)

pub other_at : (labels : List ℕ) (p : ℕ) → p < length labels → slice_index (others_found labels) p ≡ other_found labels p
other_at labels p l = get_or-map-range_with_len (other_found labels) 0 (length labels) p p 0 l (let e : 0 + p ≡ p = omega arith in e)

next_within : (n p : ℕ) → n % 4 ≡ 0 → p < n → next_slot p < n
next_within n p h l = omega (arith, h, l)

-- each edge is between places
pub edges_within : (labels : List ℕ) → length labels % 4 ≡ 0 → All (λ edge. (edge.0 < length labels) × (edge.1 < length labels)) (next_edges (others_found labels))
edges_within labels four =
    let others = others_found labels in
    let n = length labels in
    let edge_at : ℕ → ℕ × ℕ = λ p. (p, next_slot (slice_index others p)) in
    let long : length (next_edges others) ≡ length others = length-map-range_with_len edge_at 0 (length others) in
    let all = others_long labels in
    All-from_get_or (λ (edge : ℕ × ℕ). (edge.0 < n) × (edge.1 < n)) (next_edges others) (0, 0) (λ i l.
    let within : i < n = omega (arith, l, long, all) in
    let at : get_or (next_edges others) i (0, 0) ≡ edge_at i = get_or-map-range_with_len edge_at 0 (length others) i i (0, 0) (omega (arith, within, all)) (let e : 0 + i ≡ i = omega arith in e) in
    let across : slice_index others i < n = subst (λ (q : ℕ). q < n) (sym (other_at labels i within)) (other_below labels i within) in
    subst (λ (edge : ℕ × ℕ). (edge.0 < n) × (edge.1 < n)) (sym at) (within, next_within n (slice_index others i) four across))

-- there are four places to a crossing
pub ends_fours : (ps : List Piece) → length (ends ps) % 4 ≡ 0
ends_fours [] = refl
ends_fours (Crossed u o ∷ ps) = omega (arith, ends_fours ps)
ends_fours (Free label ∷ ps) = ends_fours ps

pub ends_few : (ps : List Piece) → length (ends ps) ≤ 4 * length ps
ends_few [] = omega arith
ends_few (Crossed u o ∷ ps) = omega (arith, ends_few ps)
ends_few (Free label ∷ ps) = omega (arith, ends_few ps)

-- ---- the ends of the band
pub start_below : (labels : List ℕ) (face : ℕ → ℕ) (e f p : ℕ) → band_start labels face e f ≡ Some p → p < length labels
start_below labels face e f p h = let l = found_below (λ p. slice_index labels p == e && is_some (place_in_face labels face f p)) 0 (length labels) p h in omega (arith, l)

pub end_below : (labels : List ℕ) (face : ℕ → ℕ) (f p q : ℕ) → place_in_face labels face f p ≡ Some q → q < length labels
end_below labels face f p q h = let l = found_below (λ q. slice_index labels q == f && face q == face p) 0 (length labels) q h in omega (arith, l)

pub faces_long : (labels : List ℕ) → length (face_list labels) ≡ length labels
faces_long labels = length-map-range_with_len (λ p. least_name (range_with_len 0 (length labels)) (next_edges (others_found labels)) p) 0 (length labels)
