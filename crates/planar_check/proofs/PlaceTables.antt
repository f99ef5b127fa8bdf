-- The tables of a diagram's places, as they are read: they have an entry for each place, which is what the definition says, and
-- places that they tell are places.
use Rattle.std.proofs.Common.{◌≡◌, ℕ, ◌+◌, ◌<◌, ◌==◌, List, length, get_or, Some, ap, ◌∙◌, arith}
use Rattle.std.specs.List.{range_with_len}
use Rattle.std.proofs.lemmas.List.FromFn.{length-map-range_with_len, get_or-map-range_with_len}
use Rattle.std.proofs.lemmas.List.Quantifiers.{position-Some}
use Rattle.graph_parts.proofs.LeastLabels.{least_name-label, AreLeast-labels}
use Rattle.graph_parts.proofs.Numbered.{is_member-numbered, AreAmong-numbered}
use Rattle.planar_check.specs.declared.placed.Places.{Places}
use Rattle.planar_check.specs.Places.{labels_by_place, slots_after, first_place, other_place, other_places}
use Rattle.planar_check.specs.Planar.{face_edges, face_of}
use Rattle.planar_check.specs.Tables.{ArePlaces}
use Rattle.planar_check.proofs.Counts.{others_below}
use Rattle.planar_check.proofs.FaceLists.{among}

module _ (cs : List (List ℕ)) where
  abbrev ls : List ℕ
  ls = labels_by_place cs

  long : length (other_places ls) ≡ length ls
  long = length-map-range_with_len (other_place ls) 0 (length ls)

  pub other_within : (p : ℕ) → p < length ls → other_place ls p < length ls
  other_within p l =
      let below = others_below ls p 0 (omega (arith, l, long)) in
      let is = get_or-map-range_with_len (other_place ls) 0 (length ls) p p 0 l (let z : 0 + p ≡ p = omega arith in z) in
      omega (arith, below, is)

  pub face_within : (p : ℕ) → p < length ls → face_of cs p < length ls
  unfolding face_of
  face_within p l =
      let n = length (other_places ls) in
      let es = face_edges (slots_after 0 cs) (other_places ls) in
      let least = AreLeast-labels es in
      let below = least.below p in
      let is = least_name-label (range_with_len 0 n) es (AreAmong-numbered n es (among cs)) p (is_member-numbered n p (omega (arith, l, long))) in
      omega (arith, below, is, l)

  pub first_within : (label q : ℕ) → first_place ls label ≡ Some q → q < length ls
  first_within label q e = (position-Some (λ other. other == label) ls q 0 e).0

  module _ (places : Places) (are : ArePlaces cs places) where
    pub others_all : length places.others.items ≡ length ls
    others_all = ap length are.others_are ∙ long

    pub faces_all : length places.faces.items ≡ length ls
    faces_all = ap length are.faces_are ∙ length-map-range_with_len (face_of cs) 0 (length ls)

    pub other_at : (p d : ℕ) → p < length ls → get_or places.others.items p d ≡ other_place ls p
    other_at p d l = ap (λ (xs : List ℕ). get_or xs p d) are.others_are ∙ get_or-map-range_with_len (other_place ls) 0 (length ls) p p d l (let z : 0 + p ≡ p = omega arith in z)

    pub face_at : (p d : ℕ) → p < length ls → get_or places.faces.items p d ≡ face_of cs p
    face_at p d l = ap (λ (xs : List ℕ). get_or xs p d) are.faces_are ∙ get_or-map-range_with_len (face_of cs) 0 (length ls) p p d l (let z : 0 + p ≡ p = omega arith in z)
