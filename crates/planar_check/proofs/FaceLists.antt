-- Faces by their least places: the list of these, as it is computed, and how many places are their own.
use Rattle.std.proofs.Common.{◌≡◌, ℕ, ◌<◌, ◌==◌, List, length, map, slice_index, count_by, sym, ap, ◌∙◌, arith, All, refl}
use Rattle.std.specs.List.{range_with_len}
use Rattle.std.proofs.lemmas.List.FromFn.{length-map-range_with_len}
use Rattle.graph_parts.specs.LeastNames.{least_name}
use Rattle.part_labels.proofs.Entries.{part_count-entries}
use Rattle.planar_check.specs.Places.{labels_by_place, slots_after, owners, other_place, other_places}
use Rattle.planar_check.specs.Planar.{next_in_face, face_edges, face_of, face_count}
use Rattle.planar_check.proofs.Counts.{edges_among}
use Rattle.planar_check.proofs.PlaceLists.{AreRead, others_long, after_long, after_in_range, others_in_range}

-- the least places, as they are computed from the lists
face_list : (cs : List (List ℕ)) (after others : List ℕ) → after ≡ slots_after 0 cs → others ≡ other_places (labels_by_place cs) →
    map (least_name (range_with_len 0 (length others)) (face_edges after others)) (range_with_len 0 (length others)) ≡ map (face_of cs) (range_with_len 0 (length (labels_by_place cs)))
unfolding face_of
face_list cs after others t o =
    let labels = labels_by_place cs in
    let long : length (other_places labels) ≡ length labels = length-map-range_with_len (other_place labels) 0 (length labels) in
    ap (λ (ts : List ℕ). map (least_name (range_with_len 0 (length others)) (face_edges ts others)) (range_with_len 0 (length others))) t
    ∙ (ap (λ (os : List ℕ). map (least_name (range_with_len 0 (length os)) (face_edges (slots_after 0 cs) os)) (range_with_len 0 (length os))) o
    ∙ ap (λ (n : ℕ). map (face_of cs) (range_with_len 0 n)) long)

pub faces_are : (cs : List (List ℕ)) (after others least : List ℕ) → after ≡ slots_after 0 cs → others ≡ other_places (labels_by_place cs) →
    least ≡ map (least_name (range_with_len 0 (length others)) (face_edges after others)) (range_with_len 0 (length others)) →
    least ≡ map (face_of cs) (range_with_len 0 (length (labels_by_place cs)))
faces_are cs after others least t o e = e ∙ face_list cs after others t o

pub faces_read : (cs : List (List ℕ)) (after others least : List ℕ) → after ≡ slots_after 0 cs → others ≡ other_places (labels_by_place cs) →
    least ≡ map (face_of cs) (range_with_len 0 (length (labels_by_place cs))) →
    least ≡ map (least_name (range_with_len 0 (length others)) (face_edges after others)) (range_with_len 0 (length others))
faces_read cs after others least t o e = e ∙ sym (face_list cs after others t o)

module _ (cs : List (List ℕ)) where
  abbrev others : List ℕ
  others = other_places (labels_by_place cs)

  abbrev after : List ℕ
  after = slots_after 0 cs

  are : AreRead cs after (owners 0 cs) others
  are = record { after_are = refl; owners_are = refl; others_are = refl }

  long : length others ≡ length (labels_by_place cs)
  long = others_long cs after (owners 0 cs) others are

  pub among : All (λ edge. (edge.0 < length others) × (edge.1 < length others)) (face_edges after others)
  among =
      edges_among (λ p. (p, next_in_face after others p)) (length others) (length others) (face_edges after others) refl (λ p l.
      let across : slice_index others p < length after = omega (arith, others_in_range cs after (owners 0 cs) others are p 0 l, after_long cs after (owners 0 cs) others are) in
      (l, after_in_range cs after (owners 0 cs) others are (slice_index others p) 0 across))

  -- HOW MANY FACES THERE ARE
  pub faces_counted : (read : List ℕ) (count : ℕ) → read ≡ map (face_of cs) (range_with_len 0 (length (labels_by_place cs))) →
      count ≡ count_by (λ x. slice_index read x == x) (range_with_len 0 (length read)) → count ≡ face_count cs
  unfolding face_of face_count
  faces_counted read count is e =
      let least = least_name (range_with_len 0 (length others)) (face_edges after others) in
      let same : read ≡ map least (range_with_len 0 (length others)) = is ∙ ap (λ (n : ℕ). map least (range_with_len 0 n)) (sym long) in
      let size : length read ≡ length others = ap length same ∙ length-map-range_with_len least 0 (length others) in
      e
      ∙ (ap (λ (n : ℕ). count_by (λ x. slice_index read x == x) (range_with_len 0 n)) size
      ∙ sym (part_count-entries (length others) (face_edges after others) read among same))
