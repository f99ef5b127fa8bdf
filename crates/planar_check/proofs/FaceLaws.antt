-- Faces are told by their least places: these are the least names of the parts that the rule joins; and a label's two places are
-- all that can lie in a face.
use Rattle.std.proofs.Common.{◌≡◌, ◌↔◌, ◌⊎◌, ℕ, ◌<◌, ◌≤◌, ◌==◌, List, length, slice_index, Some, inl, inr, sym, ap, ◌∙◌, arith, ⊎_elim}
use Rattle.std.specs.List.{range_with_len}
use Rattle.std.proofs.lemmas.Bool.{eqb-true}
use Rattle.std.proofs.lemmas.List.FromFn.{length-map-range_with_len}
use Rattle.std.proofs.lemmas.List.Quantifiers.{position-Some}
use Rattle.graph_parts.specs.Ends.{AreAmong}
use Rattle.graph_parts.specs.Walks.{Joined}
use Rattle.graph_parts.proofs.LeastLabels.{AreLeast-labels, least_name-label, least_name-Joined}
use Rattle.graph_parts.proofs.Numbered.{is_member-numbered, AreAmong-numbered}
use Rattle.pd_reader.specs.declared.item.Item.{Item}
use Rattle.pd_reader.specs.Diagrams.{IsDiagram}
use Rattle.planar_check.specs.Places.{crossings_of, place_labels, slots_after, first_place, other_place, other_places}
use Rattle.planar_check.specs.Planar.{face_edges, face_of}
use Rattle.planar_check.specs.Laws.{HasPlaceOf, FacesTold}
use Rattle.planar_check.proofs.FaceLists.{among}
use Rattle.planar_check.proofs.OppositePlaces.{places_twice, other_label, same_label}
use Rattle.planar_check.proofs.PlaceTables.{other_within}

module _ (xs : List Item) (diagram : IsDiagram xs) where
  abbrev cs : List (List ℕ)
  cs = crossings_of xs

  abbrev ls : List ℕ
  ls = place_labels xs

  abbrev n : ℕ
  n = length (other_places ls)

  abbrev es : List (ℕ × ℕ)
  es = face_edges (slots_after 0 cs) (other_places ls)

  long : n ≡ length ls
  long = length-map-range_with_len (other_place ls) 0 (length ls)

  ends : AreAmong (range_with_len 0 n) es
  ends = AreAmong-numbered n es (among cs)

  least : (p : ℕ) → p < length ls → face_of cs p ≤ p
  unfolding face_of
  least p l =
      let below = (AreLeast-labels es).below p in
      let is = least_name-label (range_with_len 0 n) es ends p (is_member-numbered n p (omega (arith, l, long))) in
      omega (arith, below, is)

  joined : (p q : ℕ) → p < length ls → q < length ls → (face_of cs p ≡ face_of cs q) ↔ Joined es p q
  unfolding face_of
  joined p q l m = least_name-Joined (range_with_len 0 n) es ends p q (is_member-numbered n p (omega (arith, l, long))) (is_member-numbered n q (omega (arith, m, long)))

  labels : (p label first : ℕ) → first_place ls label ≡ Some first →
      HasPlaceOf xs p label ↔ ((face_of cs first ≡ face_of cs p) ⊎ (face_of cs (other_place ls first) ≡ face_of cs p))
  labels p label first e =
      let found = position-Some (λ x. x == label) ls first 0 e in
      let within = found.0 in
      let stands = eqb-true (slice_index ls first) label found.1 in (
        (λ h. ⊎_elim
            (λ s. inl (ap (face_of cs) (sym s) ∙ h.faces))
            (λ s. inr (ap (face_of cs) (sym s) ∙ h.faces))
            (same_label xs diagram first h.place within h.within (h.stands ∙ sym stands))),
        (λ t. ⊎_elim
            (λ s. record { place = first; within = within; stands = stands; faces = s })
            (λ s. record {
              place = other_place ls first;
              within = other_within cs first within;
              stands = other_label ls first within (places_twice xs diagram first within) ∙ stands;
              faces = s;
            })
            t),
      )

-- FACES ARE TOLD BY THEIR LEAST PLACES
pub faces_told : FacesTold
faces_told xs diagram = record { least = least xs diagram; joined = joined xs diagram; labels = labels xs diagram }
