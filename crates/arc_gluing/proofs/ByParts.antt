-- Pairings by labels are pairings by walks and by parts, since names have one label where a walk joins them.
use Rattle.std.proofs.Common.{◌≡◌, ℕ, Bool, true, not, ◌&&◌, ◌==◌, List, sym, ap}
use Rattle.std.specs.List.{AllPass, position_or_len}
use Rattle.std.specs.Set.{is_member}
use Rattle.std.proofs.lemmas.Bool.{eq-eqb, eqb-true}
use Rattle.graph_parts.specs.Ends.{AreAmong}
use Rattle.graph_parts.specs.Labels.{label_of}
use Rattle.graph_parts.specs.Parts.{part}
use Rattle.graph_parts.proofs.Renaming.{map_agree_on}
use Rattle.graph_parts.proofs.Rounds.{part-Joined}
use Rattle.graph_parts.proofs.Walks.{Joined-from_labels, labels-from_Joined}
use Rattle.arc_gluing.specs.Mates.{IsPairedLabels, label_partners}
use Rattle.arc_gluing.specs.Pairings.{IsPairedBy, partners_of}
use Rattle.list_lemmas.proofs.Bools.{same_bool}

pub IsPairedBy-from_labels : (edges : List (ℕ × ℕ)) (names partner : List ℕ) → IsPairedLabels edges names partner → IsPairedBy edges names partner
IsPairedBy-from_labels edges names partner h = record {
  whole = h.whole;
  is_pairing = h.is_pairing;
  joined = λ i l. Joined-from_labels edges _ _ (sym (h.joined i l));
  only = λ i j p q walk d. h.only i j p q (labels-from_Joined edges walk) d;
}

pub IsPairedLabels-from_walks : (edges : List (ℕ × ℕ)) (names partner : List ℕ) → IsPairedBy edges names partner → IsPairedLabels edges names partner
IsPairedLabels-from_walks edges names partner h = record {
  whole = h.whole;
  is_pairing = h.is_pairing;
  joined = λ i l. sym (labels-from_Joined edges (h.joined i l));
  only = λ i j p q e d. h.only i j p q (Joined-from_labels edges _ _ e) d;
}

module _ (names : List ℕ) (edges : List (ℕ × ℕ)) (among : AreAmong names edges) where
  in_part : (x y : ℕ) → is_member ◌==◌ names x ≡ true → is_member ◌==◌ (part names edges x) y ≡ (label_of edges y == label_of edges x)
  in_part x y there =
      same_bool (is_member ◌==◌ (part names edges x) y) (label_of edges y == label_of edges x)
      (λ m. eq-eqb (label_of edges y) (label_of edges x) (sym (labels-from_Joined edges ((part-Joined names edges x y there among).0 m))))
      (λ t. (part-Joined names edges x y there among).1 (Joined-from_labels edges x y (sym (eqb-true (label_of edges y) (label_of edges x) t))))

  -- THE PARTNERS BY PARTS
  pub partners_of-labels : (open_names : List ℕ) → AllPass (is_member ◌==◌ names) open_names → partners_of names edges open_names ≡ label_partners edges open_names
  partners_of-labels open_names has =
      map_agree_on (is_member ◌==◌ names)
      (λ x. position_or_len (λ y. is_member ◌==◌ (part names edges x) y && not (y == x)) open_names)
      (λ x. position_or_len (λ y. (label_of edges y == label_of edges x) && not (y == x)) open_names)
      open_names has
      (λ x there.
      let by_part : ℕ → Bool = λ y. is_member ◌==◌ (part names edges x) y && not (y == x) in
      let by_label : ℕ → Bool = λ y. (label_of edges y == label_of edges x) && not (y == x) in
      let same : by_part ≡ by_label = λ i y. ap (λ b. b && not (y == x)) (in_part x y there) i in
      ap (λ test. position_or_len test open_names) same)
