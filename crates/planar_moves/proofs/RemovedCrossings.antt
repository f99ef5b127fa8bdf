-- Crossings go, and what is left of their system, after cuts, is that of the result: if F = m + 2k there, the result is planar.
use Rattle.std.proofs.Common.{◌≡◌, ◌<◌, ℕ, ◌+◌, ◌*◌, ◌/◌, ◌%◌, ◌==◌, Bool, true, false, not, List, filter, length, slice_index, sym, ap, ◌∙◌, arith}
use Rattle.std.specs.List.{range_with_len}
use Rattle.std.specs.Set.{is_member}
use Rattle.graph_parts.proofs.Numbered.{numbered-member as in_range, is_member-numbered as range_has}
use Rattle.graph_parts.specs.Parts.{part_count}
use Rattle.pd_reader.specs.declared.item.Item.{Item}
use Rattle.planar_check.specs.Components.{rank}
use Rattle.planar_check.specs.Places.{item_slots, place_labels, other_place}
use Rattle.planar_check.specs.Planar.{IsPlanar}
use Rattle.diagram_moves.specs.Laws.{IsPairedDiagram}
use Rattle.diagram_moves.specs.Rewriting.{crossing_labels}
use Rattle.diagram_moves.proofs.PlaceLemmas.{place_labels_are, index_has}
use Rattle.rotation_parts.specs.Rotations.{cycle_count, pair_graph, IsPairing, IsPairingOf, IsFlatWith}
use Rattle.rotation_parts.proofs.OtherNames.{renamed_counts}
use Rattle.rotation_parts.proofs.PairForms.{filter_member, member_filter}
use Rattle.rotation_parts.proofs.PassedLists.{with_vertices, AreVertices, HaveOneMark, Passed, passed_all, reordered_flat}
use Rattle.planar_forms.specs.PlaceSystems.{next_slot}
use Rattle.planar_forms.proofs.PlacePairs.{other_is, label_twice, paired_places, long_is}
use Rattle.planar_forms.proofs.PlanarForms.{planar_form}
use Rattle.planar_moves.proofs.KeptPlaces.{kept_numbers, removed_from, crossing_count, count_labels, kept_at, kept_has, rank_at, kept_label, kept_long, place_from}

-- the crossing of a place stays
abbrev pub stays_at : List ℕ → ℕ → Bool
stays_at gone p = not (is_member ◌==◌ gone (p / 4 + 1))

-- the places of the crossings that stay
abbrev pub kept_places : List Item → List ℕ → List ℕ
kept_places items gone = filter (stays_at gone) (range_with_len 0 (length (place_labels items)))

pub in_kept : (items : List Item) (gone : List ℕ) (p : ℕ) → p < length (place_labels items) → is_member ◌==◌ gone (p / 4 + 1) ≡ false → is_member ◌==◌ (kept_places items gone) p ≡ true
in_kept items gone p l out = member_filter (stays_at gone) (range_with_len 0 (length (place_labels items))) p (range_has (length (place_labels items)) p l) (ap not out)

pub kept_is : (items : List Item) (gone : List ℕ) (p : ℕ) → is_member ◌==◌ (kept_places items gone) p ≡ true → (p < length (place_labels items)) × (is_member ◌==◌ gone (p / 4 + 1) ≡ false)
kept_is items gone p m =
    let r = filter_member (stays_at gone) (range_with_len 0 (length (place_labels items))) p m in
    let t = r.1 in
    (in_range (length (place_labels items)) p r.0, grind (arith, t))

-- the crossings gone, how the places of theirs are cut into vertices, and the marks of places
pub record Removal (items after : List Item) (gone : List ℕ) (pairs : List (ℕ × ℕ)) (turn label mark : ℕ → ℕ) (m : ℕ) : Type 0 where
  pub labels : place_labels after ≡ crossing_labels (removed_from gone label 1 items)
  pub count : m ≡ length (kept_numbers gone 1 items)
  pub vertices : AreVertices pairs (kept_places items gone) turn
  pub covered : (x : ℕ) → is_member ◌==◌ (range_with_len 0 (length (place_labels items))) x ≡ is_member ◌==◌ (with_vertices pairs (kept_places items gone)) x
  pub turn_in : (x : ℕ) → is_member ◌==◌ (range_with_len 0 (length (place_labels items))) x ≡ true → is_member ◌==◌ (range_with_len 0 (length (place_labels items))) (turn x) ≡ true
  pub turns : (x : ℕ) → is_member ◌==◌ (kept_places items gone) x ≡ true → turn x ≡ next_slot x
  pub one_mark : HaveOneMark mark pairs
  pub marks : (x : ℕ) → x < length (place_labels items) → mark (other_place (place_labels items) x) ≡ mark x
  pub kept_marks : (x : ℕ) → is_member ◌==◌ (kept_places items gone) x ≡ true → mark x ≡ label (slice_index (place_labels items) x)
  pub flat : IsFlatWith m (range_with_len 0 (length (place_labels items))) turn (other_place (place_labels items))

-- the places that are left, with the pairing drawn on them, are those of the result
module _ (items after : List Item) (gone : List ℕ) (turn label mark drawn : ℕ → ℕ) (pd : IsPairedDiagram items) (pd2 : IsPairedDiagram after)
    (labels : place_labels after ≡ crossing_labels (removed_from gone label 1 items))
    (turns : (x : ℕ) → is_member ◌==◌ (kept_places items gone) x ≡ true → turn x ≡ next_slot x)
    (pairing : IsPairingOf (kept_places items gone) drawn)
    (marks : (x : ℕ) → is_member ◌==◌ (kept_places items gone) x ≡ true → mark (drawn x) ≡ mark x)
    (kept_marks : (x : ℕ) → is_member ◌==◌ (kept_places items gone) x ≡ true → mark x ≡ label (slice_index (place_labels items) x)) where
  abbrev ls : List ℕ
  ls = place_labels items

  abbrev n : ℕ
  n = length ls

  abbrev rest : List ℕ
  rest = kept_places items gone

  abbrev numbers : List ℕ
  numbers = kept_numbers gone 1 items

  abbrev new : List ℕ
  new = place_labels after

  pub new_long : length new ≡ 4 * length numbers
  new_long = ap length labels ∙ kept_long gone label 1 items pd.sizes

  old_long : n ≡ 4 * crossing_count items
  old_long = ap length (place_labels_are items) ∙ count_labels items pd.sizes

  -- the place after, and the one before
  abbrev new_of : ℕ → ℕ
  new_of p = 4 * rank numbers (p / 4 + 1) + p % 4

  abbrev old_of : ℕ → ℕ
  old_of u = place_from numbers 1 u

  ranked : (p : ℕ) → is_member ◌==◌ rest p ≡ true → (rank numbers (p / 4 + 1) < length numbers) × (slice_index numbers (rank numbers (p / 4 + 1)) ≡ p / 4 + 1)
  ranked p k =
      let r = kept_is items gone p k in
      let l = r.0 in
      index_has numbers (p / 4 + 1) (kept_has gone 1 items (p / 4 + 1) (omega arith) (omega (arith, l, old_long)) r.1)

  new_low : (p : ℕ) → is_member ◌==◌ rest p ≡ true → new_of p < length new
  new_low p k = let r = (ranked p k).0 in omega (arith, r, new_long)

  old_in : (u : ℕ) → u < length new → is_member ◌==◌ rest (old_of u) ≡ true
  old_in u l =
      let c = slice_index numbers (u / 4) in
      let at = kept_at gone 1 items (u / 4) (omega (arith, l, new_long)) in
      let low = at.low in
      let high = at.high in
      let back : old_of u / 4 + 1 ≡ c = omega (arith, low) in
      in_kept items gone (old_of u) (omega (arith, low, high, old_long)) (ap (is_member ◌==◌ gone) back ∙ at.stays)

  new_again : (u : ℕ) → u < length new → new_of (old_of u) ≡ u
  new_again u l =
      let c = slice_index numbers (u / 4) in
      let below : u / 4 < length numbers = omega (arith, l, new_long) in
      let at = kept_at gone 1 items (u / 4) below in
      let low = at.low in
      let back : old_of u / 4 + 1 ≡ c = omega (arith, low) in
      let r = ap (rank numbers) back ∙ rank_at gone 1 items (u / 4) below in
      let s : old_of u % 4 ≡ u % 4 = omega arith in
      omega (arith, r, s)

  old_again : (p : ℕ) → is_member ◌==◌ rest p ≡ true → old_of (new_of p) ≡ p
  old_again p k =
      let r = (ranked p k).1 in
      let i = rank numbers (p / 4 + 1) in
      let d : new_of p / 4 ≡ i = omega arith in
      let s = ap (slice_index numbers) d ∙ r in
      let t : new_of p % 4 ≡ p % 4 = omega arith in
      omega (arith, s, t)

  new_label : (p : ℕ) → is_member ◌==◌ rest p ≡ true → slice_index new (new_of p) ≡ mark p
  new_label p k =
      let l = new_low p k in
      ap (λ ns. slice_index ns (new_of p)) labels ∙ (kept_label gone label 1 items (new_of p) pd.sizes (omega (arith, l, new_long))
      ∙ (ap (λ q. label (slice_index (crossing_labels items) q)) (old_again p k) ∙ (ap (λ ns. label (slice_index ns p)) (sym (place_labels_are items)) ∙ sym (kept_marks p k))))

  new_other : (p : ℕ) → is_member ◌==◌ rest p ≡ true → other_place new (new_of p) ≡ new_of (drawn p)
  new_other p k =
      let q = drawn p in
      let kq = pairing.inside p k in
      let lp = new_low p k in
      other_is new (new_of p) (new_of q) lp (new_low q kq)
      (λ e. pairing.apart p k (sym (sym (old_again p k) ∙ (ap old_of e ∙ old_again q kq))))
      (new_label p k ∙ (sym (marks p k) ∙ sym (new_label q kq)))
      (label_twice after pd2 (new_of p) lp)

  next_same : (p : ℕ) → next_slot (new_of p) ≡ new_of (next_slot p)
  next_same p =
      let e : next_slot p / 4 + 1 ≡ p / 4 + 1 = omega arith in
      let r = ap (rank numbers) e in
      let s : next_slot p % 4 ≡ (p % 4 + 1) % 4 = omega arith in
      let i = rank numbers (p / 4 + 1) in
      let t : next_slot (4 * i + p % 4) ≡ 4 * i + (p % 4 + 1) % 4 = omega arith in
      omega (arith, r, s, t)

  turn_kept : (x : ℕ) → is_member ◌==◌ rest x ≡ true → is_member ◌==◌ rest (turn x) ≡ true
  turn_kept x k =
      let r = kept_is items gone x k in
      let l = r.0 in
      let e : next_slot x / 4 + 1 ≡ x / 4 + 1 = omega arith in
      ap (is_member ◌==◌ rest) (turns x k) ∙ in_kept items gone (next_slot x) (omega (arith, l, old_long)) (ap (is_member ◌==◌ gone) e ∙ r.1)

  pub result_counts : (cycle_count rest (λ x. turn (drawn x)) ≡ cycle_count (range_with_len 0 (length new)) (λ x. next_slot (other_place new x)))
      × (part_count rest (pair_graph rest turn drawn) ≡ part_count (range_with_len 0 (length new)) (pair_graph (range_with_len 0 (length new)) next_slot (other_place new)))
  result_counts =
      renamed_counts rest (range_with_len 0 (length new)) turn drawn next_slot (other_place new) new_of old_of record {
        onto_others = λ x k. range_has (length new) (new_of x) (new_low x k);
        into_names = λ u k. old_in u (in_range (length new) u k);
        new_again = λ u k. new_again u (in_range (length new) u k);
        old_again = old_again;
        turn_in = turn_kept;
        other_in = pairing.inside;
        turns = λ x k. next_same x ∙ ap new_of (sym (turns x k));
        pairs = new_other;
      }

module _ (items after : List Item) (gone : List ℕ) (pairs : List (ℕ × ℕ)) (turn label mark : ℕ → ℕ) (m : ℕ) (pd : IsPairedDiagram items) (pd2 : IsPairedDiagram after) (is : Removal items after gone pairs turn label mark m) where
  abbrev places : List ℕ
  places = place_labels items

  abbrev names : List ℕ
  names = range_with_len 0 (length places)

  abbrev left_places : List ℕ
  left_places = kept_places items gone

  all_paired : IsPairing (length places) (other_place places)
  all_paired = paired_places items pd

  other_in : (x : ℕ) → is_member ◌==◌ names x ≡ true → is_member ◌==◌ names (other_place places x) ≡ true
  other_in x k = range_has (length places) (other_place places x) (all_paired.low x (in_range (length places) x k))

  all_flat : IsFlatWith m (with_vertices pairs left_places) turn (other_place places)
  all_flat = reordered_flat m names (with_vertices pairs left_places) turn (other_place places) is.covered is.turn_in other_in is.flat

  in_names : (x : ℕ) → is_member ◌==◌ (with_vertices pairs left_places) x ≡ true → x < length places
  in_names x k = in_range (length places) x (is.covered x ∙ k)

  passed_on : Passed m left_places turn mark
  passed_on = passed_all m pairs left_places turn (other_place places) mark is.vertices is.one_mark
      record {
        inside = λ x k. sym (is.covered (other_place places x)) ∙ other_in x (is.covered x ∙ k);
        apart = λ x k. all_paired.apart x (in_names x k);
        twice = λ x k. all_paired.twice x (in_names x k);
      }
      (λ x k. is.marks x (in_names x k)) all_flat

  -- THE RESULT IS PLANAR
  pub removed_planar : IsPlanar item_slots after
  removed_planar =
      let r = result_counts items after gone turn label mark passed_on.drawn pd pd2 is.labels is.turns passed_on.pairing passed_on.marks is.kept_marks in
      let long = new_long items after gone turn label mark passed_on.drawn pd pd2 is.labels is.turns passed_on.pairing passed_on.marks is.kept_marks in
      let faces = r.0 in
      let pieces = r.1 in
      let flat = passed_on.flat in
      let four = long_is after pd2 in
      let count = is.count in
      (planar_form after pd2).1 (omega (arith, faces, pieces, flat, long, four, count))
