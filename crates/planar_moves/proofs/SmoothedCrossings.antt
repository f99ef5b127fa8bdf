-- A crossing that goes is cut in two: from slot k on, the slots k + 1 and k + 2 stay together, and k + 3 and k.
use Rattle.std.proofs.Common.{◌≡◌, ◌≢◌, ◌≤◌, ◌<◌, ℕ, ◌+◌, ◌-◌, ◌*◌, ◌/◌, ◌%◌, ◌==◌, true, false, List, [], ◌∷◌, length, slice_index, Some, refl, ap, ◌∙◌, arith, ⊎_elim}
use Rattle.std.specs.List.{range_with_len}
use Rattle.std.specs.Set.{is_member}
use Rattle.std.proofs.lemmas.Bool.{eq-eqb, eqb-true, cases_Bool, or_cases, or_left, or_right}
use Rattle.std.proofs.lemmas.Bool.Decides.{nat_tests}
use Rattle.graph_parts.proofs.Numbered.{numbered-member as in_range, is_member-numbered as range_has}
use Rattle.graph_parts.specs.Walks.{Joined, on}
use Rattle.pd_reader.specs.declared.item.Item.{Item}
use Rattle.planar_check.specs.Places.{item_slots, place_labels, other_place}
use Rattle.planar_check.specs.Planar.{IsPlanar}
use Rattle.diagram_moves.specs.Laws.{IsPairedDiagram}
use Rattle.diagram_moves.specs.Rewriting.{crossing_at, crossing_labels}
use Rattle.diagram_moves.proofs.PlaceLemmas.{place_labels_are}
use Rattle.move_results.proofs.FaceSteps.{number_from}
use Rattle.rotation_parts.specs.Rotations.{exchanged, steps, cycle_count, IsPairing}
use Rattle.rotation_parts.proofs.PairForms.{pair_form}
use Rattle.rotation_parts.proofs.PassedLists.{with_vertices, AreVertices, HaveOneMark, IsCut, cut_form}
use Rattle.rotation_parts.proofs.Steps.{equal_joined, step_along, bool_from_iff}
use Rattle.planar_forms.specs.PlaceSystems.{next_slot, slot_before}
use Rattle.planar_forms.proofs.PlacePairs.{paired_places, long_is}
use Rattle.planar_forms.proofs.PlaceCounts.{turns, are_counted, flat_diagram}
use Rattle.planar_moves.proofs.KeptPlaces.{kept_numbers, removed_from, crossing_count, count_labels, all_kept, one_less, last_number}
use Rattle.planar_moves.proofs.RemovedCrossings.{kept_places, in_kept, kept_is, removed_planar}

-- the place of slot k of crossing c
abbrev pub corner_place : ℕ → ℕ → ℕ
corner_place c k = 4 * (c - 1) + k % 4

-- the turn that is cut there
abbrev pub cut_at : (ℕ → ℕ) → ℕ → ℕ → ℕ → ℕ
cut_at turn c k x = turn (exchanged (corner_place c k) (corner_place c (k + 2)) x)

-- the two vertices that are left of the crossing
abbrev pub halves : ℕ → ℕ → List (ℕ × ℕ) → List (ℕ × ℕ)
halves c k more = (corner_place c (k + 1), corner_place c (k + 2)) ∷ (corner_place c (k + 3), corner_place c k) ∷ more

-- ---- turning before the cut, from a slot of the crossing
module _ (turn : ℕ → ℕ) (c k : ℕ) (low : 1 ≤ c) (as_next : (i : ℕ) → turn (corner_place c i) ≡ corner_place c (i + 1)) where
  abbrev P : ℕ → ℕ
  P i = corner_place c (k + i)

  at_first : cut_at turn c k (corner_place c k) ≡ corner_place c (k + 3)
  at_first = ap turn (let t = eq-eqb (corner_place c k) (corner_place c k) refl in let u : exchanged (corner_place c k) (corner_place c (k + 2)) (corner_place c k) ≡ corner_place c (k + 2) = grind (arith, t) in u) ∙ (as_next (k + 2) ∙ (let e : corner_place c (k + 2 + 1) ≡ corner_place c (k + 3) = omega arith in e))

  at_third : cut_at turn c k (corner_place c (k + 2)) ≡ corner_place c (k + 1)
  at_third =
      let n : corner_place c (k + 2) ≢ corner_place c k = omega arith in
      ap turn (let t = eq-eqb (corner_place c (k + 2)) (corner_place c (k + 2)) refl in let u : exchanged (corner_place c k) (corner_place c (k + 2)) (corner_place c (k + 2)) ≡ corner_place c k = grind (arith, nat_tests, t, n) in u) ∙ as_next k

  kept_turn : (x : ℕ) → x ≢ corner_place c k → x ≢ corner_place c (k + 2) → cut_at turn c k x ≡ turn x
  kept_turn x a b = ap turn (grind (arith, nat_tests, a, b))

  at_second : cut_at turn c k (corner_place c (k + 1)) ≡ corner_place c (k + 2)
  at_second = kept_turn (corner_place c (k + 1)) (omega arith) (omega arith) ∙ (as_next (k + 1) ∙ (let e : corner_place c (k + 1 + 1) ≡ corner_place c (k + 2) = omega arith in e))

  at_fourth : cut_at turn c k (corner_place c (k + 3)) ≡ corner_place c k
  at_fourth = kept_turn (corner_place c (k + 3)) (omega arith) (omega arith) ∙ (as_next (k + 3) ∙ (let e : corner_place c (k + 3 + 1) ≡ corner_place c k = omega arith in e))

-- a name that is not at the head
pub not_head : (z x : ℕ) (rest : List ℕ) → x ≢ z → is_member ◌==◌ rest x ≡ false → is_member ◌==◌ (z ∷ rest) x ≡ false
not_head z x rest n out = grind (arith, nat_tests, n, out)

pub here_is : (z x : ℕ) (rest : List ℕ) → x ≡ z → is_member ◌==◌ (z ∷ rest) x ≡ true
here_is z x rest e = or_left (x == z) (is_member ◌==◌ rest x) (eq-eqb x z e)

pub later_is : (z x : ℕ) (rest : List ℕ) → is_member ◌==◌ rest x ≡ true → is_member ◌==◌ (z ∷ rest) x ≡ true
later_is z x rest m = or_right (x == z) (is_member ◌==◌ rest x) m

-- a place of the crossing is one of its four corners
four_corners : (c k x : ℕ) (rest : List ℕ) → 1 ≤ c → x / 4 + 1 ≡ c → is_member ◌==◌ (with_vertices (halves c k []) rest) x ≡ true
four_corners c k x rest low e =
    let p0 = corner_place c k in let p1 = corner_place c (k + 1) in let p2 = corner_place c (k + 2) in let p3 = corner_place c (k + 3) in
    ⊎_elim (λ t. here_is p1 x (p2 ∷ p3 ∷ p0 ∷ rest) (eqb-true x p1 t)) (λ n1. later_is p1 x (p2 ∷ p3 ∷ p0 ∷ rest)
    (⊎_elim (λ t. here_is p2 x (p3 ∷ p0 ∷ rest) (eqb-true x p2 t)) (λ n2. later_is p2 x (p3 ∷ p0 ∷ rest)
    (⊎_elim (λ t. here_is p3 x (p0 ∷ rest) (eqb-true x p3 t)) (λ n3. later_is p3 x (p0 ∷ rest)
    (here_is p0 x rest (let a : x ≢ p1 = (λ w. (let t = eq-eqb x p1 w in grind (arith, t, n1))) in let b : x ≢ p2 = (λ w. (let t = eq-eqb x p2 w in grind (arith, t, n2))) in let d : x ≢ p3 = (λ w. (let t = eq-eqb x p3 w in grind (arith, t, n3))) in omega (arith, low, e, a, b, d))))
    (cases_Bool (x == p3))))
    (cases_Bool (x == p2))))
    (cases_Bool (x == p1))

-- the other names
other_corners : (c k x : ℕ) (rest : List ℕ) → is_member ◌==◌ rest x ≡ true → is_member ◌==◌ (with_vertices (halves c k []) rest) x ≡ true
other_corners c k x rest m =
    let p0 = corner_place c k in let p1 = corner_place c (k + 1) in let p2 = corner_place c (k + 2) in let p3 = corner_place c (k + 3) in
    later_is p1 x (p2 ∷ p3 ∷ p0 ∷ rest) (later_is p2 x (p3 ∷ p0 ∷ rest) (later_is p3 x (p0 ∷ rest) (later_is p0 x rest m)))

-- and back
corners_are : (c k x n : ℕ) (rest : List ℕ) → 1 ≤ c → 4 * c ≤ n → (is_member ◌==◌ rest x ≡ true → x < n) → is_member ◌==◌ (with_vertices (halves c k []) rest) x ≡ true → x < n
corners_are c k x n rest low high old m =
    let p0 = corner_place c k in let p1 = corner_place c (k + 1) in let p2 = corner_place c (k + 2) in let p3 = corner_place c (k + 3) in
    ⊎_elim (λ t. let e = eqb-true x p1 t in omega (arith, e, low, high)) (λ m1.
    ⊎_elim (λ t. let e = eqb-true x p2 t in omega (arith, e, low, high)) (λ m2.
    ⊎_elim (λ t. let e = eqb-true x p3 t in omega (arith, e, low, high)) (λ m3.
    ⊎_elim (λ t. let e = eqb-true x p0 t in omega (arith, e, low, high)) old
    (or_cases (x == p0) (is_member ◌==◌ rest x) m3))
    (or_cases (x == p3) (is_member ◌==◌ (p0 ∷ rest) x) m2))
    (or_cases (x == p2) (is_member ◌==◌ (p3 ∷ p0 ∷ rest) x) m1))
    (or_cases (x == p1) (is_member ◌==◌ (p2 ∷ p3 ∷ p0 ∷ rest) x) m)

-- the vertices of a crossing beside names that have none of its places
corner_vertices : (turn : ℕ → ℕ) (c k : ℕ) (pairs : List (ℕ × ℕ)) (rest : List ℕ) → 1 ≤ c → ((i : ℕ) → is_member ◌==◌ (with_vertices pairs rest) (corner_place c i) ≡ false) →
    turn (corner_place c k) ≡ corner_place c (k + 3) → turn (corner_place c (k + 1)) ≡ corner_place c (k + 2) → turn (corner_place c (k + 2)) ≡ corner_place c (k + 1) → turn (corner_place c (k + 3)) ≡ corner_place c k →
    AreVertices pairs rest turn → AreVertices (halves c k pairs) rest turn
corner_vertices turn c k pairs rest low out t0 t1 t2 t3 more =
    let p0 = corner_place c k in let p1 = corner_place c (k + 1) in let p2 = corner_place c (k + 2) in let p3 = corner_place c (k + 3) in
    let all = with_vertices pairs rest in (
      (not_head p3 p1 (p0 ∷ all) (omega arith) (not_head p0 p1 all (omega arith) (out (k + 1))), not_head p3 p2 (p0 ∷ all) (omega arith) (not_head p0 p2 all (omega arith) (out (k + 2))), (let e : p1 ≢ p2 = omega arith in e), t1, t2),
      ((out (k + 3), out k, (let e : p3 ≢ p0 = omega arith in e), t3, t0), more),
    )

module _ (items : List Item) (pd : IsPairedDiagram items) (planar : IsPlanar item_slots items) where
  abbrev ls : List ℕ
  ls = place_labels items

  abbrev n : ℕ
  n = length ls

  abbrev names : List ℕ
  names = range_with_len 0 n

  old_long : n ≡ 4 * crossing_count items
  old_long = ap length (place_labels_are items) ∙ count_labels items pd.sizes

  pairing : IsPairing n (other_place ls)
  pairing = paired_places items pd

  -- before any cut
  whole : IsCut n next_slot slot_before (other_place ls) × (cycle_count names next_slot ≡ crossing_count items)
  whole =
      let form = pair_form n next_slot slot_before (other_place ls) (turns items pd) pairing in
      let vertices = (are_counted items pd).vertices in
      let four = long_is items pd in
      (record { permutes = turns items pd; form = form.0 ((flat_diagram items pd).0 planar) }, omega (arith, vertices, four, old_long))

  -- a crossing's number and its places
  numbered : (c : ℕ) (slots : List ℕ) → crossing_at items c ≡ Some slots → (1 ≤ c) × (4 * c ≤ n)
  numbered c slots found =
      let low = number_from 1 items c slots found in
      let high = last_number 1 items c slots found in
      (low, omega (arith, low, high, old_long))

  corner_in : (c i : ℕ) → (1 ≤ c) × (4 * c ≤ n) → is_member ◌==◌ names (corner_place c i) ≡ true
  corner_in c i b = let low = b.0 in let high = b.1 in range_has n (corner_place c i) (omega (arith, low, high))

  -- places of one crossing turn into one another
  opposite_joined : (turn : ℕ → ℕ) (c k : ℕ) → (1 ≤ c) × (4 * c ≤ n) → ((i : ℕ) → turn (corner_place c i) ≡ corner_place c (i + 1)) → Joined (steps turn names) (corner_place c k) (corner_place c (k + 2))
  opposite_joined turn c k b as_next =
      let es = steps turn names in
      on (step_along turn names (corner_place c k) (corner_in c k b)) (on (equal_joined es (turn (corner_place c k)) (corner_place c (k + 1)) (as_next k))
      (on (step_along turn names (corner_place c (k + 1)) (corner_in c (k + 1) b)) (equal_joined es (turn (corner_place c (k + 1))) (corner_place c (k + 2)) (as_next (k + 1) ∙ (let e : corner_place c (k + 1 + 1) ≡ corner_place c (k + 2) = omega arith in e)))))

  first_next : (c : ℕ) → 1 ≤ c → (i : ℕ) → next_slot (corner_place c i) ≡ corner_place c (i + 1)
  first_next c low i = omega (arith, low)

  module _ (c k : ℕ) (slots : List ℕ) (found : crossing_at items c ≡ Some slots) where
    bounds : (1 ≤ c) × (4 * c ≤ n)
    bounds = numbered c slots found

    abbrev once : ℕ → ℕ
    once = cut_at next_slot c k

    abbrev once_back : ℕ → ℕ
    once_back x = exchanged (corner_place c k) (corner_place c (k + 2)) (slot_before x)

    cut_once : IsCut n once once_back (other_place ls) × (cycle_count names once ≡ crossing_count items + 1)
    cut_once =
        let r = cut_form n next_slot slot_before (other_place ls) (corner_place c k) (corner_place c (k + 2)) pairing whole.0 (corner_in c k bounds) (corner_in c (k + 2) bounds) (omega arith)
        (opposite_joined next_slot c k bounds (first_next c bounds.0)) in
        let w = whole.1 in
        let v = r.1 in
        (r.0, omega (arith, w, v))

    -- the crossing alone
    module _ (after : List Item) (pd2 : IsPairedDiagram after) (label : ℕ → ℕ) (labels : place_labels after ≡ crossing_labels (removed_from (c ∷ []) label 1 items))
        (second : label (slice_index ls (corner_place c (k + 1))) ≡ label (slice_index ls (corner_place c (k + 2)))) (fourth : label (slice_index ls (corner_place c (k + 3))) ≡ label (slice_index ls (corner_place c k)))
        (same_label : (x : ℕ) → x < n → slice_index ls (other_place ls x) ≡ slice_index ls x) where
      abbrev rest : List ℕ
      rest = kept_places items (c ∷ [])

      is_gone : (x : ℕ) → x / 4 + 1 ≡ c → is_member ◌==◌ (c ∷ []) (x / 4 + 1) ≡ true
      is_gone x e = let t = eq-eqb (x / 4 + 1) c e in grind (arith, t)

      is_left : (x : ℕ) → is_member ◌==◌ rest x ≡ true → x / 4 + 1 ≢ c
      is_left x m e = let a = (kept_is items (c ∷ []) x m).1 in let b = is_gone x e in grind (arith, a, b)

      corner_out : (i : ℕ) → is_member ◌==◌ rest (corner_place c i) ≡ false
      corner_out i = let low = bounds.0 in ⊎_elim (λ t. absurd (is_left (corner_place c i) t (omega (arith, low)))) (λ f. f) (cases_Bool (is_member ◌==◌ rest (corner_place c i)))

      kept_once : (x : ℕ) → is_member ◌==◌ rest x ≡ true → once x ≡ next_slot x
      kept_once x m = let low = bounds.0 in let ne = is_left x m in
          kept_turn next_slot c k low (first_next c low) x (λ e. ne (omega (arith, e, low))) (λ e. ne (omega (arith, e, low)))

      once_in : (x : ℕ) → is_member ◌==◌ rest x ≡ true → is_member ◌==◌ rest (once x) ≡ true
      once_in x m =
          let r = kept_is items (c ∷ []) x m in
          let l = r.0 in
          let e : next_slot x / 4 + 1 ≡ x / 4 + 1 = omega arith in
          ap (is_member ◌==◌ rest) (kept_once x m) ∙ in_kept items (c ∷ []) (next_slot x) (omega (arith, l, old_long)) (ap (is_member ◌==◌ (c ∷ [])) e ∙ r.1)

      pub one_smoothed : IsPlanar item_slots after
      one_smoothed =
          let low = bounds.0 in
          let form = cut_once.0.form in
          let many = cut_once.1 in
          let less = one_less [] c 1 items slots found refl in
          let every = all_kept 1 items in
          let m = length (kept_numbers (c ∷ []) 1 items) in
          removed_planar items after (c ∷ []) (halves c k []) once label (λ p. label (slice_index ls p)) m pd pd2 record {
            labels = labels;
            count = refl;
            vertices = corner_vertices once c k [] rest low corner_out (at_first next_slot c k low (first_next c low)) (at_second next_slot c k low (first_next c low)) (at_third next_slot c k low (first_next c low)) (at_fourth next_slot c k low (first_next c low)) once_in;
            covered = λ x. bool_from_iff (is_member ◌==◌ names x) (is_member ◌==◌ (with_vertices (halves c k []) rest) x)
                (λ m. let l = in_range n x m in ⊎_elim (λ t. four_corners c k x rest low (eqb-true (x / 4 + 1) c t))
                (λ f. other_corners c k x rest (in_kept items (c ∷ []) x l (grind (arith, f)))) (cases_Bool (x / 4 + 1 == c)))
                (λ m. range_has n x (corners_are c k x n rest low bounds.1 (λ r. (kept_is items (c ∷ []) x r).0) m));
            turn_in = cut_once.0.permutes.inside;
            turns = kept_once;
            one_mark = (second, (fourth, tt));
            marks = λ x l. ap label (same_label x l);
            kept_marks = λ x m. refl;
            flat = omega (arith, form, many, less, every, old_long);
          }

    -- the crossing and another one
    module _ (d l : ℕ) (others : List ℕ) (also : crossing_at items d ≡ Some others) (apart : d ≢ c) where
      bounds_d : (1 ≤ d) × (4 * d ≤ n)
      bounds_d = numbered d others also

      abbrev twice_cut : ℕ → ℕ
      twice_cut = cut_at once d l

      second_next : (i : ℕ) → once (corner_place d i) ≡ corner_place d (i + 1)
      second_next i = let low = bounds.0 in let low_d = bounds_d.0 in
          kept_turn next_slot c k low (first_next c low) (corner_place d i) (omega (arith, low, low_d, apart)) (omega (arith, low, low_d, apart)) ∙ first_next d low_d i

      cut_twice : IsCut n twice_cut (λ x. exchanged (corner_place d l) (corner_place d (l + 2)) (once_back x)) (other_place ls) × (cycle_count names twice_cut ≡ crossing_count items + 2)
      cut_twice =
          let r = cut_form n once once_back (other_place ls) (corner_place d l) (corner_place d (l + 2)) pairing cut_once.0 (corner_in d l bounds_d) (corner_in d (l + 2) bounds_d) (omega arith)
          (opposite_joined once d l bounds_d second_next) in
          let w = cut_once.1 in
          let v = r.1 in
          (r.0, omega (arith, w, v))

      -- at the places of the first crossing the second cut changes nothing
      first_kept : (i : ℕ) → twice_cut (corner_place c i) ≡ once (corner_place c i)
      first_kept i = let low = bounds.0 in let low_d = bounds_d.0 in
          kept_turn once d l low_d second_next (corner_place c i) (omega (arith, low, low_d, apart)) (omega (arith, low, low_d, apart))

      module _ (after : List Item) (pd2 : IsPairedDiagram after) (label mark : ℕ → ℕ) (labels : place_labels after ≡ crossing_labels (removed_from (d ∷ c ∷ []) label 1 items))
          (one_mark : HaveOneMark mark (halves d l (halves c k []))) (marks : (x : ℕ) → x < n → mark (other_place ls x) ≡ mark x)
          (kept_marks : (x : ℕ) → is_member ◌==◌ (kept_places items (d ∷ c ∷ [])) x ≡ true → mark x ≡ label (slice_index ls x)) where
        abbrev both : List ℕ
        both = d ∷ c ∷ []

        abbrev rest2 : List ℕ
        rest2 = kept_places items both

        left_by : (x : ℕ) → is_member ◌==◌ rest2 x ≡ true → (x / 4 + 1 ≢ d) × (x / 4 + 1 ≢ c)
        left_by x m =
            let a = (kept_is items both x m).1 in (
              (λ e. (let t = eq-eqb (x / 4 + 1) d e in grind (arith, a, t))),
              (λ e. (let t = eq-eqb (x / 4 + 1) c e in grind (arith, a, t))),
            )

        c_out : (i : ℕ) → is_member ◌==◌ rest2 (corner_place c i) ≡ false
        c_out i = let low = bounds.0 in ⊎_elim (λ t. absurd ((left_by (corner_place c i) t).1 (omega (arith, low)))) (λ f. f) (cases_Bool (is_member ◌==◌ rest2 (corner_place c i)))

        d_out_rest : (i : ℕ) → is_member ◌==◌ rest2 (corner_place d i) ≡ false
        d_out_rest i = let low = bounds_d.0 in ⊎_elim (λ t. absurd ((left_by (corner_place d i) t).0 (omega (arith, low)))) (λ f. f) (cases_Bool (is_member ◌==◌ rest2 (corner_place d i)))

        d_out : (i : ℕ) → is_member ◌==◌ (with_vertices (halves c k []) rest2) (corner_place d i) ≡ false
        d_out i =
            let low = bounds.0 in let low_d = bounds_d.0 in
            let p0 = corner_place c k in let p1 = corner_place c (k + 1) in let p2 = corner_place c (k + 2) in let p3 = corner_place c (k + 3) in
            let x = corner_place d i in
            not_head p1 x (p2 ∷ p3 ∷ p0 ∷ rest2) (omega (arith, low, low_d, apart)) (not_head p2 x (p3 ∷ p0 ∷ rest2) (omega (arith, low, low_d, apart))
            (not_head p3 x (p0 ∷ rest2) (omega (arith, low, low_d, apart)) (not_head p0 x rest2 (omega (arith, low, low_d, apart)) (d_out_rest i))))

        kept_twice : (x : ℕ) → is_member ◌==◌ rest2 x ≡ true → twice_cut x ≡ next_slot x
        kept_twice x m =
            let low = bounds.0 in let low_d = bounds_d.0 in
            let ne = left_by x m in
            let nd = ne.0 in let nc = ne.1 in
            kept_turn once d l low_d second_next x (λ e. nd (omega (arith, e, low_d))) (λ e. nd (omega (arith, e, low_d)))
            ∙ kept_turn next_slot c k low (first_next c low) x (λ e. nc (omega (arith, e, low))) (λ e. nc (omega (arith, e, low)))

        twice_in : (x : ℕ) → is_member ◌==◌ rest2 x ≡ true → is_member ◌==◌ rest2 (twice_cut x) ≡ true
        twice_in x m =
            let r = kept_is items both x m in
            let l = r.0 in
            let e : next_slot x / 4 + 1 ≡ x / 4 + 1 = omega arith in
            ap (is_member ◌==◌ rest2) (kept_twice x m) ∙ in_kept items both (next_slot x) (omega (arith, l, old_long)) (ap (is_member ◌==◌ both) e ∙ r.1)

        pub two_smoothed : IsPlanar item_slots after
        two_smoothed =
            let low = bounds.0 in let low_d = bounds_d.0 in
            let form = cut_twice.0.form in
            let many = cut_twice.1 in
            let less = one_less [] c 1 items slots found refl in
            let d_is_new : is_member ◌==◌ (c ∷ []) d ≡ false = grind (arith, nat_tests, apart) in
            let less_d = one_less (c ∷ []) d 1 items others also d_is_new in
            let every = all_kept 1 items in
            let m = length (kept_numbers both 1 items) in
            let next_c = first_next c low in
            let inner : AreVertices (halves c k []) rest2 twice_cut =
            corner_vertices twice_cut c k [] rest2 low c_out (first_kept k ∙ at_first next_slot c k low next_c) (first_kept (k + 1) ∙ at_second next_slot c k low next_c) (first_kept (k + 2) ∙ at_third next_slot c k low next_c) (first_kept (k + 3) ∙ at_fourth next_slot c k low next_c) twice_in in
            let rest_c = with_vertices (halves c k []) rest2 in
            removed_planar items after both (halves d l (halves c k [])) twice_cut label mark m pd pd2 record {
              labels = labels;
              count = refl;
              vertices = corner_vertices twice_cut d l (halves c k []) rest2 low_d d_out (at_first once d l low_d second_next) (at_second once d l low_d second_next) (at_third once d l low_d second_next) (at_fourth once d l low_d second_next) inner;
              covered = λ x. bool_from_iff (is_member ◌==◌ names x) (is_member ◌==◌ (with_vertices (halves d l (halves c k [])) rest2) x)
                  (λ m. let l' = in_range n x m in ⊎_elim (λ t. four_corners d l x rest_c low_d (eqb-true (x / 4 + 1) d t))
                  (λ f. other_corners d l x rest_c (⊎_elim (λ t. four_corners c k x rest2 low (eqb-true (x / 4 + 1) c t))
                  (λ g. other_corners c k x rest2 (in_kept items both x l' (grind (arith, f, g)))) (cases_Bool (x / 4 + 1 == c)))) (cases_Bool (x / 4 + 1 == d)))
                  (λ m. range_has n x (corners_are d l x n rest_c low_d bounds_d.1 (λ r. corners_are c k x n rest2 low bounds.1 (λ s. (kept_is items both x s).0) r) m));
              turn_in = cut_twice.0.permutes.inside;
              turns = kept_twice;
              one_mark = one_mark;
              marks = marks;
              kept_marks = kept_marks;
              flat = omega (arith, form, many, less, less_d, every, old_long);
            }
