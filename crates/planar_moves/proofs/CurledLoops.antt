-- A Loop with a curl is a piece of its own.
use Rattle.std.proofs.Common.{◌≡◌, ◌≢◌, ◌↔◌, ◌≤◌, ◌<◌, ℕ, ◌+◌, ◌*◌, ◌/◌, ◌%◌, ◌==◌, Bool, true, false, cond, not, List, [], ◌∷◌, ◌++◌, map, length, slice_index, Some, refl, sym, ap, ◌∙◌, subst, arith, ⊎_elim}
use Rattle.std.specs.List.{range_with_len}
use Rattle.std.specs.Set.{is_member}
use Rattle.std.proofs.lemmas.Bool.{eq-eqb, eqb-true, cases_Bool, or_cases}
use Rattle.std.proofs.lemmas.Bool.Decides.{nat_tests}
use Rattle.graph_parts.proofs.Numbered.{numbered-member as in_range, is_member-numbered as range_has}
use Rattle.pd_reader.specs.declared.item.Item.{Item}
use Rattle.pd_reader.specs.declared.item.Item.TheVariants as item
use Rattle.pd_reader.specs.Items.{item_labels}
use Rattle.pd_reader.specs.Diagrams.{labels}
use Rattle.planar_check.specs.declared.sign.Sign.{Sign}
use Rattle.planar_check.specs.declared.sign.Sign.TheVariants as signs
use Rattle.planar_check.specs.Places.{item_slots, place_labels, other_place}
use Rattle.planar_check.specs.Planar.{IsPlanar}
use Rattle.script_reader.specs.declared.step.Step.TheVariants.{Curl}
use Rattle.diagram_moves.specs.declared.fault.MoveFault.TheVariants.{NoEdge}
use Rattle.diagram_moves.specs.Laws.{IsPairedDiagram}
use Rattle.diagram_moves.specs.Moves.{curl_slots, curl_of, curled_loop, cut_label, second_place, is_edge, is_loop, finished}
use Rattle.diagram_moves.specs.Rewriting.{slot, crossing_from, crossing_at, crossing_labels, at_places, fresh}
use Rattle.diagram_moves.specs.Steps.{Moved}
use Rattle.diagram_moves.proofs.Accepted.{unless_Ok, finished_Ok}
use Rattle.diagram_moves.proofs.Paired.{loop_labels, loop_once}
use Rattle.diagram_moves.proofs.PlaceLemmas.{place_labels_are}
use Rattle.list_lemmas.proofs.Times.{member_of_times}
use Rattle.move_results.proofs.FaceSteps.{number_from}
use Rattle.move_results.proofs.PairedResults.{paired_again}
use Rattle.rotation_parts.specs.Rotations.{IsPairing, IsPairingOf, IsFlatWith}
use Rattle.rotation_parts.specs.Drawings.{IsLoneCurl}
use Rattle.rotation_parts.proofs.LoneCurls.{lone_curl}
use Rattle.rotation_parts.proofs.PassedLists.{reordered_flat}
use Rattle.rotation_parts.proofs.Steps.{bool_from_iff}
use Rattle.planar_forms.specs.PlaceSystems.{next_slot}
use Rattle.planar_forms.proofs.PlacePairs.{other_is, label_twice, paired_places, long_is}
use Rattle.planar_forms.proofs.PlanarForms.{planar_form}
use Rattle.planar_moves.specs.Laws.{CurlOnLoopPlanarLaw}
use Rattle.planar_moves.proofs.KeptPlaces.{kept_numbers, removed_from, crossing_count, count_labels, one_less, all_kept}
use Rattle.planar_moves.proofs.RemovedCrossings.{kept_places, in_kept, kept_is, result_counts, new_long}
use Rattle.planar_moves.proofs.AnewPlaces.{four_cases}
use Rattle.planar_moves.proofs.SmoothedCrossings.{corner_place, not_head, here_is, later_is}
use Rattle.planar_moves.proofs.UndonePlanes.{corner_label, corner_low, same_labels}

-- the number of the crossing that stands for the Loop
abbrev curl_number : ℕ → ℕ → List Item → ℕ
curl_number e k [] = k
curl_number e k (item.X slots ∷ rest) = curl_number e (k + 1) rest
curl_number e k (item.Loop l ∷ rest) = cond (l == e) k (curl_number e k rest)

number_low : (e k : ℕ) (items : List Item) → k ≤ curl_number e k items
number_low e k [] = omega arith
number_low e k (item.X slots ∷ rest) = let ih = number_low e (k + 1) rest in omega (arith, ih)
number_low e k (item.Loop l ∷ rest) =
    let P : Bool → Type 0 = λ b. k ≤ cond b k (curl_number e k rest) in
    let here : P true = omega arith in
    ⊎_elim (λ t. subst P (sym t) here) (λ f. subst P (sym f) (number_low e k rest)) (cases_Bool (l == e))

curl_stands : (e : ℕ) (slots : List ℕ) (k : ℕ) (items : List Item) → is_member ◌==◌ (loop_labels items) e ≡ true → crossing_from k (curled_loop e slots items) (curl_number e k items) ≡ Some slots
curl_stands e slots k [] m = absurd (grind (arith, m))
curl_stands e slots k (item.X here ∷ rest) m =
    let c = curl_number e (k + 1) rest in
    let low = number_low e (k + 1) rest in
    let n : (k == c) ≡ false = grind (arith, nat_tests, low) in
    ap (λ z. cond z (Some here) (crossing_from (k + 1) (curled_loop e slots rest) c)) n ∙ curl_stands e slots (k + 1) rest m
curl_stands e slots k (item.Loop l ∷ rest) m =
    let P : Bool → Type 0 = λ b. crossing_from k (cond b (item.X slots ∷ rest) (item.Loop l ∷ curled_loop e slots rest)) (cond b k (curl_number e k rest)) ≡ Some slots in
    let here : P true = ap (λ z. cond z (Some slots) (crossing_from (k + 1) rest k)) (eq-eqb k k refl) in
    ⊎_elim (λ t. subst P (sym t) here)
    (λ f. subst P (sym f) (curl_stands e slots k rest (let s : is_member ◌==◌ (loop_labels rest) e ≡ true = grind (arith, nat_tests, f, m) in s)))
    (cases_Bool (l == e))

itself : (xs : List ℕ) → map (λ x. x) xs ≡ xs
itself [] = refl
itself (x ∷ xs) = ap (λ ys. x ∷ ys) (itself xs)

-- crossings after a number stay
all_stay : (c k : ℕ) (items : List Item) → c < k → crossing_labels (removed_from (c ∷ []) (λ x. x) k items) ≡ crossing_labels items
all_stay c k [] l = refl
all_stay c k (item.X here ∷ rest) l =
    let ih = all_stay c (k + 1) rest (omega (arith, l)) in
    let n : is_member ◌==◌ (c ∷ []) k ≡ false = grind (arith, nat_tests, l) in
    let R = removed_from (c ∷ []) (λ x. x) (k + 1) rest in
    ap (λ b. crossing_labels (cond b [] (item.X (map (λ x. x) here) ∷ []) ++ R)) n ∙ (ap (λ xs. xs ++ crossing_labels R) (itself here) ∙ ap (λ xs. here ++ xs) ih)
all_stay c k (item.Loop label ∷ rest) l = all_stay c k rest l

-- without the curl the crossings are the old ones
curl_removed : (e : ℕ) (slots : List ℕ) (k : ℕ) (items : List Item) → is_member ◌==◌ (loop_labels items) e ≡ true →
    crossing_labels (removed_from (curl_number e k items ∷ []) (λ x. x) k (curled_loop e slots items)) ≡ crossing_labels items
curl_removed e slots k [] m = absurd (grind (arith, m))
curl_removed e slots k (item.X here ∷ rest) m =
    let c = curl_number e (k + 1) rest in
    let low = number_low e (k + 1) rest in
    let ih = curl_removed e slots (k + 1) rest m in
    let n : is_member ◌==◌ (c ∷ []) k ≡ false = grind (arith, nat_tests, low) in
    let R = removed_from (c ∷ []) (λ x. x) (k + 1) (curled_loop e slots rest) in
    ap (λ b. crossing_labels (cond b [] (item.X (map (λ x. x) here) ∷ []) ++ R)) n ∙ (ap (λ xs. xs ++ crossing_labels R) (itself here) ∙ ap (λ xs. here ++ xs) ih)
curl_removed e slots k (item.Loop l ∷ rest) m =
    let P : Bool → Type 0 = λ b. crossing_labels (removed_from (cond b k (curl_number e k rest) ∷ []) (λ x. x) k (cond b (item.X slots ∷ rest) (item.Loop l ∷ curled_loop e slots rest))) ≡ crossing_labels rest in
    let y : is_member ◌==◌ (k ∷ []) k ≡ true = (let t = eq-eqb k k refl in grind (arith, t)) in
    let R = removed_from (k ∷ []) (λ x. x) (k + 1) rest in
    let here : P true = ap (λ b. crossing_labels (cond b [] (item.X (map (λ x. x) slots) ∷ []) ++ R)) y ∙ all_stay k (k + 1) rest (omega arith) in
    ⊎_elim (λ t. subst P (sym t) here)
    (λ f. subst P (sym f) (curl_removed e slots k rest (let s : is_member ◌==◌ (loop_labels rest) e ≡ true = grind (arith, nat_tests, f, m) in s)))
    (cases_Bool (l == e))

module _ (items : List Item) (pd : IsPairedDiagram items) (e : ℕ) (slots : List ℕ) (there : is_member ◌==◌ (loop_labels items) e ≡ true) (pd2 : IsPairedDiagram (curled_loop e slots items))
    (s : ℕ) (one : slot slots s ≡ slot slots (s + 1)) (two : slot slots (s + 2) ≡ slot slots (s + 3)) where
  abbrev after : List Item
  after = curled_loop e slots items

  abbrev c : ℕ
  c = curl_number e 1 items

  abbrev ls : List ℕ
  ls = place_labels after

  abbrev n : ℕ
  n = length ls

  abbrev names : List ℕ
  names = range_with_len 0 n

  abbrev rest : List ℕ
  rest = kept_places after (c ∷ [])

  abbrev p0 : ℕ
  p0 = corner_place c s

  abbrev p1 : ℕ
  p1 = corner_place c (s + 1)

  abbrev p2 : ℕ
  p2 = corner_place c (s + 2)

  abbrev p3 : ℕ
  p3 = corner_place c (s + 3)

  stands : crossing_at after c ≡ Some slots
  stands = curl_stands e slots 1 items there

  low : 1 ≤ c
  low = number_from 1 after c slots stands

  pairing : IsPairing n (other_place ls)
  pairing = paired_places after pd2

  old_long : n ≡ 4 * crossing_count after
  old_long = ap length (place_labels_are after) ∙ count_labels after pd2.sizes

  same_places : place_labels items ≡ crossing_labels (removed_from (c ∷ []) (λ x. x) 1 after)
  same_places = place_labels_are items ∙ sym (curl_removed e slots 1 items there)

  place_low : (i : ℕ) → corner_place c i < n
  place_low i = corner_low after c i slots pd2 stands

  meets : (i j : ℕ) → i % 4 ≢ j % 4 → slot slots i ≡ slot slots j → other_place ls (corner_place c i) ≡ corner_place c j
  meets i j ne same =
      other_is ls (corner_place c i) (corner_place c j) (place_low i) (place_low j) (λ w. ne (omega (arith, w)))
      (corner_label after c i slots pd2 stands ∙ (same ∙ sym (corner_label after c j slots pd2 stands))) (label_twice after pd2 (corner_place c i) (place_low i))

  ab : other_place ls p0 ≡ p1
  ab = meets s (s + 1) (omega arith) one

  ba : other_place ls p1 ≡ p0
  ba = meets (s + 1) s (omega arith) (sym one)

  cd : other_place ls p2 ≡ p3
  cd = meets (s + 2) (s + 3) (omega arith) two

  dc : other_place ls p3 ≡ p2
  dc = meets (s + 3) (s + 2) (omega arith) (sym two)

  left_by : (x : ℕ) → is_member ◌==◌ rest x ≡ true → x / 4 + 1 ≢ c
  left_by x m w = let a = (kept_is after (c ∷ []) x m).1 in let t = eq-eqb (x / 4 + 1) c w in grind (arith, a, t)

  out : (i : ℕ) → is_member ◌==◌ rest (corner_place c i) ≡ false
  out i = let l = low in ⊎_elim (λ t. absurd (left_by (corner_place c i) t (omega (arith, l)))) (λ f. f) (cases_Bool (is_member ◌==◌ rest (corner_place c i)))

  still : (x : ℕ) → x < n → x / 4 + 1 ≢ c → is_member ◌==◌ rest x ≡ true
  still x h w = in_kept after (c ∷ []) x h (grind (arith, nat_tests, w))

  turn_in : (x : ℕ) → is_member ◌==◌ rest x ≡ true → is_member ◌==◌ rest (next_slot x) ≡ true
  turn_in x m =
      let h = (kept_is after (c ∷ []) x m).0 in
      let same : next_slot x / 4 + 1 ≡ x / 4 + 1 = omega arith in
      still (next_slot x) (omega (arith, h, old_long)) (λ w. left_by x m (sym same ∙ w))

  -- an edge that leaves the crossing's places comes back to them
  other_out : (x : ℕ) → is_member ◌==◌ rest x ≡ true → is_member ◌==◌ rest (other_place ls x) ≡ true
  other_out x m =
      let h = (kept_is after (c ∷ []) x m).0 in
      let l = low in
      let y = other_place ls x in
      let tw = pairing.twice x h in
      let back_out : (z w : ℕ) → other_place ls z ≡ w → w / 4 + 1 ≡ c → y ≢ z = λ z w o k e. left_by x m (let same : x ≡ w = sym tw ∙ (ap (other_place ls) e ∙ o) in omega (arith, same, k)) in
      still y (pairing.low x h)
      (λ w. four_cases (λ z. y ≢ z) c s low
      (back_out p0 p1 ab (omega (arith, l))) (back_out p1 p0 ba (omega (arith, l))) (back_out p2 p3 cd (omega (arith, l))) (back_out p3 p2 dc (omega (arith, l))) y w refl)

  rest_pairing : IsPairingOf rest (other_place ls)
  rest_pairing = record {
    inside = other_out;
    apart = λ x m. pairing.apart x (kept_is after (c ∷ []) x m).0;
    twice = λ x m. pairing.twice x (kept_is after (c ∷ []) x m).0;
  }

  lone : IsLoneCurl rest next_slot (other_place ls) p0 p1 p2 p3
  lone =
      let l = low in
      record {
        turn_in = turn_in;
        other_in = other_out;
        new_a = not_head p1 p0 (p2 ∷ p3 ∷ rest) (omega (arith, l)) (not_head p2 p0 (p3 ∷ rest) (omega (arith, l)) (not_head p3 p0 rest (omega (arith, l)) (out s)));
        new_b = not_head p2 p1 (p3 ∷ rest) (omega (arith, l)) (not_head p3 p1 rest (omega (arith, l)) (out (s + 1)));
        new_c = not_head p3 p2 rest (omega (arith, l)) (out (s + 2));
        new_d = out (s + 3);
        ta = omega (arith, l);
        tb = omega (arith, l);
        tc = omega (arith, l);
        td = omega (arith, l);
        ab = ab;
        ba = ba;
        cd = cd;
        dc = dc;
      }

  abbrev more : List ℕ
  more = p0 ∷ p1 ∷ p2 ∷ p3 ∷ rest

  same_members : (x : ℕ) → is_member ◌==◌ more x ≡ is_member ◌==◌ names x
  same_members x = bool_from_iff (is_member ◌==◌ more x) (is_member ◌==◌ names x)
      (λ m. range_has n x
      (⊎_elim (λ t. let w = eqb-true x p0 t in let h = place_low s in omega (arith, w, h)) (λ m1.
      ⊎_elim (λ t. let w = eqb-true x p1 t in let h = place_low (s + 1) in omega (arith, w, h)) (λ m2.
      ⊎_elim (λ t. let w = eqb-true x p2 t in let h = place_low (s + 2) in omega (arith, w, h)) (λ m3.
      ⊎_elim (λ t. let w = eqb-true x p3 t in let h = place_low (s + 3) in omega (arith, w, h)) (λ m4. (kept_is after (c ∷ []) x m4).0)
      (or_cases (x == p3) (is_member ◌==◌ rest x) m3))
      (or_cases (x == p2) (is_member ◌==◌ (p3 ∷ rest) x) m2))
      (or_cases (x == p1) (is_member ◌==◌ (p2 ∷ p3 ∷ rest) x) m1))
      (or_cases (x == p0) (is_member ◌==◌ (p1 ∷ p2 ∷ p3 ∷ rest) x) m)))
      (λ m.
      let h = in_range n x m in
      ⊎_elim
      (λ t. four_cases (λ z. is_member ◌==◌ more z ≡ true) c s low
      (here_is p0 p0 (p1 ∷ p2 ∷ p3 ∷ rest) refl)
      (later_is p0 p1 (p1 ∷ p2 ∷ p3 ∷ rest) (here_is p1 p1 (p2 ∷ p3 ∷ rest) refl))
      (later_is p0 p2 (p1 ∷ p2 ∷ p3 ∷ rest) (later_is p1 p2 (p2 ∷ p3 ∷ rest) (here_is p2 p2 (p3 ∷ rest) refl)))
      (later_is p0 p3 (p1 ∷ p2 ∷ p3 ∷ rest) (later_is p1 p3 (p2 ∷ p3 ∷ rest) (later_is p2 p3 (p3 ∷ rest) (here_is p3 p3 rest refl))))
      x (eqb-true (x / 4 + 1) c t))
      (λ f. later_is p0 x (p1 ∷ p2 ∷ p3 ∷ rest) (later_is p1 x (p2 ∷ p3 ∷ rest) (later_is p2 x (p3 ∷ rest) (later_is p3 x rest (in_kept after (c ∷ []) x h (grind (arith, f)))))))
      (cases_Bool (x / 4 + 1 == c)))

  names_turn : (x : ℕ) → is_member ◌==◌ names x ≡ true → is_member ◌==◌ names (next_slot x) ≡ true
  names_turn x m = let h = in_range n x m in range_has n (next_slot x) (omega (arith, h, old_long))

  names_other : (x : ℕ) → is_member ◌==◌ names x ≡ true → is_member ◌==◌ names (other_place ls x) ≡ true
  names_other x m = range_has n (other_place ls x) (pairing.low x (in_range n x m))

  curled_planar : IsPlanar item_slots items ↔ IsPlanar item_slots after
  curled_planar =
      let kept_labels : (x : ℕ) → is_member ◌==◌ rest x ≡ true → slice_index ls (other_place ls x) ≡ slice_index ls x = λ x m. same_labels after x (kept_is after (c ∷ []) x m).0 in
      let r = result_counts after items (c ∷ []) next_slot (λ x. x) (slice_index ls) (other_place ls) pd2 pd same_places (λ x m. refl) rest_pairing kept_labels (λ x m. refl) in
      let long = new_long after items (c ∷ []) next_slot (λ x. x) (slice_index ls) (other_place ls) pd2 pd same_places (λ x m. refl) rest_pairing kept_labels (λ x m. refl) in
      let m = length (kept_numbers (c ∷ []) 1 after) in
      let less = one_less [] c 1 after slots stands refl in
      let every = all_kept 1 after in
      let four = long_is items pd in
      let four_after = long_is after pd2 in
      let faces = r.0 in
      let pieces = r.1 in
      let alone = lone_curl m rest next_slot (other_place ls) p0 p1 p2 p3 lone in
      let one_form = planar_form items pd in
      let two_form = planar_form after pd2 in (
        (λ h.
            let w = one_form.0 h in
            let left : IsFlatWith m rest next_slot (other_place ls) = omega (arith, w, faces, pieces, long, four) in
            let whole = reordered_flat (m + 1) more names next_slot (other_place ls) same_members (λ x k. same_members (next_slot x) ∙ names_turn x (sym (same_members x) ∙ k)) (λ x k. same_members (other_place ls x) ∙ names_other x (sym (same_members x) ∙ k)) (alone.0 left) in
            two_form.1 (omega (arith, whole, less, every, four_after, old_long))),
        (λ h.
            let w = two_form.0 h in
            let all : IsFlatWith (m + 1) names next_slot (other_place ls) = omega (arith, w, less, every, four_after, old_long) in
            let whole = reordered_flat (m + 1) names more next_slot (other_place ls) (λ x. sym (same_members x)) names_turn names_other all in
            let left = alone.1 whole in
            one_form.1 (omega (arith, left, faces, pieces, long, four))),
      )

pub curl_on_loop_planar : CurlOnLoopPlanarLaw
curl_on_loop_planar items e sign moved pd out h =
    let n = fresh items in
    let slots = curl_slots e e n sign in
    let on_loop = curled_loop e slots items in
    let on_edge = at_places (cut_label (second_place items e) (n + 1)) 0 items ++ item.X (curl_slots e (n + 1) n sign) ∷ [] in
    let h1 = unless_Ok (not (is_edge items e)) (NoEdge e) _ moved h in
    let has : is_member ◌==◌ (labels item_labels items) e ≡ true = (let k = h1.0 in grind (arith, k)) in
    let yes : is_loop items e ≡ true = ap not out in
    let is : moved.items ≡ on_loop = ap (λ (w : Moved). w.items) (finished_Ok (curl_of sign) on_loop moved (sym (ap (λ z. finished (curl_of sign) (cond z on_loop on_edge)) yes) ∙ h1.1)) in
    let P : List Item → Type 0 = λ (w : List Item). IsPairedDiagram w in
    let Q : List Item → Type 0 = λ (w : List Item). IsPlanar item_slots items ↔ IsPlanar item_slots w in
    let once = loop_once items pd e has out in
    let there = member_of_times e (loop_labels items) (omega (arith, once)) in
    let pd2 : IsPairedDiagram on_loop = subst P is (paired_again items (Curl e sign) moved pd h) in
    let R : Sign → Type 0 = λ s. IsPairedDiagram (curled_loop e (curl_slots e e n s) items) → IsPlanar item_slots items ↔ IsPlanar item_slots (curled_loop e (curl_slots e e n s) items) in
    let plus : R signs.Plus = λ d. curled_planar items pd e (curl_slots e e n signs.Plus) there d 0 refl refl in
    let minus : R signs.Minus = λ d. curled_planar items pd e (curl_slots e e n signs.Minus) there d 3 refl refl in
    let both : (s : Sign) → R s = λ s. elim s as R [ signs.Plus ↦ plus | signs.Minus ↦ minus ] in
    subst Q (sym is) (both sign pd2)
