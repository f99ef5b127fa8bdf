-- A face's next place, by labels.
use Rattle.std.proofs.Common.{◌≡◌, ◌≢◌, ltb, ℕ, zero, suc, ◌+◌, ◌-◌, ◌*◌, ◌/◌, ◌%◌, ◌<◌, ◌≤◌, true, false, cond, not, ◌==◌, List, [], ◌∷◌, ◌++◌, map, length, slice_index, Some, refl, sym, ap, ◌∙◌, arith, ⊎_elim}
use Rattle.std.specs.List.{AllByRecursion, range_with_len}
use Rattle.std.specs.Set.{is_member}
use Rattle.std.proofs.lemmas.Bool.{eq-eqb, eqb-true, cases_Bool, cases_eq, and_parts, lt-ltb, ltb-true}
use Rattle.std.proofs.lemmas.Bool.Decides.{nat_tests}
use Rattle.std.proofs.lemmas.List.{length-append}
use Rattle.std.proofs.lemmas.List.FromFn.{get_or-map-range_with_len}
use Rattle.pd_reader.specs.declared.item.Item.{Item}
use Rattle.pd_reader.specs.declared.item.Item.TheVariants as item
use Rattle.pd_reader.specs.Items.{HasItsSlots}
use Rattle.planar_check.specs.Places.{other_place, other_places, is_across, first_passing, crossings_of, slot_after, slots_after, place_labels}
use Rattle.move_results.specs.Laws.{FaceStepLaw, place}
use Rattle.diagram_moves.specs.Rewriting.{slot, crossing_from, crossing_labels, map_from}
use Rattle.diagram_moves.proofs.Nodes.{none_some}
use Rattle.diagram_moves.proofs.Paired.{paired}
use Rattle.diagram_moves.proofs.PlaceLemmas.{place_labels_are, passing, range_has, in_range, one_place, length-map_from, slice_index-map_from, times_one_place, other_place_of}
use Rattle.graph_parts.proofs.Ends.{is_member-get_or}
use Rattle.planar_check.specs.Planar.{next_in_face}
use Rattle.list_lemmas.specs.Times.{times_in}
use Rattle.list_lemmas.proofs.Times.{times_of_member}

-- ---- the labels and turns at a crossing's places
slice_index-skip : (xs ys : List ℕ) (i : ℕ) → slice_index (xs ++ ys) (length xs + i) ≡ slice_index ys i
slice_index-skip [] ys i = ap (slice_index ys) (let e : 0 + i ≡ i = omega arith in e)
slice_index-skip (x ∷ xs) ys i = ap (slice_index (x ∷ (xs ++ ys))) (let e : suc (length xs) + i ≡ suc (length xs + i) = omega arith in e) ∙ slice_index-skip xs ys i

slice_index-front : (xs ys : List ℕ) (i : ℕ) → i < length xs → slice_index (xs ++ ys) i ≡ slice_index xs i
slice_index-front [] ys i l = absurd (omega (arith, l))
slice_index-front (x ∷ xs) ys zero l = refl
slice_index-front (x ∷ xs) ys (suc i) l = slice_index-front xs ys i (omega (arith, l))

-- crossings_of are numbered from k on
pub number_from : (k : ℕ) (items : List Item) (c : ℕ) (slots : List ℕ) → crossing_from k items c ≡ Some slots → k ≤ c
number_from k [] c slots found = absurd (none_some slots found)
number_from k (item.X here ∷ rest) c slots found =
    ⊎_elim
    (λ t. let e = eqb-true k c t in omega (arith, e))
    (λ t. let ih = number_from (k + 1) rest c slots (sym (ap (λ z. cond z (Some here) (crossing_from (k + 1) rest c)) t) ∙ found) in omega (arith, ih))
    (cases_Bool (k == c))
number_from k (item.Loop l ∷ rest) c slots found = number_from k rest c slots found

label_at : (k : ℕ) (items : List Item) (c : ℕ) (slots : List ℕ) (s : ℕ) → AllByRecursion HasItsSlots items → crossing_from k items c ≡ Some slots → s < 4 →
    slice_index (crossing_labels items) (4 * (c - k) + s) ≡ slice_index slots s
label_at k [] c slots s h found l = absurd (none_some slots found)
label_at k (item.X here ∷ rest) c slots s h found l =
    let four = h.0 in
    let whole = here ++ crossing_labels rest in
    ⊎_elim
    (λ t.
    let same = eqb-true k c t in
    let e : Some here ≡ Some slots = sym (ap (λ z. cond z (Some here) (crossing_from (k + 1) rest c)) t) ∙ found in
    let is : here ≡ slots = cc in
    let at : 4 * (c - k) + s ≡ s = omega (arith, same) in
    ap (slice_index whole) at ∙ slice_index-front here (crossing_labels rest) s (omega (arith, l, four)) ∙ ap (λ xs. slice_index xs s) is)
    (λ t.
    let next : crossing_from (k + 1) rest c ≡ Some slots = sym (ap (λ z. cond z (Some here) (crossing_from (k + 1) rest c)) t) ∙ found in
    let low = number_from (k + 1) rest c slots next in
    let at : 4 * (c - k) + s ≡ length here + (4 * (c - (k + 1)) + s) = omega (arith, low, four) in
    ap (slice_index whole) at ∙ slice_index-skip here (crossing_labels rest) (4 * (c - (k + 1)) + s) ∙ label_at (k + 1) rest c slots s h.1 next l)
    (cases_Bool (k == c))
label_at k (item.Loop label ∷ rest) c slots s h found l = label_at k rest c slots s h.1 found l

place_below : (k : ℕ) (items : List Item) (c : ℕ) (slots : List ℕ) (s : ℕ) → AllByRecursion HasItsSlots items → crossing_from k items c ≡ Some slots → s < 4 → 4 * (c - k) + s < length (crossing_labels items)
place_below k [] c slots s h found l = absurd (none_some slots found)
place_below k (item.X here ∷ rest) c slots s h found l =
    let four = h.0 in
    let long = length-append here (crossing_labels rest) in
    ⊎_elim
    (λ t. let same = eqb-true k c t in omega (arith, same, four, long, l))
    (λ t.
    let next : crossing_from (k + 1) rest c ≡ Some slots = sym (ap (λ z. cond z (Some here) (crossing_from (k + 1) rest c)) t) ∙ found in
    let low = number_from (k + 1) rest c slots next in
    let ih = place_below (k + 1) rest c slots s h.1 next l in
    omega (arith, ih, low, four, long))
    (cases_Bool (k == c))
place_below k (item.Loop label ∷ rest) c slots s h found l = place_below k rest c slots s h.1 found l

-- the next slot counterclockwise, at a crossing that begins at place `start`
four_turned : (start : ℕ) (more : List ℕ) (s : ℕ) → s < 4 → slice_index (map (slot_after start 4) (range_with_len 0 4) ++ more) s ≡ start + (s + 1) % 4
four_turned start more zero l = refl
four_turned start more (suc zero) l = refl
four_turned start more (suc (suc zero)) l = refl
four_turned start more (suc (suc (suc zero))) l = refl
four_turned start more (suc (suc (suc (suc s)))) l = absurd (omega (arith, l))

turned_cons : (start : ℕ) (slots : List ℕ) (cs : List (List ℕ)) → length slots ≡ 4 → slots_after start (slots ∷ cs) ≡ map (slot_after start 4) (range_with_len 0 4) ++ slots_after (start + 4) cs
turned_cons start slots cs h = ap (λ n. map (slot_after start n) (range_with_len 0 n) ++ slots_after (start + n) cs) h

crossings_cons : (slots : List ℕ) (rest : List Item) → length slots ≡ 4 → crossings_of (item.X slots ∷ rest) ≡ slots ∷ crossings_of rest
crossings_cons slots rest h =
    let t : ltb 0 (length slots) ≡ true = lt-ltb 0 (length slots) (omega (arith, h)) in
    ap (λ z. cond z (slots ∷ crossings_of rest) (crossings_of rest)) t

-- the next place counterclockwise, at each place
turn_of : (start : ℕ) (items : List Item) (o : ℕ) → AllByRecursion HasItsSlots items → o < length (crossing_labels items) →
    slice_index (slots_after start (crossings_of items)) o ≡ start + 4 * (o / 4) + (o % 4 + 1) % 4
turn_of start [] o h l = absurd (omega (arith, l))
turn_of start (item.X here ∷ rest) o h l =
    let four = h.0 in
    let T = slots_after (start + 4) (crossings_of rest) in
    let first = map (slot_after start 4) (range_with_len 0 4) in
    let opened : slots_after start (crossings_of (item.X here ∷ rest)) ≡ first ++ T = ap (slots_after start) (crossings_cons here rest four) ∙ turned_cons start here (crossings_of rest) four in
    let long = length-append here (crossing_labels rest) in
    ⊎_elim
    (λ t.
    let low : o < 4 = ltb-true o 4 t in
    ap (λ ns. slice_index ns o) opened ∙ four_turned start T o low ∙ (let e : start + (o + 1) % 4 ≡ start + 4 * (o / 4) + (o % 4 + 1) % 4 = omega (arith, low) in e))
    (λ t.
    let high : 4 ≤ o = grind (arith, nat_tests, t) in
    let at : o ≡ length first + (o - 4) = omega (arith, high) in
    let ih = turn_of (start + 4) rest (o - 4) h.1 (omega (arith, l, long, four, high)) in
    ap (λ ns. slice_index ns o) opened ∙ ap (slice_index (first ++ T)) at ∙ slice_index-skip first T (o - 4) ∙ ih
    ∙ (let e : start + 4 + 4 * ((o - 4) / 4) + ((o - 4) % 4 + 1) % 4 ≡ start + 4 * (o / 4) + (o % 4 + 1) % 4 = omega (arith, high) in e))
    (cases_Bool (ltb o 4))
turn_of start (item.Loop label ∷ rest) o h l = turn_of start rest o h.1 l

-- ---- the other place of a label that stands twice
three_places : (ls : List ℕ) (x p q r : ℕ) → p < length ls → q < length ls → r < length ls → p ≢ q → p ≢ r → q ≢ r → slice_index ls p ≡ x → slice_index ls q ≡ x → slice_index ls r ≡ x → 3 ≤ times_in ls x
three_places ls x p q r lp lq lr pq pr qr ep eq er =
    let other = suc x in
    let one = map_from (one_place p other) 0 ls in
    let two = map_from (one_place q other) 0 one in
    let long = length-map_from (one_place p other) 0 ls in
    let longer = length-map_from (one_place q other) 0 one in
    let one_q : slice_index one q ≡ x = slice_index-map_from (one_place p other) 0 ls q lq ∙ (let u : cond (0 + q == p) other (slice_index ls q) ≡ slice_index ls q = grind (arith, nat_tests, pq) in u) ∙ eq in
    let one_r : slice_index one r ≡ x = slice_index-map_from (one_place p other) 0 ls r lr ∙ (let u : cond (0 + r == p) other (slice_index ls r) ≡ slice_index ls r = grind (arith, nat_tests, pr) in u) ∙ er in
    let two_r : slice_index two r ≡ x = slice_index-map_from (one_place q other) 0 one r (omega (arith, lr, long)) ∙ (let u : cond (0 + r == q) other (slice_index one r) ≡ slice_index one r = grind (arith, nat_tests, qr) in u) ∙ one_r in
    let a = times_one_place ls p other x x lp ep in
    let b = times_one_place one q other x x (omega (arith, lq, long)) one_q in
    let there : is_member ◌==◌ two x ≡ true = sym (ap (is_member ◌==◌ two) two_r) ∙ is_member-get_or two r (omega (arith, lr, long, longer)) in
    let c = times_of_member x two there in
    let own : cond {A = ℕ} (x == x) 1 0 ≡ 1 = (let e = eq-eqb x x refl in grind (arith, e)) in
    let not_other : cond {A = ℕ} (x == other) 1 0 ≡ 0 = grind (arith, nat_tests) in
    omega (arith, a, b, c, own, not_other)

other_is : (ls : List ℕ) (p q : ℕ) → p < length ls → q < length ls → p ≢ q → slice_index ls p ≡ slice_index ls q → times_in ls (slice_index ls p) ≡ 2 → other_place ls p ≡ q
unfolding other_place
other_is ls p q lp lq apart same two =
    let x = slice_index ls p in
    let across : is_across ls p q ≡ true = (let a : (q == p) ≡ false = grind (arith, nat_tests, apart) in let b = eq-eqb (slice_index ls q) (slice_index ls p) (sym same) in grind (arith, a, b)) in
    let r = first_passing (is_across ls p) (range_with_len 0 (length ls)) p in
    let found = passing (is_across ls p) (range_with_len 0 (length ls)) p q (range_has (length ls) q lq) across in
    let parts = and_parts (not (r == p)) (slice_index ls r == slice_index ls p) found.0 in
    let lr = in_range (length ls) r found.1 in
    let not_p : r ≢ p = λ e. (let k = eq-eqb r p e in let n = parts.0 in grind (arith, k, n)) in
    let er = eqb-true (slice_index ls r) (slice_index ls p) parts.1 in
    ⊎_elim (λ e. e) (λ n. absurd (let three = three_places ls x p q r lp lq lr apart (λ e. not_p (sym e)) (λ e. n (sym e)) refl (sym same) er in omega (arith, three, two))) (cases_eq r q)

-- A FACE'S NEXT PLACE
pub face_step : FaceStepLaw
face_step items c d s t here there pd found also apart =
    let ls = place_labels items in
    let cl = crossing_labels items in
    let are = place_labels_are items in
    let turns = slots_after 0 (crossings_of items) in
    let p = place c s in
    let q = place d t in
    let low_s : s % 4 < 4 = omega arith in
    let low_t : t % 4 < 4 = omega arith in
    let long = ap length are in
    let p_label : slice_index ls p ≡ slot here s = ap (λ ns. slice_index ns p) are ∙ label_at 1 items c here (s % 4) pd.sizes found low_s in
    let q_label : slice_index ls q ≡ slot there t = ap (λ ns. slice_index ns q) are ∙ label_at 1 items d there (t % 4) pd.sizes also low_t in
    let below_p : p < length ls = (let b = place_below 1 items c here (s % 4) pd.sizes found low_s in omega (arith, b, long)) in
    let below_q : q < length ls = (let b = place_below 1 items d there (t % 4) pd.sizes also low_t in omega (arith, b, long)) in
    let o = other_place ls p in
    let other : slice_index (other_places ls) p ≡ o = get_or-map-range_with_len (other_place ls) 0 (length ls) p p 0 below_p (omega arith) in
    let other_of = other_place_of ls p below_p in
    let turn_o = turn_of 0 items o pd.sizes (let b = other_of.0 in omega (arith, b, long)) in
    let turn_q = turn_of 0 items q pd.sizes (omega (arith, below_q, long)) in
    let step : next_in_face turns (other_places ls) p ≡ slice_index turns o = ap (slice_index turns) other in
    let twice : times_in ls (slice_index ls p) ≡ 2 =
    (let a = ap (λ ns. times_in ns (slice_index ls p)) are in
    let m = times_of_member (slice_index ls p) ls (is_member-get_or ls p below_p) in
    let b = paired items pd (slice_index ls p) (omega (arith, a, m)) in omega (arith, a, b)) in
    let q_turn : 0 + 4 * (q / 4) + (q % 4 + 1) % 4 ≡ place d (t + 1) = omega arith in (
      (λ same.
          let is : o ≡ q = other_is ls p q below_p below_q apart (p_label ∙ same ∙ sym q_label) twice in
          step ∙ ap (slice_index turns) is ∙ turn_q ∙ q_turn),
      (λ next.
          let e : 0 + 4 * (o / 4) + (o % 4 + 1) % 4 ≡ place d (t + 1) = sym turn_o ∙ sym step ∙ next in
          let is : o ≡ q = omega (arith, e) in
          sym p_label ∙ sym other_of.1 ∙ ap (slice_index ls) is ∙ q_label),
    )
