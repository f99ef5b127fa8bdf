-- A curl on an edge keeps a diagram planar.
use Rattle.std.proofs.Common.{◌≡◌, ◌≢◌, ◌≤◌, ◌<◌, ◌↔◌, ℕ, ◌+◌, ◌-◌, ◌*◌, ◌==◌, true, false, cond, not, ltb, List, [], ◌∷◌, ◌++◌, length, slice_index, refl, sym, ap, ◌∙◌, subst, arith, ⊎_elim, append-nil, Ok}
use Rattle.std.specs.List.{range_with_len}
use Rattle.std.specs.Set.{is_member}
use Rattle.std.proofs.lemmas.Bool.{eq-eqb, eqb-true, cases_Bool, or_cases, or_left, or_right, ltb-true}
use Rattle.std.proofs.lemmas.Bool.Decides.{nat_tests}
use Rattle.std.proofs.lemmas.List.{length-append}
use Rattle.std.proofs.lemmas.List.Elements.{Contains-append_left, Contains-append_right, Contains-append_cases}
use Rattle.graph_parts.specs.Ends.{AreAmong}
use Rattle.graph_parts.specs.Parts.{part_count}
use Rattle.graph_parts.specs.Walks.{Joined, along, on}
use Rattle.graph_parts.proofs.Ends.{EndsAre-append, EndsAre-weaker}
use Rattle.graph_parts.proofs.PartLaws.{same_names}
use Rattle.pd_reader.specs.declared.item.Item.{Item}
use Rattle.pd_reader.specs.declared.item.Item.TheVariants as item
use Rattle.planar_check.specs.declared.sign.Sign.{Sign}
use Rattle.planar_check.specs.declared.sign.Sign.TheVariants as signs
use Rattle.planar_check.specs.Places.{crossings_of, item_slots, place_labels, other_place}
use Rattle.planar_check.specs.Planar.{IsPlanar}
use Rattle.diagram_moves.specs.Laws.{IsPairedDiagram}
use Rattle.diagram_moves.specs.Moves.{move, first_place_of, second_place, curl_slots, curl_of, curled_loop, is_edge, is_loop, finished}
use Rattle.diagram_moves.specs.Rewriting.{crossing_labels, map_from, at_places, fresh}
use Rattle.script_reader.specs.declared.step.Step.TheVariants.{Curl}
use Rattle.diagram_moves.specs.declared.fault.MoveFault.TheVariants.{NoEdge}
use Rattle.diagram_moves.specs.Steps.{Moved}
use Rattle.diagram_moves.proofs.Accepted.{unless_Ok, finished_Ok}
use Rattle.list_lemmas.proofs.Items.{get_front}
use Rattle.move_results.proofs.PairedResults.{paired_again}
use Rattle.diagram_moves.proofs.PlaceLemmas.{place_labels_are, in_range, range_has, other_place_of, length-map_from, slice_index-map_from, crossing_labels-at_places}
use Rattle.diagram_moves.proofs.Pushing.{crossing_labels-append}
use Rattle.rotation_parts.specs.Drawings.{IsCurl}
use Rattle.rotation_parts.specs.Rotations.{pair_graph, steps, cycle_count, IsPairing}
use Rattle.rotation_parts.proofs.Curls.{curl_counts}
use Rattle.rotation_parts.proofs.Steps.{same_parts, step_of, walks, equal_joined, step_along, step_walks, steps_among, bool_from_iff}
use Rattle.planar_forms.specs.PlaceSystems.{next_slot, all_places, along_face}
use Rattle.planar_moves.proofs.FirstPlaces.{first_place_has}
use Rattle.planar_moves.specs.Laws.{CurlPlanarLaw}
use Rattle.planar_forms.proofs.PlacePairs.{other_is, slice_index-skip, long_is, label_twice, paired_places}
use Rattle.planar_forms.proofs.PlanarForms.{planar_form}

-- ---- the order of the names does not matter
module _ (xs ys : List ℕ) (same : (x : ℕ) → is_member ◌==◌ xs x ≡ is_member ◌==◌ ys x) where
  pub reordered_cycles : (f : ℕ → ℕ) → ((x : ℕ) → is_member ◌==◌ xs x ≡ true → is_member ◌==◌ xs (f x) ≡ true) → cycle_count xs f ≡ cycle_count ys f
  reordered_cycles f inside =
      let there : AreAmong ys (steps f ys) = steps_among f ys (λ x m. sym (same (f x)) ∙ inside x (same x ∙ m)) in
      let here : AreAmong xs (steps f ys) = EndsAre-weaker (is_member ◌==◌ ys) (is_member ◌==◌ xs) (λ x m. same x ∙ m) (steps f ys) there in
      same_parts xs (steps f xs) (steps f ys) (steps_among f xs inside) here
      (λ x y j. step_walks f xs (steps f ys) (λ u m. step_along f ys u (sym (same u) ∙ m)) j)
      (λ x y j. step_walks f ys (steps f xs) (λ u m. step_along f xs u (same u ∙ m)) j)
      ∙ same_names xs ys (steps f ys) here same

pair_walks : (xs ys : List ℕ) (turn f : ℕ → ℕ) → ((x : ℕ) → is_member ◌==◌ xs x ≡ true → is_member ◌==◌ ys x ≡ true) → {x y : ℕ} → Joined (pair_graph xs turn f) x y → Joined (pair_graph ys turn f) x y
pair_walks xs ys turn f sub j =
    let fs = pair_graph ys turn f in
    walks (pair_graph xs turn f) fs
    (λ u v c. ⊎_elim
    (λ l. let r = step_of f xs u v l in
    on (walks (steps f ys) fs (λ a b d. along (Contains-append_left (steps f ys) (steps turn ys) (a, b) d)) (step_along f ys u (sub u r.0))) (equal_joined fs (f u) v r.1))
    (λ l. let r = step_of turn xs u v l in
    on (walks (steps turn ys) fs (λ a b d. along (Contains-append_right (steps f ys) (steps turn ys) (a, b) d)) (step_along turn ys u (sub u r.0))) (equal_joined fs (turn u) v r.1))
    (Contains-append_cases (steps f xs) (steps turn xs) (u, v) c)) j

module _ (xs ys : List ℕ) (same : (x : ℕ) → is_member ◌==◌ xs x ≡ is_member ◌==◌ ys x) where
  pub reordered_pieces : (turn f : ℕ → ℕ) → ((x : ℕ) → is_member ◌==◌ xs x ≡ true → is_member ◌==◌ xs (f x) ≡ true) → ((x : ℕ) → is_member ◌==◌ xs x ≡ true → is_member ◌==◌ xs (turn x) ≡ true) →
      part_count xs (pair_graph xs turn f) ≡ part_count ys (pair_graph ys turn f)
  reordered_pieces turn f inside turns =
      let there : AreAmong ys (pair_graph ys turn f) =
      EndsAre-append (is_member ◌==◌ ys) (steps f ys) (steps turn ys) (steps_among f ys (λ x m. sym (same (f x)) ∙ inside x (same x ∙ m))) (steps_among turn ys (λ x m. sym (same (turn x)) ∙ turns x (same x ∙ m))) in
      let here : AreAmong xs (pair_graph ys turn f) = EndsAre-weaker (is_member ◌==◌ ys) (is_member ◌==◌ xs) (λ x m. same x ∙ m) (pair_graph ys turn f) there in
      same_parts xs (pair_graph xs turn f) (pair_graph ys turn f) (EndsAre-append (is_member ◌==◌ xs) (steps f xs) (steps turn xs) (steps_among f xs inside) (steps_among turn xs turns)) here
      (λ x y j. pair_walks xs ys turn f (λ u m. sym (same u) ∙ m) j)
      (λ x y j. pair_walks ys xs turn f (λ u m. same u ∙ m) j)
      ∙ same_names xs ys (pair_graph ys turn f) here same

module _ (items : List Item) (e : ℕ) (sign : Sign) (pd : IsPairedDiagram items) (there : is_member ◌==◌ (crossing_labels items) e ≡ true) where
  abbrev ls : List ℕ
  ls = place_labels items

  abbrev n : ℕ
  n = length ls

  abbrev p : ℕ
  p = first_place_of ls e

  abbrev q : ℕ
  q = second_place items e

  abbrev m : ℕ
  m = fresh items

  abbrev g : ℕ → ℕ → ℕ
  g = λ x label. cond (x == second_place items e) (fresh items + 1) label

  abbrev slots : List ℕ
  slots = curl_slots e (m + 1) m sign

  abbrev moved : List Item
  moved = at_places g 0 items ++ item.X slots ∷ []

  abbrev new : List ℕ
  new = place_labels moved

  new_is : new ≡ map_from g 0 ls ++ slots
  new_is =
      place_labels_are moved ∙ crossing_labels-append (at_places g 0 items) (item.X slots ∷ [])
      ∙ ap (λ ns. ns ++ (slots ++ [])) (crossing_labels-at_places g 0 items)
      ∙ ap (λ ns. map_from g 0 (crossing_labels items) ++ ns) (append-nil slots)
      ∙ ap (λ ns. map_from g 0 ns ++ slots) (sym (place_labels_are items))

  front_long : length (map_from g 0 ls) ≡ n
  front_long = length-map_from g 0 ls

  first_is : (p < n) × (slice_index ls p ≡ e)
  first_is = first_place_has ls e (ap (λ ns. is_member ◌==◌ ns e) (place_labels_are items) ∙ there)

  pairing : IsPairing n (other_place ls)
  pairing = paired_places items pd

  old_label : (x : ℕ) → x < n → slice_index new x ≡ g x (slice_index ls x)
  old_label x l =
      ap (λ ns. slice_index ns x) new_is ∙ get_front (map_from g 0 ls) slots x (omega (arith, l, front_long)) ∙ slice_index-map_from g 0 ls x l
      ∙ ap (λ z. g z (slice_index ls x)) (let u : 0 + x ≡ x = omega arith in u)

  new_label : (i : ℕ) → slice_index new (n + i) ≡ slice_index slots i
  new_label i =
      ap (λ ns. slice_index ns (n + i)) new_is ∙ ap (λ k. slice_index (map_from g 0 ls ++ slots) (k + i)) (sym front_long) ∙ slice_index-skip (map_from g 0 ls) slots i

  kept_label : (x : ℕ) → x < n → x ≢ q → slice_index new x ≡ slice_index ls x
  kept_label x l ne = old_label x l ∙ (let u : cond (x == q) (m + 1) (slice_index ls x) ≡ slice_index ls x = grind (arith, nat_tests, ne) in u)

  q_low : q < n
  q_low = pairing.low p first_is.0

  p_label : slice_index new p ≡ e
  p_label = kept_label p first_is.0 (λ u. pairing.apart p first_is.0 (sym u)) ∙ first_is.1

  q_label : slice_index new q ≡ m + 1
  q_label = old_label q q_low ∙ (let t = eq-eqb q q refl in ap (λ b. cond b (m + 1) (slice_index ls q)) t)

  new_name : (i : ℕ) → is_member ◌==◌ (all_places items) (n + i) ≡ false
  new_name i = ⊎_elim (λ t. absurd (let l = in_range n (n + i) t in omega (arith, l))) (λ f. f) (cases_Bool (is_member ◌==◌ (all_places items) (n + i)))

  module _ (pd2 : IsPairedDiagram moved) (long : length new ≡ n + 4) where
    drawn_is : (x y : ℕ) → x < n + 4 → y < n + 4 → x ≢ y → slice_index new x ≡ slice_index new y → other_place new x ≡ y
    drawn_is x y lx ly ne same = let hx : x < length new = omega (arith, lx, long) in other_is new x y hx (omega (arith, ly, long)) ne same (label_twice moved pd2 x hx)

    kept_other : (x : ℕ) → is_member ◌==◌ (all_places items) x ≡ true → x ≢ p → x ≢ q → other_place new x ≡ other_place ls x
    kept_other x mem np nq =
        let l = in_range n x mem in
        let o = other_place ls x in
        let lo = pairing.low x l in
        let tw = pairing.twice x l in
        let ox : o ≢ q = λ u. np (sym tw ∙ (ap (other_place ls) u ∙ pairing.twice p first_is.0)) in
        drawn_is x o (omega (arith, l)) (omega (arith, lo)) (λ u. pairing.apart x l (sym u)) (kept_label x l nq ∙ sym (other_place_of ls x l).1 ∙ sym (kept_label o lo ox))

    four : n ≡ 4 * length (crossings_of items)
    four = long_is items pd

    turn_inside : (x : ℕ) → is_member ◌==◌ (all_places items) x ≡ true → is_member ◌==◌ (all_places items) (next_slot x) ≡ true
    turn_inside x mem = let l = in_range n x mem in range_has n (next_slot x) (omega (arith, l, four))

    other_inside : (x : ℕ) → is_member ◌==◌ (all_places items) x ≡ true → is_member ◌==◌ (all_places items) (other_place ls x) ≡ true
    other_inside x mem = range_has n (other_place ls x) (pairing.low x (in_range n x mem))

    t0 : next_slot (n + 0) ≡ n + 1
    t0 = omega (arith, four)

    t1 : next_slot (n + 1) ≡ n + 2
    t1 = omega (arith, four)

    t2 : next_slot (n + 2) ≡ n + 3
    t2 = omega (arith, four)

    t3 : next_slot (n + 3) ≡ n + 0
    t3 = omega (arith, four)

    -- the counts, for the ends and names of either sign
    counts : (u v a b c d : ℕ) → IsCurl (all_places items) next_slot (other_place ls) (other_place new) u v a b c d → ((x : ℕ) → is_member ◌==◌ (a ∷ b ∷ c ∷ d ∷ all_places items) x ≡ is_member ◌==◌ (all_places moved) x) →
        IsPlanar item_slots items ↔ IsPlanar item_slots moved
    counts u v a b c d is same =
        let r = curl_counts (all_places items) next_slot (other_place ls) (other_place new) u v a b c d is in
        let xs = a ∷ b ∷ c ∷ d ∷ all_places items in
        let ys = all_places moved in
        let long2 = long_is moved pd2 in
        let pairs = paired_places moved pd2 in
        let to_other : (x : ℕ) → is_member ◌==◌ xs x ≡ true → is_member ◌==◌ xs (other_place new x) ≡ true = λ x mem. same (other_place new x) ∙ range_has (length new) (other_place new x) (pairs.low x (in_range (length new) x (sym (same x) ∙ mem))) in
        let to_turn : (x : ℕ) → is_member ◌==◌ xs x ≡ true → is_member ◌==◌ xs (next_slot x) ≡ true = λ x mem. (let l = in_range (length new) x (sym (same x) ∙ mem) in same (next_slot x) ∙ range_has (length new) (next_slot x) (omega (arith, l, long2))) in
        let faces = r.0 in
        let pieces = r.1 in
        let f2 = reordered_cycles xs ys same (along_face moved) (λ x mem. to_turn (other_place new x) (to_other x mem)) in
        let k2 = reordered_pieces xs ys same next_slot (other_place new) to_other to_turn in
        let one = planar_form items pd in
        let two = planar_form moved pd2 in (
          (λ h. let w = one.0 h in two.1 (omega (arith, w, faces, pieces, f2, k2, long, long2, four))),
          (λ h. let w = two.0 h in one.1 (omega (arith, w, faces, pieces, f2, k2, long, long2, four))),
        )

-- ---- membership of a list that is written out
here_is : (a x : ℕ) (rest : List ℕ) → x ≡ a → is_member ◌==◌ (a ∷ rest) x ≡ true
here_is a x rest e = or_left (x == a) (is_member ◌==◌ rest x) (eq-eqb x a e)

later_is : (a x : ℕ) (rest : List ℕ) → is_member ◌==◌ rest x ≡ true → is_member ◌==◌ (a ∷ rest) x ≡ true
later_is a x rest h = or_right (x == a) (is_member ◌==◌ rest x) h

-- four names more, in any order
four_more : (n k a b c d : ℕ) → k ≡ n + 4 → a < k → b < k → c < k → d < k →
    ((x : ℕ) → x < k → (x < n → ⊥) → (x ≢ a) → (x ≢ b) → (x ≢ c) → x ≡ d) →
    (x : ℕ) → is_member ◌==◌ (a ∷ b ∷ c ∷ d ∷ range_with_len 0 n) x ≡ is_member ◌==◌ (range_with_len 0 k) x
four_more n k a b c d e la lb lc ld last x =
    let rest = range_with_len 0 n in
    bool_from_iff (is_member ◌==◌ (a ∷ b ∷ c ∷ d ∷ rest) x) (is_member ◌==◌ (range_with_len 0 k) x)
    (λ m0. range_has k x
    (⊎_elim (λ t. let s = eqb-true x a t in omega (arith, s, la)) (λ m1.
    ⊎_elim (λ t. let s = eqb-true x b t in omega (arith, s, lb)) (λ m2.
    ⊎_elim (λ t. let s = eqb-true x c t in omega (arith, s, lc)) (λ m3.
    ⊎_elim (λ t. let s = eqb-true x d t in omega (arith, s, ld)) (λ m4. let l = in_range n x m4 in omega (arith, l, e))
    (or_cases (x == d) (is_member ◌==◌ rest x) m3))
    (or_cases (x == c) (is_member ◌==◌ (d ∷ rest) x) m2))
    (or_cases (x == b) (is_member ◌==◌ (c ∷ d ∷ rest) x) m1))
    (or_cases (x == a) (is_member ◌==◌ (b ∷ c ∷ d ∷ rest) x) m0)))
    (λ m.
    let l = in_range k x m in
    ⊎_elim (λ t. here_is a x (b ∷ c ∷ d ∷ rest) (eqb-true x a t)) (λ na. later_is a x (b ∷ c ∷ d ∷ rest)
    (⊎_elim (λ t. here_is b x (c ∷ d ∷ rest) (eqb-true x b t)) (λ nb. later_is b x (c ∷ d ∷ rest)
    (⊎_elim (λ t. here_is c x (d ∷ rest) (eqb-true x c t)) (λ nc. later_is c x (d ∷ rest)
    (⊎_elim (λ t. later_is d x rest t)
    (λ out. here_is d x rest (last x l
    (λ low. let h = range_has n x low in grind (arith, h, out))
    (λ s. let h = eq-eqb x a s in grind (arith, h, na))
    (λ s. let h = eq-eqb x b s in grind (arith, h, nb))
    (λ s. let h = eq-eqb x c s in grind (arith, h, nc))))
    (cases_Bool (is_member ◌==◌ rest x))))
    (cases_Bool (x == c))))
    (cases_Bool (x == b))))
    (cases_Bool (x == a)))

module _ (items : List Item) (e : ℕ) (pd : IsPairedDiagram items) (there : is_member ◌==◌ (crossing_labels items) e ≡ true) where
  abbrev size : ℕ
  size = length (place_labels items)

  long_of : (sign : Sign) → length (slots items e sign pd there) ≡ 4 → length (new items e sign pd there) ≡ size + 4
  long_of sign h =
      let a = ap length (new_is items e sign pd there) in
      let b = length-append (map_from (g items e sign pd there) 0 (place_labels items)) (slots items e sign pd there) in
      let c = front_long items e sign pd there in
      omega (arith, a, b, c, h)

  -- the curl of a sign, at the ends u and v of its edge: u is joined to the slot i of the new crossing, v to the slot j behind it, and the
  -- slots k and l that follow to each other
  record IsRound (s : Sign) (u v i j k l : ℕ) : Type 0 where
    low_u : u < size
    low_v : v < size
    to_v : other_place (place_labels items) u ≡ v
    to_u : other_place (place_labels items) v ≡ u
    slots_are : (i < 4) × (j < 4) × (k < 4) × (l < 4)
    follow : (next_slot (size + i) ≡ size + j) × (next_slot (size + j) ≡ size + k) × (next_slot (size + k) ≡ size + l) × (next_slot (size + l) ≡ size + i)
    differ : (i ≢ j) × (i ≢ k) × (i ≢ l) × (j ≢ k) × (j ≢ l) × (k ≢ l)
    all_four : (w : ℕ) → w < 4 → w ≢ i → w ≢ j → w ≢ k → w ≡ l
    label_u : slice_index (new items e s pd there) u ≡ slice_index (slots items e s pd there) i
    label_v : slice_index (new items e s pd there) v ≡ slice_index (slots items e s pd there) j
    label_k : slice_index (slots items e s pd there) k ≡ slice_index (slots items e s pd there) l
    kept : (x : ℕ) → is_member ◌==◌ (all_places items) x ≡ true → x ≢ u → x ≢ v → other_place (new items e s pd there) x ≡ other_place (place_labels items) x

  module _ (s : Sign) (pd2 : IsPairedDiagram (moved items e s pd there)) (long : length (new items e s pd there) ≡ size + 4) (u v i j k l : ℕ) (is : IsRound s u v i j k l) where
    far : (a b : ℕ) → a ≢ b → size + a ≢ size + b
    far a b ne h = ne (omega (arith, h))

    -- an end of the edge and the slot that it is joined to
    joined : (x w : ℕ) → x < size → w < 4 → slice_index (new items e s pd there) x ≡ slice_index (slots items e s pd there) w →
        (other_place (new items e s pd there) x ≡ size + w) × (other_place (new items e s pd there) (size + w) ≡ x)
    joined x w low four same =
        let label = same ∙ sym (new_label items e s pd there w) in (
          drawn_is items e s pd there pd2 long x (size + w) (omega (arith, low)) (omega (arith, four)) (omega (arith, low)) label,
          drawn_is items e s pd there pd2 long (size + w) x (omega (arith, four)) (omega (arith, low)) (λ h. omega (arith, low, h)) (sym label),
        )

    looped : (w z : ℕ) → w < 4 → z < 4 → w ≢ z → slice_index (slots items e s pd there) w ≡ slice_index (slots items e s pd there) z → other_place (new items e s pd there) (size + w) ≡ size + z
    looped w z lw lz ne same =
        drawn_is items e s pd there pd2 long (size + w) (size + z) (omega (arith, lw)) (omega (arith, lz)) (far w z ne) (new_label items e s pd there w ∙ (same ∙ sym (new_label items e s pd there z)))

    is_curl : IsCurl (all_places items) next_slot (other_place (place_labels items)) (other_place (new items e s pd there)) u v (size + i) (size + j) (size + k) (size + l)
    is_curl =
        let to_i = joined u i is.low_u is.slots_are.0 is.label_u in
        let to_j = joined v j is.low_v is.slots_are.1 is.label_v in
        record {
          has_p = range_has size u is.low_u;
          has_q = range_has size v is.low_v;
          pq = is.to_v;
          qp = is.to_u;
          turn_in = turn_inside items e s pd there pd2 long;
          other_in = other_inside items e s pd there pd2 long;
          new_a = new_name items e s pd there i;
          new_b = new_name items e s pd there j;
          new_c = new_name items e s pd there k;
          new_d = new_name items e s pd there l;
          distinct = (far i j is.differ.0, far i k is.differ.1, far i l is.differ.2, far j k is.differ.3, far j l is.differ.4, far k l is.differ.5);
          ta = is.follow.0;
          tb = is.follow.1;
          tc = is.follow.2;
          td = is.follow.3;
          dp = to_i.0;
          da = to_i.1;
          dq = to_j.0;
          db = to_j.1;
          dc = looped k l is.slots_are.2 is.slots_are.3 is.differ.5 is.label_k;
          dd = looped l k is.slots_are.3 is.slots_are.2 (λ h. is.differ.5 (sym h)) (sym is.label_k);
          kept = is.kept;
        }

    -- a place that is none of the old ones, nor the first three of the new ones, is the fourth
    fourth : (x : ℕ) → x < length (new items e s pd there) → (x < size → ⊥) → x ≢ size + i → x ≢ size + j → x ≢ size + k → x ≡ size + l
    fourth x low high ni nj nk = ⊎_elim (λ t. absurd (high (ltb-true x size t)))
        (λ t.
        let from : size ≤ x = grind (arith, nat_tests, t) in
        let w = is.all_four (x - size) (omega (arith, low, long, from)) (λ h. ni (omega (arith, h, from))) (λ h. nj (omega (arith, h, from))) (λ h. nk (omega (arith, h, from))) in
        omega (arith, w, from))
        (cases_Bool (ltb x size))

    round_planar : IsPlanar item_slots items ↔ IsPlanar item_slots (moved items e s pd there)
    round_planar =
        let f = is.slots_are in
        counts items e s pd there pd2 long u v (size + i) (size + j) (size + k) (size + l) is_curl
        (four_more size (length (new items e s pd there)) (size + i) (size + j) (size + k) (size + l) long (omega (arith, long, f)) (omega (arith, long, f)) (omega (arith, long, f)) (omega (arith, long, f)) fourth)

  plus_planar : IsPairedDiagram (moved items e signs.Plus pd there) → IsPlanar item_slots items ↔ IsPlanar item_slots (moved items e signs.Plus pd there)
  plus_planar pd2 =
      let s = signs.Plus in
      let long = long_of s refl in
      round_planar s pd2 long (p items e s pd there) (q items e s pd there) 0 1 2 3
      record {
        low_u = (first_is items e s pd there).0;
        low_v = q_low items e s pd there;
        to_v = refl;
        to_u = (pairing items e s pd there).twice (p items e s pd there) (first_is items e s pd there).0;
        slots_are = (omega arith, omega arith, omega arith, omega arith);
        follow = (t0 items e s pd there pd2 long, t1 items e s pd there pd2 long, t2 items e s pd there pd2 long, t3 items e s pd there pd2 long);
        differ = (omega arith, omega arith, omega arith, omega arith, omega arith, omega arith);
        all_four = λ w l a b c. omega (arith, l, a, b, c);
        label_u = p_label items e s pd there;
        label_v = q_label items e s pd there;
        label_k = refl;
        kept = kept_other items e s pd there pd2 long;
      }

  -- the other sign turns the crossing by a slot, and exchanges the ends
  minus_planar : IsPairedDiagram (moved items e signs.Minus pd there) → IsPlanar item_slots items ↔ IsPlanar item_slots (moved items e signs.Minus pd there)
  minus_planar pd2 =
      let s = signs.Minus in
      let long = long_of s refl in
      round_planar s pd2 long (q items e s pd there) (p items e s pd there) 3 0 1 2
      record {
        low_u = q_low items e s pd there;
        low_v = (first_is items e s pd there).0;
        to_v = (pairing items e s pd there).twice (p items e s pd there) (first_is items e s pd there).0;
        to_u = refl;
        slots_are = (omega arith, omega arith, omega arith, omega arith);
        follow = (t3 items e s pd there pd2 long, t0 items e s pd there pd2 long, t1 items e s pd there pd2 long, t2 items e s pd there pd2 long);
        differ = (omega arith, omega arith, omega arith, omega arith, omega arith, omega arith);
        all_four = λ w l a b c. omega (arith, l, a, b, c);
        label_u = q_label items e s pd there;
        label_v = p_label items e s pd there;
        label_k = refl;
        kept = (λ x mem np nq. kept_other items e s pd there pd2 long x mem nq np);
      }

  sign_planar : (sign : Sign) → IsPairedDiagram (moved items e sign pd there) → IsPlanar item_slots items ↔ IsPlanar item_slots (moved items e sign pd there)
  sign_planar signs.Plus pd2 = plus_planar pd2
  sign_planar signs.Minus pd2 = minus_planar pd2

  -- the result of the step
  result_is : (sign : Sign) (after : Moved) → move items (Curl e sign) ≡ Ok after → after.items ≡ moved items e sign pd there
  result_is sign after h =
      let n = fresh items in
      let on_loop = curled_loop e (curl_slots e e n sign) items in
      let on_edge = moved items e sign pd there in
      let h1 = unless_Ok (not (is_edge items e)) (NoEdge e) _ after h in
      let out : is_loop items e ≡ false = ap not there in
      ap (λ (w : Moved). w.items) (finished_Ok (curl_of sign) on_edge after (sym (ap (λ z. finished (curl_of sign) (cond z on_loop on_edge)) out) ∙ h1.1))

pub curl_planar : CurlPlanarLaw
curl_planar items e sign after pd there h =
    let is = result_is items e pd there sign after h in
    let P : List Item → Type 0 = λ (w : List Item). IsPairedDiagram w in
    let Q : List Item → Type 0 = λ (w : List Item). IsPlanar item_slots items ↔ IsPlanar item_slots w in
    subst Q (sym is) (sign_planar items e pd there sign (subst P is (paired_again items (Curl e sign) after pd h)))
