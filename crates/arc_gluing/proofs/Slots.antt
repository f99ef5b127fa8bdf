-- The facts of a seam, read at slots: no two slots tell one name, and the slots that are left are those that stand once.
use Rattle.std.proofs.Common.{◌≡◌, ℕ, zero, suc, ◌+◌, ◌<◌, true, false, cond, not, ◌==◌, ⊎_elim, List, [], ◌∷◌, ◌++◌, map, length, slice_index, refl, sym, ap, ◌∙◌, arith, length-append}
use Rattle.std.specs.List.{range_with_len}
use Rattle.std.specs.List.Sorted.{IsStrictlyIncreasing}
use Rattle.std.specs.Set.{is_member}
use Rattle.std.proofs.lemmas.Bool.{eq-eqb, eqb-true, cases_Bool, or_left, or_right, or_cases}
use Rattle.std.proofs.lemmas.Bool.Decides.{nat_tests}
use Rattle.std.proofs.lemmas.List.{get_or-map, length-map, map-append}
use Rattle.std.proofs.lemmas.List.FromFn.{length-range_with_len, get_or-range_with_len}
use Rattle.std.proofs.lemmas.List.Sums.{sum_by-cons}
use Rattle.graph_parts.proofs.Counting.{is_member-map}
use Rattle.graph_parts.proofs.Distinct.{is_member-append}
use Rattle.graph_parts.proofs.Ends.{is_member-get_or}
use Rattle.graph_parts.proofs.Numbered.{is_member-numbered, numbered-member}
use Rattle.list_lemmas.specs.Times.{times_in}
use Rattle.arc_gluing.specs.Seams.{place_in, AreOpenBehind, AreSlots, IsSeam}
use Rattle.list_lemmas.proofs.Times.{times_of_member, member_of_times, times_in-append, times_none}
use Rattle.list_lemmas.proofs.Items.{member_at, same_items, get_front}
use Rattle.arc_gluing.proofs.OneEdge.{same_or_not}
use Rattle.arc_gluing.proofs.Places.{first_place}

-- of increasing numbers each is below all later ones
pub increases : (xs : List ℕ) → IsStrictlyIncreasing xs → (i j : ℕ) → i < j → j < length xs → slice_index xs i < slice_index xs j
increases xs up i zero l m = absurd (omega arith)
increases xs up i (suc j) l m =
    let next : j + 1 ≡ suc j = omega arith in
    let step = up j (omega (arith, m)) in
    let same = ap (slice_index xs) next in
    same_or_not i j
    (λ e. let f = ap (slice_index xs) e in omega (arith, f, step, same))
    (λ d. let ih = increases xs up i j (omega (arith, d, l)) (omega (arith, m)) in omega (arith, ih, step, same))

-- a member stands at its first place
pub found_in : (xs : List ℕ) (x : ℕ) → is_member ◌==◌ xs x ≡ true → (place_in xs x < length xs) × (slice_index xs (place_in xs x) ≡ x)
found_in [] x m = absurd (grind (arith, m))
found_in (y ∷ xs) x m =
    ⊎_elim
    (λ t.
    let e : place_in (y ∷ xs) x ≡ 0 = ap (λ b. cond (not b) (1 + place_in xs x) 0) t in
    (omega (arith, e), ap (slice_index (y ∷ xs)) e ∙ sym (eqb-true x y t)))
    (λ f.
    let e : place_in (y ∷ xs) x ≡ suc (place_in xs x) = ap (λ b. cond (not b) (1 + place_in xs x) 0) f ∙ omega arith in
    let ih = found_in xs x (⊎_elim (λ t. absurd (let g = f in let s = t in grind (arith, g, s))) (λ n. n) (or_cases (x == y) (is_member ◌==◌ xs x) m)) in
    (let w = ih.0 in omega (arith, e, w), ap (slice_index (y ∷ xs)) e ∙ ih.1))
    (cases_Bool (x == y))

-- mapped one to one, a number stands as often as its image
times_in-map : (f g : ℕ → ℕ) (xs : List ℕ) (x : ℕ) → ((y : ℕ) → is_member ◌==◌ xs y ≡ true → g (f y) ≡ y) → g (f x) ≡ x → times_in (map f xs) (f x) ≡ times_in xs x
times_in-map f g [] x h k = refl
times_in-map f g (y ∷ xs) x h k =
    let ih = times_in-map f g xs x (λ z m. h z (or_right (z == y) (is_member ◌==◌ xs z) m)) k in
    let a = sum_by-cons (λ z. cond (f x == z) 1 0) (f y) (map f xs) in
    let b = sum_by-cons (λ z. cond (x == z) 1 0) y xs in
    let there = h y (or_left (y == y) (is_member ◌==◌ xs y) (eq-eqb y y refl)) in
    let same : f x ≡ f y → x ≡ y = λ e. sym k ∙ ap g e ∙ there in
    let back : x ≡ y → f x ≡ f y = λ e. ap f e in
    grind (arith, nat_tests, ih, a, b, same, back)

module _ (names ends left end_slots left_slots places : List ℕ) (h : IsSeam names ends left end_slots left_slots places) where
  abbrev all : List ℕ
  all = names ++ ends

  abbrev slot : ℕ → ℕ
  slot = place_in (names ++ ends)

  abbrev name_at : ℕ → ℕ
  name_at = slice_index (names ++ ends)

  abbrev range : List ℕ
  range = range_with_len 0 (length names)

  abbrev slots : List ℕ
  slots = range_with_len 0 (length names) ++ end_slots

  slot_own : (i : ℕ) → i < length names → place_in (names ++ ends) (slice_index (names ++ ends) i) ≡ i
  slot_own i l =
      let long = length-append names ends in
      first_place (λ y. slice_index (names ++ ends) i == y) (names ++ ends) i (omega (arith, long, l)) (eq-eqb (slice_index (names ++ ends) i) (slice_index (names ++ ends) i) refl)
      (λ k m. let a = get_front names ends i l in let b = get_front names ends k (omega (arith, m, l)) in
      let up = h.apart k i m l in
      grind (arith, nat_tests, a, b, up))

  ends_long : length end_slots ≡ length ends
  ends_long = ap length h.ends_at ∙ length-map ends slot

  end_slot_at : (j : ℕ) → j < length ends → slice_index end_slots j ≡ place_in (names ++ ends) (slice_index ends j)
  end_slot_at j l = ap (λ xs. slice_index xs j) h.ends_at ∙ get_or-map slot ends j 0 0 l

  end_member : (j : ℕ) → j < length ends → is_member ◌==◌ (names ++ ends) (slice_index ends j) ≡ true
  end_member j l = is_member-append names ends (slice_index ends j) ∙ or_right (is_member ◌==◌ names (slice_index ends j)) (is_member ◌==◌ ends (slice_index ends j)) (is_member-get_or ends j l)

  slot_member : (x : ℕ) → is_member ◌==◌ (names ++ ends) x ≡ true → is_member ◌==◌ (range_with_len 0 (length names) ++ end_slots) (place_in (names ++ ends) x) ≡ true
  slot_member x m =
      ⊎_elim
      (λ t.
      let at = member_at names x t in
      let e : place_in (names ++ ends) x ≡ at.0 = ap slot (sym at.2 ∙ sym (get_front names ends at.0 at.1)) ∙ slot_own at.0 at.1 in
      is_member-append range end_slots (slot x)
      ∙ or_left (is_member ◌==◌ range (slot x)) (is_member ◌==◌ end_slots (slot x)) (ap (is_member ◌==◌ range) e ∙ is_member-numbered (length names) at.0 at.1))
      (λ t.
      is_member-append range end_slots (slot x)
      ∙ or_right (is_member ◌==◌ range (slot x)) (is_member ◌==◌ end_slots (slot x)) (ap (λ xs. is_member ◌==◌ xs (slot x)) h.ends_at ∙ is_member-map slot ends x t))
      (or_cases (is_member ◌==◌ names x) (is_member ◌==◌ ends x) (sym (is_member-append names ends x) ∙ m))

  slot_again : (u : ℕ) → is_member ◌==◌ (range_with_len 0 (length names) ++ end_slots) u ≡ true → place_in (names ++ ends) (slice_index (names ++ ends) u) ≡ u
  slot_again u m =
      ⊎_elim
      (λ t. slot_own u (numbered-member (length names) u t))
      (λ t.
      let at = member_at end_slots u t in
      let l : at.0 < length ends = (let w = ends_long in let k = at.1 in omega (arith, w, k)) in
      let e : place_in (names ++ ends) (slice_index ends at.0) ≡ u = sym (end_slot_at at.0 l) ∙ at.2 in
      ap (λ v. slot (name_at v)) (sym e) ∙ ap slot ((found_in (names ++ ends) (slice_index ends at.0) (end_member at.0 l)).1) ∙ e)
      (or_cases (is_member ◌==◌ range u) (is_member ◌==◌ end_slots u) (sym (is_member-append range end_slots u) ∙ m))

  named_ends : map (slice_index (names ++ ends)) end_slots ≡ ends
  named_ends =
      let long = length-map end_slots name_at in
      same_items (map name_at end_slots) ends (long ∙ ends_long)
      (λ j l. let w = ends_long in let k : j < length ends = omega (arith, long, w, l) in
      get_or-map name_at end_slots j 0 0 (omega (arith, w, k)) ∙ ap name_at (end_slot_at j k) ∙ (found_in (names ++ ends) (slice_index ends j) (end_member j k)).1)

  -- THE SLOTS OF A SEAM
  pub slots_are : AreSlots names ends end_slots
  slots_are = record {
    whole = ends_long;
    within = λ j l. let e = end_slot_at j l in let k = (found_in (names ++ ends) (slice_index ends j) (end_member j l)).0 in let long = length-append names ends in omega (arith, e, k, long);
    named = named_ends;
    apart = λ u v p q e. sym (slot_again u p) ∙ ap slot e ∙ slot_again v q;
  }

  left_member : (x : ℕ) → is_member ◌==◌ left x ≡ true → is_member ◌==◌ (names ++ ends) x ≡ true
  left_member x m = let t = times_of_member x left m in let c = h.left_open.once x in member_of_times x (names ++ ends) (grind (arith, nat_tests, t, c))

  pub left_long : length left_slots ≡ length left
  left_long = ap length h.left_at ∙ length-map left slot

  left_slot_at : (k : ℕ) → k < length left → slice_index left_slots k ≡ place_in (names ++ ends) (slice_index left k)
  left_slot_at k l = ap (λ xs. slice_index xs k) h.left_at ∙ get_or-map slot left k 0 0 l

  -- THE NAMES THAT ARE LEFT, AT THEIR SLOTS
  pub left_named : map (slice_index (names ++ ends)) left_slots ≡ left
  left_named =
      let long = length-map left_slots name_at in
      same_items (map name_at left_slots) left (long ∙ left_long)
      (λ k l. let w = left_long in let kl : k < length left = omega (arith, long, w, l) in
      get_or-map name_at left_slots k 0 0 (omega (arith, w, kl)) ∙ ap name_at (left_slot_at k kl) ∙ (found_in (names ++ ends) (slice_index left k) (left_member (slice_index left k) (is_member-get_or left k kl))).1)

  left_slot_member : (u : ℕ) → is_member ◌==◌ left_slots u ≡ true → is_member ◌==◌ (range_with_len 0 (length names) ++ end_slots) u ≡ true
  left_slot_member u m =
      let at = member_at left_slots u m in
      let l : at.0 < length left = (let w = left_long in let k = at.1 in omega (arith, w, k)) in
      let e : place_in (names ++ ends) (slice_index left at.0) ≡ u = sym (left_slot_at at.0 l) ∙ at.2 in
      ap (is_member ◌==◌ slots) (sym e) ∙ slot_member (slice_index left at.0) (left_member (slice_index left at.0) (is_member-get_or left at.0 l))

  pub range_named : map (slice_index (names ++ ends)) (range_with_len 0 (length names)) ≡ names
  range_named =
      let n = length-range_with_len 0 (length names) in
      let long = length-map range name_at in
      same_items (map name_at range) names (long ∙ n)
      (λ i l. let il : i < length names = omega (arith, long, n, l) in
      get_or-map name_at range i 0 0 (omega (arith, n, il)) ∙ ap name_at (get_or-range_with_len 0 (length names) i 0 il ∙ omega arith) ∙ get_front names ends i il)

  all_named : map (slice_index (names ++ ends)) (range_with_len 0 (length names) ++ end_slots) ≡ names ++ ends
  all_named = map-append name_at range end_slots ∙ (let a = range_named in let b = named_ends in cc (a, b))

  times_slot : (u : ℕ) → is_member ◌==◌ (range_with_len 0 (length names) ++ end_slots) u ≡ true → times_in (range_with_len 0 (length names) ++ end_slots) u ≡ times_in (names ++ ends) (slice_index (names ++ ends) u)
  times_slot u m = sym (times_in-map name_at slot slots u slot_again (slot_again u m)) ∙ ap (λ xs. times_in xs (name_at u)) all_named

  times_left : (u : ℕ) → is_member ◌==◌ (range_with_len 0 (length names) ++ end_slots) u ≡ true → times_in left_slots u ≡ times_in left (slice_index (names ++ ends) u)
  times_left u m =
      sym (times_in-map name_at slot left_slots u (λ y k. slot_again y (left_slot_member y k)) (slot_again u m)) ∙ ap (λ xs. times_in xs (name_at u)) left_named

  -- WHAT IS LEFT, AT SLOTS
  pub slots_left : AreOpenBehind (range_with_len 0 (length names)) end_slots left_slots
  slots_left = record {
    few = λ u. let a = times_in-append range end_slots u in
        ⊎_elim
        (λ m. let t = times_slot u m in let f = h.few (name_at u) in omega (arith, a, t, f))
        (λ n. let z = times_none slots u n in omega (arith, a, z))
        (cases_Bool (is_member ◌==◌ slots u));
    once = λ u. let a = times_in-append range end_slots u in
        ⊎_elim
        (λ m. let t = times_slot u m in let l = times_left u m in let c = h.left_open.once (name_at u) in grind (arith, nat_tests, a, t, l, c))
        (λ n. let z = times_none slots u n in
        let k = left_slot_member u in
        let none : is_member ◌==◌ left_slots u ≡ false = ⊎_elim (λ t. let q = k t in absurd (grind (arith, q, n))) (λ t. t) (cases_Bool (is_member ◌==◌ left_slots u)) in
        let y = times_none left_slots u none in grind (arith, nat_tests, a, z, y))
        (cases_Bool (is_member ◌==◌ slots u));
  }
