-- The gluing at slots, told by names: the mates of the slots that are left give the partners by parts, and the loops are the
-- parts with no name that is left.
use Rattle.std.proofs.Common.{◌≡◌, ℕ, zero, suc, ◌+◌, ◌≤◌, ◌<◌, true, cond, ◌==◌, ⊎_elim, List, ◌++◌, map, length, slice_index, refl, sym, ap, subst, ◌∙◌, arith}
use Rattle.std.specs.Set.{is_member}
use Rattle.std.specs.List.{range_with_len}
use Rattle.std.proofs.lemmas.Bool.{or_cases}
use Rattle.std.proofs.lemmas.Bool.Decides.{nat_tests}
use Rattle.std.proofs.lemmas.List.{map-append}
use Rattle.std.proofs.lemmas.List.FromFn.{length-range_with_len, get_or-range_with_len}
use Rattle.graph_parts.proofs.Distinct.{is_member-append}
use Rattle.graph_parts.proofs.Ends.{is_member-get_or}
use Rattle.graph_parts.specs.Ends.{EndsAre, ends_of}
use Rattle.graph_parts.specs.Patterns.{label_closed}
use Rattle.graph_parts.specs.Renaming.{renamed}
use Rattle.state_sums.specs.Networks.{IsPairing}
use Rattle.std.proofs.Common.{not, nat_lt}
use Rattle.std.proofs.lemmas.Bool.{cases_Bool}
use Rattle.std.proofs.lemmas.List.Sums.{sum_by-cons}
use Rattle.graph_parts.specs.Labels.{label_of}
use Rattle.graph_parts.specs.Patterns.{closed_parts}
use Rattle.graph_parts.proofs.Numbered.{is_member-numbered, numbered-member}
use Rattle.graph_parts.proofs.PatternLabels.{closed_parts-labels}
use Rattle.arc_gluing.specs.Mates.{mates_after, loops_after, pairs_below, IsMated, IsPairedLabels}
use Rattle.arc_gluing.specs.Pairings.{pair_edges, IsPairedBy, partners_of}
use Rattle.arc_gluing.specs.Seams.{AreOpenBehind, AreSlots, IsSeam}
use Rattle.list_lemmas.specs.Times.{times_in}
use Rattle.arc_gluing.proofs.ByParts.{IsPairedBy-from_labels}
use Rattle.arc_gluing.proofs.Copied.{copied}
use Rattle.arc_gluing.proofs.Glued.{EndsAre-both, glued, loops-closed}
use Rattle.arc_gluing.proofs.GluingLaws.{one_pairing_by_parts, open_among}
use Rattle.list_lemmas.proofs.Times.{times_of_member, member_of_times, times_in-append}
use Rattle.arc_gluing.proofs.PointPairs.{times_in-pairs}
use Rattle.arc_gluing.proofs.SlotNames.{IsPairedLabels-named, label_closed-named, pair_edges-map}
use Rattle.arc_gluing.proofs.Slots.{slots_are, slots_left, left_long, left_named, range_named}
use Rattle.list_lemmas.proofs.Items.{below_member, member_at, all_below, all_pass_at}

-- each number of a range stands there once
pub range_times : (a n x : ℕ) → (times_in (range_with_len a n) x ≤ 1) × (x < a → times_in (range_with_len a n) x ≡ 0)
range_times a zero x = (omega arith, λ l. refl)
range_times a (suc n) x =
    let ih = range_times (a + 1) n x in
    let few = ih.0 in let none = ih.1 in
    let e = sum_by-cons (λ z. cond (x == z) 1 0) a (range_with_len (a + 1) n) in
    (grind (arith, nat_tests, few, none, e), λ l. grind (arith, nat_tests, few, none, e, l))

module _ (names ends left end_slots left_slots places old term : List ℕ) (h : IsSeam names ends left end_slots left_slots places)
    (po : IsPairing old) (pt : IsPairing term) (lo : length old ≡ length names) (lt : length term ≡ length ends) (mate : ℕ → ℕ)
    (at_old : (i : ℕ) → i < length names → mate i ≡ slice_index old i) (at_new : (x : ℕ) → length names ≤ x → x < 48 → mate x ≡ x) where
  abbrev range : List ℕ
  range = range_with_len 0 (length names)

  abbrev r : ℕ → ℕ
  r = slice_index (names ++ ends)

  abbrev rest : List (ℕ × ℕ)
  rest = pairs_below end_slots term (length term)

  abbrev slot_edges : List (ℕ × ℕ)
  slot_edges = pair_edges range old ++ pair_edges end_slots term

  abbrev edges : List (ℕ × ℕ)
  edges = pair_edges names old ++ pair_edges ends term

  slots : AreSlots names ends end_slots
  slots = slots_are names ends left end_slots left_slots places h

  is_left : AreOpenBehind (range_with_len 0 (length names)) end_slots left_slots
  is_left = slots_left names ends left end_slots left_slots places h

  range_len : length range ≡ length names
  range_len = length-range_with_len 0 (length names)

  range_at : (i : ℕ) → i < length names → slice_index (range_with_len 0 (length names)) i ≡ i
  range_at i l = get_or-range_with_len 0 (length names) i 0 l ∙ omega arith

  lo2 : length old ≡ length range
  lo2 = lo ∙ sym range_len

  lt2 : length term ≡ length end_slots
  lt2 = lt ∙ sym slots.whole

  end_small : (x : ℕ) → is_member ◌==◌ end_slots x ≡ true → x < 48
  end_small x m =
      let b = below_member (length names + length ends) end_slots (λ i l. slots.within i (let w = slots.whole in omega (arith, w, l))) x m in
      let f = h.few_names in let g = h.few_ends in omega (arith, b, f, g)

  single : (x : ℕ) → times_in (range_with_len 0 (length names)) x ≤ 1
  single x = (range_times 0 (length names) x).0

  start : IsMated (times_in (ends_of (pairs_below end_slots term (length term)) ++ left_slots)) mate (label_of (pairs_below (range_with_len 0 (length names)) old (length old)))
  start =
      copied range end_slots left_slots old rest po lo2 is_left (λ x. times_in-pairs end_slots term pt x lt2) single
      (λ i j p q e. let k = range_len in let a = range_at i (omega (arith, k, p)) in let b = range_at j (omega (arith, k, q)) in omega (arith, a, b, e))
      mate
      (λ i p. let k = range_len in let il : i < length names = omega (arith, k, p) in
      let w = po.within i (omega (arith, lo, il)) in
      ap mate (range_at i il) ∙ at_old i il ∙ sym (range_at (slice_index old i) (omega (arith, w, lo))))
      (λ x f p.
      at_new x
      (⊎_elim (λ t. let u = t in grind (arith, nat_tests, u)) (λ t. let u = t in let m = is_member-numbered (length names) x (grind (arith, nat_tests, u)) in absurd (grind (arith, m, f))) (cases_Bool (not (nat_lt x (length names)))))
      (end_small x (member_of_times x end_slots p)))

  at : (x : ℕ) → 1 ≤ times_in left_slots x → (slice_index places x < length left_slots) × (slice_index left_slots (slice_index places x) ≡ x)
  at x p =
      let m = member_at left_slots x (member_of_times x left_slots p) in
      let w = left_long names ends left end_slots left_slots places h in
      let k : slice_index places x ≡ m.0 = ap (slice_index places) (sym m.2) ∙ h.placed m.0 (let l = m.1 in omega (arith, l, w)) in
      (omega (arith, k, m.1), ap (slice_index left_slots) k ∙ m.2)

  abbrev pub partners : List ℕ
  partners = map (λ x. slice_index places (mates_after mate (pairs_below end_slots term (length term)) x)) left_slots

  by_slots : IsPairedLabels slot_edges left_slots partners
  by_slots =
      glued range end_slots left_slots old term po pt lo2 lt2 is_left single mate start (slice_index places)
      (λ k l. h.placed k (let w = left_long names ends left end_slots left_slots places h in omega (arith, w, l))) at

  loops_by_slots : loops_after mate rest ≡ label_closed slot_edges (range ++ end_slots) left_slots
  loops_by_slots = loops-closed range end_slots left_slots old term po pt lo2 lt2 is_left single mate start

  inside : EndsAre (is_member ◌==◌ (range ++ end_slots)) slot_edges
  inside = EndsAre-both range end_slots old term po pt lo2 lt2

  among : (i : ℕ) → i < length left_slots → is_member ◌==◌ (range ++ end_slots) (slice_index left_slots i) ≡ true
  among i l =
      let x = slice_index left_slots i in
      let a = times_of_member x left_slots (is_member-get_or left_slots i l) in let b = is_left.once x in let c = times_in-append range end_slots x in
      member_of_times x (range ++ end_slots) (grind (arith, nat_tests, a, b, c))

  pub left_small : (i : ℕ) → i < length left_slots → slice_index left_slots i < 48
  left_small i l =
      let x = slice_index left_slots i in
      ⊎_elim
      (λ t. let b = numbered-member (length names) x t in let f = h.few_names in omega (arith, b, f))
      (λ t. end_small x t)
      (or_cases (is_member ◌==◌ range x) (is_member ◌==◌ end_slots x) (sym (is_member-append range end_slots x) ∙ among i l))

  ranged : map (slice_index (names ++ ends)) (range_with_len 0 (length names)) ≡ names
  ranged = range_named names ends left end_slots left_slots places h

  left_is : map (slice_index (names ++ ends)) left_slots ≡ left
  left_is = left_named names ends left end_slots left_slots places h

  edges_named : map (renamed r) slot_edges ≡ pair_edges names old ++ pair_edges ends term
  edges_named =
      map-append (renamed r) (pair_edges range old) (pair_edges end_slots term)
      ∙ (let a = sym (pair_edges-map r range old (all_below (length range) old (λ i l. let k = po.within i l in let e = lo2 in omega (arith, k, e)))) ∙ ap (λ ns. pair_edges ns old) ranged in
      let b = sym (pair_edges-map r end_slots term (all_below (length end_slots) term (λ i l. let k = pt.within i l in let e = lt2 in omega (arith, k, e)))) ∙ ap (λ ns. pair_edges ns term) slots.named in
      cc (a, b))

  all_named : map r (range ++ end_slots) ≡ names ++ ends
  all_named = map-append r range end_slots ∙ (let a = ranged in let b = slots.named in cc (a, b))

  by_labels : IsPairedLabels (pair_edges names old ++ pair_edges ends term) left partners
  by_labels =
      let P : List (ℕ × ℕ) → Type 0 = λ es. IsPairedLabels es left partners in
      let Q : List ℕ → Type 0 = λ xs. IsPairedLabels (map (renamed r) slot_edges) xs partners in
      subst P edges_named (subst Q left_is (IsPairedLabels-named r (range ++ end_slots) slot_edges slots.apart inside left_slots partners among by_slots))

  loops_by_labels : loops_after mate rest ≡ label_closed edges (names ++ ends) left
  loops_by_labels =
      let k = label_closed-named r (range ++ end_slots) slot_edges slots.apart inside left_slots (all_pass_at (is_member ◌==◌ (range ++ end_slots)) left_slots among) in
      loops_by_slots ∙ sym k ∙ ap (λ es. label_closed es (map r (range ++ end_slots)) (map r left_slots)) edges_named
      ∙ ap (λ ns. label_closed edges ns (map r left_slots)) all_named
      ∙ ap (λ ns. label_closed edges (names ++ ends) ns) left_is

  -- THE GLUING, BY NAMES
  pub paired : IsPairedBy (pair_edges names old ++ pair_edges ends term) left partners
  paired = IsPairedBy-from_labels edges left partners by_labels

  pub partners_are : partners ≡ partners_of (names ++ ends) (pair_edges names old ++ pair_edges ends term) left
  partners_are = sym (one_pairing_by_parts (names ++ ends) left partners edges (EndsAre-both names ends old term po pt lo lt) h.left_open paired)

  pub loops : loops_after mate (pairs_below end_slots term (length term)) ≡ closed_parts (names ++ ends) (pair_edges names old ++ pair_edges ends term) left
  loops = loops_by_labels ∙ sym (closed_parts-labels (names ++ ends) edges (EndsAre-both names ends old term po pt lo lt) left (open_among (names ++ ends) left h.left_open))
