-- What gluing gives, told by labels alone: a list whose entries lead to names with the same label is the pairing that gluing
-- gives, and the closed parts are the labels that no name that is left has.
use Rattle.std.proofs.Common.{◌≡◌, ◌≢◌, ℕ, ◌-◌, ◌≤◌, ◌<◌, true, false, ◌==◌, ◌⊎◌, ⊎_elim, List, ◌∷◌, ◌++◌, map, length, slice_index, sym, ap, ◌∙◌, arith}
use Rattle.std.specs.Set.{is_member}
use Rattle.std.proofs.lemmas.Bool.{or_left, or_right, eq-eqb, cases_Bool}
use Rattle.std.proofs.lemmas.Bool.Decides.{nat_tests}
use Rattle.std.proofs.lemmas.List.{get_or-map, length-map}
use Rattle.std.proofs.lemmas.List.Elements.{All-cons}
use Rattle.graph_parts.specs.Labels.{label_of, label_count}
use Rattle.graph_parts.specs.Patterns.{closed_parts}
use Rattle.graph_parts.proofs.Counting.{is_member-map, distinct_count-cons}
use Rattle.graph_parts.proofs.Distinct.{distinct_count-le_from_within}
use Rattle.graph_parts.proofs.Ends.{is_member-get_or}
use Rattle.graph_parts.proofs.PatternLabels.{closed_parts-labels}
use Rattle.state_sums.specs.Networks.{IsPairing}
use Rattle.graph_parts.specs.Ends.{ends_of}
use Rattle.arc_gluing.specs.Mates.{mates_after, pairs_below, IsMated, IsPairedLabels}
use Rattle.arc_gluing.specs.Pairings.{AreOpen, pair_edges, partners_of}
use Rattle.arc_gluing.specs.Seams.{AreOpenBehind, place_in}
use Rattle.arc_gluing.proofs.ByParts.{partners_of-labels}
use Rattle.arc_gluing.proofs.Copied.{stepped}
use Rattle.arc_gluing.proofs.Glued.{EndsAre-both, glued}
use Rattle.arc_gluing.proofs.GluingLaws.{open_among}
use Rattle.arc_gluing.proofs.Kept.{Keeps-front, Keeps-rest, Keeps-own, zip-Keeps}
use Rattle.arc_gluing.proofs.OneNode.{AreOnce-open}
use Rattle.arc_gluing.proofs.Places.{place_in-at, place_in-found, label_partners-is}
use Rattle.arc_gluing.proofs.PointPairs.{times_in-pairs}
use Rattle.list_lemmas.specs.Times.{times_in}
use Rattle.list_lemmas.proofs.Times.{member_of_times, times_in-append, times_of_member}
use Rattle.list_lemmas.proofs.Items.{all_pass_at, member_at, same_items}

module _ (inner ends outer old term : List ℕ) (po : IsPairing old) (pt : IsPairing term) (lo : length old ≡ length inner) (lt : length term ≡ length ends)
    (few : (x : ℕ) → times_in (inner ++ ends) x ≤ 2) (single : (x : ℕ) → times_in inner x ≤ 1) (left_open : AreOpen (inner ++ ends) outer) where
  abbrev pub full : List (ℕ × ℕ)
  full = pair_edges inner old ++ pair_edges ends term

  abbrev pub label : ℕ → ℕ
  label = label_of (pair_edges inner old ++ pair_edges ends term)

  is_left : AreOpenBehind inner ends outer
  is_left = record {
    few = λ x. let a = times_in-append inner ends x in let f = few x in omega (arith, a, f);
    once = λ x. let a = times_in-append inner ends x in let o = left_open.once x in grind (arith, nat_tests, a, o);
  }

  rest : List (ℕ × ℕ)
  rest = pairs_below ends term (length term)

  first_mate : ℕ → ℕ
  first_mate = mates_after (λ y. y) (pairs_below inner old (length old))

  start : IsMated (times_in (ends_of (pairs_below ends term (length term)) ++ outer)) (mates_after (λ y. y) (pairs_below inner old (length old))) (label_of (pairs_below inner old (length old)))
  start = stepped inner ends outer old (pairs_below ends term (length term)) po lo is_left (λ x. times_in-pairs ends term pt x lt) single

  found : List ℕ
  found = map (λ x. place_in outer (mates_after (mates_after (λ y. y) (pairs_below inner old (length old))) (pairs_below ends term (length term)) x)) outer

  -- there is a pairing by labels
  some : IsPairedLabels full outer found
  unfolding found
  some = glued inner ends outer old term po pt lo lt is_left single (mates_after (λ y. y) (pairs_below inner old (length old))) start (place_in outer)
      (place_in-at outer (AreOnce-open (inner ++ ends) outer left_open)) (place_in-found outer (AreOnce-open (inner ++ ends) outer left_open))

  -- THE ONLY ONE: entries that lead to another name with the same label
  pub unique : (q : List ℕ) → length q ≡ length outer → ((i : ℕ) → i < length outer → slice_index q i < length outer) → ((i : ℕ) → i < length outer → slice_index q i ≢ i) →
      ((i : ℕ) → i < length outer → label (slice_index outer i) ≡ label (slice_index outer (slice_index q i))) → partners_of (inner ++ ends) full outer ≡ q
  unique q lq within apart same =
      let w = some.whole in
      partners_of-labels (inner ++ ends) full (EndsAre-both inner ends old term po pt lo lt) outer (open_among (inner ++ ends) outer left_open)
      ∙ label_partners-is full outer found (AreOnce-open (inner ++ ends) outer left_open) some
      ∙ same_items found q (w ∙ sym lq) (λ i l. let il : i < length outer = omega (arith, w, l) in sym (some.only i (slice_index q i) il (within i il) (same i il) (apart i il)))

  -- labels along the pairs of both
  pub label_inner : (i : ℕ) → i < length inner → label (slice_index inner i) ≡ label (slice_index inner (slice_index old i))
  label_inner i l = zip-Keeps label (slice_index inner) inner old (Keeps-front label (pair_edges inner old) (pair_edges ends term) (Keeps-own full)) i l (omega (arith, lo, l))

  pub label_term : (i : ℕ) → i < length ends → label (slice_index ends i) ≡ label (slice_index ends (slice_index term i))
  label_term i l = zip-Keeps label (slice_index ends) ends term (Keeps-rest label (pair_edges inner old) (pair_edges ends term) (Keeps-own full)) i l (omega (arith, lt, l))

  by_labels : closed_parts (inner ++ ends) full outer ≡ label_count label (inner ++ ends) - label_count label outer
  by_labels = closed_parts-labels (inner ++ ends) full (EndsAre-both inner ends old term po pt lo lt) outer (open_among (inner ++ ends) outer left_open)

  there : (i : ℕ) → i < length outer → is_member ◌==◌ (map label outer) (label (slice_index outer i)) ≡ true
  there i l = is_member-map label outer (slice_index outer i) (is_member-get_or outer i l)

  -- NO PART CLOSES where each name has the label of one that is left
  pub closed_none : ((j : ℕ) → j < length (inner ++ ends) → (i : ℕ) × (i < length outer) × (label (slice_index (inner ++ ends) j) ≡ label (slice_index outer i))) →
      closed_parts (inner ++ ends) full outer ≡ 0
  closed_none h =
      let long = length-map (inner ++ ends) label in
      let b = distinct_count-le_from_within (map label (inner ++ ends)) (map label outer)
      (all_pass_at (is_member ◌==◌ (map label outer)) (map label (inner ++ ends)) (λ j l.
      let jl : j < length (inner ++ ends) = omega (arith, long, l) in
      let k = h j jl in
      ap (is_member ◌==◌ (map label outer)) (get_or-map label (inner ++ ends) j 0 0 jl ∙ k.2) ∙ there k.0 k.1)) in
      let e = by_labels in omega (arith, b, e)

  in_all : (i : ℕ) → i < length outer → (k : ℕ) × (k < length (inner ++ ends)) × (slice_index (inner ++ ends) k ≡ slice_index outer i)
  in_all i l =
      let x = slice_index outer i in
      let t = times_of_member x outer (is_member-get_or outer i l) in let c = left_open.once x in
      member_at (inner ++ ends) x (member_of_times x (inner ++ ends) (grind (arith, nat_tests, t, c)))

  -- ONE PART CLOSES where one name has a label that none that is left has, and each other label is one of these
  pub closed_one : (s : ℕ) → s < length (inner ++ ends) → ((i : ℕ) → i < length outer → label (slice_index outer i) ≢ label (slice_index (inner ++ ends) s)) →
      ((j : ℕ) → j < length (inner ++ ends) → (label (slice_index (inner ++ ends) j) ≡ label (slice_index (inner ++ ends) s)) ⊎ ((i : ℕ) × (i < length outer) × (label (slice_index (inner ++ ends) j) ≡ label (slice_index outer i)))) →
      closed_parts (inner ++ ends) full outer ≡ 1
  closed_one s ls alone h =
      let all = inner ++ ends in
      let one = label (slice_index (inner ++ ends) s) in
      let long = length-map (inner ++ ends) label in
      let long_left = length-map outer label in
      let up = distinct_count-le_from_within (map label (inner ++ ends)) (one ∷ map label outer)
      (all_pass_at (is_member ◌==◌ (one ∷ map label outer)) (map label (inner ++ ends)) (λ j l.
      let jl : j < length (inner ++ ends) = omega (arith, long, l) in
      let at = get_or-map label (inner ++ ends) j 0 0 jl in
      ⊎_elim
      (λ e. or_left (slice_index (map label (inner ++ ends)) j == one) (is_member ◌==◌ (map label outer) (slice_index (map label (inner ++ ends)) j)) (eq-eqb _ _ (at ∙ e)))
      (λ k. or_right (slice_index (map label (inner ++ ends)) j == one) (is_member ◌==◌ (map label outer) (slice_index (map label (inner ++ ends)) j)) (ap (is_member ◌==◌ (map label outer)) (at ∙ k.2) ∙ there k.0 k.1))
      (h j jl))) in
      let down = distinct_count-le_from_within (one ∷ map label outer) (map label (inner ++ ends))
      (All-cons (λ z. is_member ◌==◌ (map label (inner ++ ends)) z ≡ true) one (map label outer) (is_member-map label (inner ++ ends) (slice_index (inner ++ ends) s) (is_member-get_or (inner ++ ends) s ls))
      (all_pass_at (is_member ◌==◌ (map label (inner ++ ends))) (map label outer) (λ i l.
      let il : i < length outer = omega (arith, long_left, l) in
      let m = in_all i il in
      ap (is_member ◌==◌ (map label (inner ++ ends))) (get_or-map label outer i 0 0 il ∙ sym (ap label m.2)) ∙ is_member-map label (inner ++ ends) (slice_index (inner ++ ends) m.0) (is_member-get_or (inner ++ ends) m.0 m.1)))) in
      let new : is_member ◌==◌ (map label outer) one ≡ false =
      ⊎_elim (λ t. let m = member_at (map label outer) one t in let il : m.0 < length outer = (let k = m.1 in omega (arith, long_left, k)) in absurd (alone m.0 il (sym (get_or-map label outer m.0 0 0 il) ∙ m.2)))
      (λ f. f) (cases_Bool (is_member ◌==◌ (map label outer) one)) in
      let c = distinct_count-cons one (map label outer) in
      let e = by_labels in
      grind (arith, nat_tests, up, down, new, c, e)
