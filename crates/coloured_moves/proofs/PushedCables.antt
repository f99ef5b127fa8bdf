-- R2 keeps the coloured value.
use Rattle.std.proofs.Common.{◌≡◌, ◌≢◌, ℕ, zero, suc, ◌+◌, ◌*◌, ◌/◌, ◌^◌, ◌<◌, ◌≤◌, ◌==◌, ◌||◌, ◌⊎◌, inl, inr, not, Bool, true, false, cond, List, [], ◌∷◌, ◌++◌, map, length, reverse, slice_index, refl, sym, ap, ap₂, ◌∙◌, arith, ⊎_elim, All, subst, append-nil, append_assoc, length-append}
use Rattle.std.specs.List.{AllByRecursion, zip, range_with_len}
use Rattle.std.specs.Set.{is_member}
use Rattle.std.proofs.lemmas.Bool.{cases_Bool}
use Rattle.std.proofs.lemmas.Bool.Decides.{nat_tests}
use Rattle.std.proofs.lemmas.List.{length-reverse, reverse-reverse}
use Rattle.std.proofs.lemmas.List.Elements.{All-append, All-nil}
use Rattle.state_sums.specs.LocalSums.{rename}
use Rattle.state_sums.specs.Networks.{Node, IsNode, names_of}
use Rattle.list_lemmas.specs.Times.{times_in}
use Rattle.state_sums.specs.StateSums.{value}
use Rattle.state_sums.proofs.NodeNames.{names_of-rename}
use Rattle.state_sums.proofs.WrittenNodes.{IsNode-rename}
use Rattle.root_quantum.specs.Parameters.{Parameters}
use Rattle.root_quantum.specs.QuantumNumbers.{loop_value}
use Rattle.pd_reader.specs.declared.item.Item.{Item}
use Rattle.pd_reader.specs.declared.item.NetItem.TheVariants.{X}
use Rattle.pd_reader.specs.Items.{item_labels, HasItsSlots}
use Rattle.pd_reader.specs.Diagrams.{labels, IsDiagram}
use Rattle.planar_check.specs.Components.{least_labels, rank}
use Rattle.graph_parts.proofs.Ends.{is_member-get_or}
use Rattle.piece_laws.specs.Arcs.{arcs_of}
use Rattle.graph_parts.specs.Ends.{ends_of}
use Rattle.piece_laws.proofs.ArcEdges.{names_of-arcs, IsNode-arcs}
use Rattle.piece_laws.proofs.RenamedNodes.{rename-append, rename_fixed}
use Rattle.list_lemmas.proofs.Times.{times_of_member, times_in-append, times_none, member_of_times}
use Rattle.cables.specs.Strands.{Strands, first_names, second_names, renamed_strands}
use Rattle.cables.specs.CableNodes.{crossing_cable}
use Rattle.cables.specs.Cables.{Standing, passed, start, count_placed, cable_nodes, item_nodes, loop_count, as_net}
use Rattle.cables.specs.Laws.{IsSmallNetwork}
use Rattle.cables.specs.Nets.{projector_of}
use Rattle.cables.proofs.NumberedStrands.{first_length, as_many_strands}
use Rattle.cables.proofs.RenamedCables.{renamed_cable}
use Rattle.cables.proofs.SameCables.{AreAlike, same_cable}
use Rattle.cables.proofs.NameCounts.{times_of-append, times-reverse, times-map}
use Rattle.coloured_values.specs.Coloured.{colour_of, is_boxed, diagram_strands, cabled, coloured}
use Rattle.coloured_values.specs.Laws.{HasColours}
use Rattle.coloured_values.proofs.CabledDiagrams.{cabled_network, few_colours}
use Rattle.diagram_moves.specs.Laws.{IsPairedDiagram}
use Rattle.diagram_moves.specs.Moves.{second_place, pushed, cut_labels}
use Rattle.diagram_moves.specs.Rewriting.{crossing_labels, at_places, fresh}
use Rattle.move_results.proofs.LeastLabelLists.{Contracts}
use Rattle.piece_laws.proofs.ParameterNumbers.{skein_numbers}
use Rattle.diagram_moves.proofs.Paired.{paired}
use Rattle.diagram_moves.proofs.PlaceLemmas.{one_place, sizes-at_places, fresh_above, crossing_labels-at_places, length-map_from, slice_index-map_from}
use Rattle.diagram_moves.proofs.Pushing.{cut_times, new_four, crossing_label, label, label_n, label_n1, label_n2, label_n3, low_e, low_f, sizes-pushed}
use Rattle.move_results.proofs.PushedComponents.{total, pushed_contracts, pushed_components}
use Rattle.pd_reader.specs.declared.item.Item.TheVariants as item
use Rattle.coloured_values.proofs.ColouredLaws.{all_labels}
use Rattle.cable_crossings.proofs.BundleTurns.{runs_exchanged}
use Rattle.cable_crossings.proofs.CabledBigon.{zip-times, names_of_arcs}
use Rattle.cable_crossings.proofs.CabledStrands.{cabled_strands, ends_twice}
use Rattle.coloured_moves.proofs.CutCloses.{cut_arcs, closed, closed_other, news_become, ends_label, times_closed, first_stays, second_stays, cut_closes}
use Rattle.coloured_moves.proofs.CutPlaces.{AreTwo, first_before_second, fits, at_places-cut}
use Rattle.coloured_moves.proofs.Recut.{Fit, recut, recut_loops}
use Rattle.coloured_moves.proofs.NetAppends.{anywhere, as_net-append, passed_all, cable_nodes-append, loop_count-append, seen_all, nodes_at, named_new, named_old, arcs_of-append, ends_of-append, zip-append}
use Rattle.coloured_moves.proofs.SameComponents.{contracted_colour, contracted_boxed, lowered_unboxed}
use Rattle.cable_crossings.proofs.StepPieces.{member_of_one, All-first, All-second}

pub unboxed_second : (k l : ℕ) (t : Bool) → t ≡ false → second_names k t l ≡ reverse (first_names k l)
unboxed_second k l t h =
    ap (λ b. second_names k b l) h
    ∙ (let same : (λ (i : ℕ). 16 * l + 2 * i + 0) ≡ (λ (i : ℕ). 16 * l + 2 * i) = λ j i. plain l i j in ap (λ (g : ℕ → ℕ). reverse (map g (range_with_len 0 k))) same)
  where
    plain : (l i : ℕ) → 16 * l + 2 * i + 0 ≡ 16 * l + 2 * i
    plain l i = omega arith

module _ (p : Parameters) (items : List Item) (pd : IsPairedDiagram items) (e f : ℕ) (has_e : is_member ◌==◌ (crossing_labels items) e ≡ true) (has_f : is_member ◌==◌ (crossing_labels items) f ≡ true)
    (apart : e ≢ f) (b c : Bool) (colours : List ℕ) (room : fresh items + 3 ≤ 2000000) (after_is : IsDiagram (pushed items e f b c)) (has : HasColours (pushed items e f b c) colours) where
  abbrev n : ℕ
  n = fresh items

  abbrev v : ℕ
  v = n + 1

  abbrev w : ℕ
  w = n + 3

  abbrev after : List Item
  after = pushed items e f b c

  abbrev S : Strands
  S = diagram_strands p after colours

  abbrev ce : ℕ
  ce = colour_of items colours e

  abbrev cf : ℕ
  cf = colour_of items colours f

  abbrev colour : ℕ → ℕ
  colour l = colour_of after colours l

  abbrev boxed : ℕ → Bool
  boxed l = is_boxed after colours l

  abbrev to : ℕ → ℕ
  to = label items pd e f has_e has_f apart b c

  contracts : Contracts after items to
  contracts = pushed_contracts items pd e f has_e has_f apart b c

  comps : least_labels after ≡ least_labels items
  comps = pushed_components items pd e f has_e has_f apart b c

  few : (l : ℕ) → colour l ≤ 8
  few l = few_colours after colours has.few l

  low_e' : e < n
  low_e' = low_e items pd e f has_e has_f apart b c

  low_f' : f < n
  low_f' = low_f items pd e f has_e has_f apart b c

  -- ---- colours and boxes of the labels
  new_member : (z : ℕ) → 1 ≤ new_four n z → is_member ◌==◌ (labels item_labels after) z ≡ true
  new_member z h = let t = total items pd e f has_e has_f apart b c z in member_of_times z (labels item_labels after) (omega (arith, t, h))

  in_after : (l : ℕ) → is_member ◌==◌ (labels item_labels items) l ≡ true → is_member ◌==◌ (labels item_labels after) l ≡ true
  in_after l m = contracts.within l m

  colour_at : (l : ℕ) → is_member ◌==◌ (labels item_labels after) l ≡ true → colour l ≡ colour_of items colours (to l)
  colour_at l m = contracted_colour after items to contracts (sizes-pushed items pd e f has_e has_f apart b c) pd.sizes comps colours l m

  colour_old : (l : ℕ) → is_member ◌==◌ (labels item_labels items) l ≡ true → colour l ≡ colour_of items colours l
  colour_old l m = colour_at l (in_after l m) ∙ ap (colour_of items colours) (contracts.fixes l m)

  unboxed_at : (l : ℕ) → is_member ◌==◌ (labels item_labels after) l ≡ true → to l < l → boxed l ≡ false
  unboxed_at l m low = lowered_unboxed after items to contracts (sizes-pushed items pd e f has_e has_f apart b c) pd.sizes comps colours l m low

  n_in : is_member ◌==◌ (labels item_labels after) n ≡ true
  n_in = new_member n (grind (arith, nat_tests))

  v_in : is_member ◌==◌ (labels item_labels after) v ≡ true
  v_in = new_member v (grind (arith, nat_tests))

  m_in : is_member ◌==◌ (labels item_labels after) (n + 2) ≡ true
  m_in = new_member (n + 2) (grind (arith, nat_tests))

  w_in : is_member ◌==◌ (labels item_labels after) w ≡ true
  w_in = new_member w (grind (arith, nat_tests))

  to_n : to n ≡ e
  to_n = label_n items pd e f has_e has_f apart b c

  to_v : to v ≡ e
  to_v = label_n1 items pd e f has_e has_f apart b c

  to_m : to (n + 2) ≡ f
  to_m = label_n2 items pd e f has_e has_f apart b c

  to_w : to w ≡ f
  to_w = label_n3 items pd e f has_e has_f apart b c

  colour_e : colour e ≡ ce
  colour_e = colour_old e (crossing_label items e has_e)

  colour_f : colour f ≡ cf
  colour_f = colour_old f (crossing_label items f has_f)

  colour_n : colour n ≡ ce
  colour_n = colour_at n n_in ∙ ap (colour_of items colours) to_n

  colour_v : colour v ≡ ce
  colour_v = colour_at v v_in ∙ ap (colour_of items colours) to_v

  colour_m : colour (n + 2) ≡ cf
  colour_m = colour_at (n + 2) m_in ∙ ap (colour_of items colours) to_m

  colour_w : colour w ≡ cf
  colour_w = colour_at w w_in ∙ ap (colour_of items colours) to_w

  free_n : boxed n ≡ false
  free_n = unboxed_at n n_in (let t = to_n in let l = low_e' in omega (arith, t, l))

  free_v : boxed v ≡ false
  free_v = unboxed_at v v_in (let t = to_v in let l = low_e' in omega (arith, t, l))

  free_m : boxed (n + 2) ≡ false
  free_m = unboxed_at (n + 2) m_in (let t = to_m in let l = low_f' in omega (arith, t, l))

  free_w : boxed w ≡ false
  free_w = unboxed_at w w_in (let t = to_w in let l = low_f' in omega (arith, t, l))

  few_e : ce ≤ 8
  few_e = let a = few e in let s = colour_e in omega (arith, a, s)

  few_f : cf ≤ 8
  few_f = let a = few f in let s = colour_f in omega (arith, a, s)

  -- ---- the cut items, and the labels in them
  abbrev R : List Item
  R = at_places (cut_labels (second_place items e) v (second_place items f) w) 0 items

  abbrev e1 : ℕ
  e1 = cond b e v

  abbrev e3 : ℕ
  e3 = cond b v e

  abbrev f1 : ℕ
  f1 = cond c f w

  abbrev f3 : ℕ
  f3 = cond c w f

  sizes_R : AllByRecursion HasItsSlots R
  sizes_R = sizes-at_places (cut_labels (second_place items e) v (second_place items f) w) 0 items pd.sizes

  times_R : (z : ℕ) → times_in (crossing_labels R) z + cond (z == e) 1 0 + cond (z == f) 1 0 ≡ times_in (crossing_labels items) z + cond (z == v) 1 0 + cond (z == w) 1 0
  times_R z = cut_times items pd e f has_e has_f apart b c z

  two_e : times_in (crossing_labels items) e ≡ 2
  two_e = paired items pd e (times_of_member e (crossing_labels items) has_e)

  two_f : times_in (crossing_labels items) f ≡ 2
  two_f = paired items pd f (times_of_member f (crossing_labels items) has_f)

  absent : (z : ℕ) → n ≤ z → times_in (crossing_labels items) z ≡ 0
  absent z h = times_none (crossing_labels items) z (⊎_elim (λ t. absurd (let l = fresh_above items z (crossing_label items z t) in omega (arith, l, h))) (λ t. t) (cases_Bool (is_member ◌==◌ (crossing_labels items) z)))

  in_R : (z : ℕ) → 1 ≤ times_in (crossing_labels R) z → is_member ◌==◌ (crossing_labels R) z ≡ true
  in_R z h = member_of_times z (crossing_labels R) h

  e_R : is_member ◌==◌ (crossing_labels R) e ≡ true
  e_R = in_R e (let t = times_R e in plain (times_in (crossing_labels R) e) e f v w (t ∙ ap (λ k. k + cond (e == v) 1 0 + cond (e == w) 1 0) two_e) apart)
    where
      plain : (t e f v w : ℕ) → t + cond (e == e) 1 0 + cond (e == f) 1 0 ≡ 2 + cond (e == v) 1 0 + cond (e == w) 1 0 → e ≢ f → 1 ≤ t
      plain t e f v w h d = grind (arith, nat_tests, h, d)

  f_R : is_member ◌==◌ (crossing_labels R) f ≡ true
  f_R = in_R f (let t = times_R f in plain (times_in (crossing_labels R) f) e f v w (t ∙ ap (λ k. k + cond (f == v) 1 0 + cond (f == w) 1 0) two_f) apart)
    where
      plain : (t e f v w : ℕ) → t + cond (f == e) 1 0 + cond (f == f) 1 0 ≡ 2 + cond (f == v) 1 0 + cond (f == w) 1 0 → e ≢ f → 1 ≤ t
      plain t e f v w h d = grind (arith, nat_tests, h, d)

  v_R : is_member ◌==◌ (crossing_labels R) v ≡ true
  v_R = in_R v (let t = times_R v in let l = low_e' in let k = low_f' in plain (times_in (crossing_labels R) v) (times_in (crossing_labels items) v) e f n t l k)
    where
      plain : (t k e f n : ℕ) → t + cond (n + 1 == e) 1 0 + cond (n + 1 == f) 1 0 ≡ k + cond (n + 1 == n + 1) 1 0 + cond (n + 1 == n + 3) 1 0 → e < n → f < n → 1 ≤ t
      plain t k e f n h l m = grind (arith, nat_tests, h, l, m)

  w_R : is_member ◌==◌ (crossing_labels R) w ≡ true
  w_R = in_R w (let t = times_R w in let l = low_e' in let k = low_f' in plain (times_in (crossing_labels R) w) (times_in (crossing_labels items) w) e f n t l k)
    where
      plain : (t k e f n : ℕ) → t + cond (n + 3 == e) 1 0 + cond (n + 3 == f) 1 0 ≡ k + cond (n + 3 == n + 1) 1 0 + cond (n + 3 == n + 3) 1 0 → e < n → f < n → 1 ≤ t
      plain t k e f n h l m = grind (arith, nat_tests, h, l, m)

  out_R : (z : ℕ) → n ≤ z → z ≢ v → z ≢ w → is_member ◌==◌ (crossing_labels R) z ≡ false
  out_R z h dv dw =
      let t = times_R z in
      let a = absent z h in
      let none : times_in (crossing_labels R) z ≡ 0 = plain (times_in (crossing_labels R) z) z e f v w (t ∙ ap (λ k. k + cond (z == v) 1 0 + cond (z == w) 1 0) a) dv dw in
      ⊎_elim (λ m. absurd (let one = times_of_member z (crossing_labels R) m in omega (arith, one, none))) (λ m. m) (cases_Bool (is_member ◌==◌ (crossing_labels R) z))
    where
      plain : (t z e f v w : ℕ) → t + cond (z == e) 1 0 + cond (z == f) 1 0 ≡ 0 + cond (z == v) 1 0 + cond (z == w) 1 0 → z ≢ v → z ≢ w → t ≡ 0
      plain t z e f v w h dv dw = grind (arith, nat_tests, h, dv, dw)

  abbrev st0 : Standing
  st0 = start (as_net after)

  abbrev st2 : Standing
  st2 = passed_all st0 (as_net R)

  abbrev seen : List ℕ
  seen = st2.seen

  seen_is : (z : ℕ) → is_member ◌==◌ seen z ≡ is_member ◌==◌ (crossing_labels R) z
  seen_is z = seen_all R st0 z sizes_R ∙ plain (is_member ◌==◌ (crossing_labels R) z)
    where
      plain : (t : Bool) → (t || false) ≡ t
      plain true = refl
      plain false = refl

  pick : (t : Bool) (x y : ℕ) → is_member ◌==◌ seen x ≡ true → is_member ◌==◌ seen y ≡ true → is_member ◌==◌ seen (cond t x y) ≡ true
  pick true x y hx hy = hx
  pick false x y hx hy = hy

  e_seen : is_member ◌==◌ seen e ≡ true
  e_seen = seen_is e ∙ e_R

  f_seen : is_member ◌==◌ seen f ≡ true
  f_seen = seen_is f ∙ f_R

  v_seen : is_member ◌==◌ seen v ≡ true
  v_seen = seen_is v ∙ v_R

  w_seen : is_member ◌==◌ seen w ≡ true
  w_seen = seen_is w ∙ w_R

  n_unseen : is_member ◌==◌ seen n ≡ false
  n_unseen = seen_is n ∙ out_R n (omega arith) (λ s. omega (arith, s)) (λ s. omega (arith, s))

  m_unseen : is_member ◌==◌ seen (n + 2) ≡ false
  m_unseen = seen_is (n + 2) ∙ out_R (n + 2) (omega arith) (λ s. omega (arith, s)) (λ s. omega (arith, s))

  -- ---- the two crossings
  abbrev M : List ℕ
  M = S.first (n + 2)

  abbrev N : List ℕ
  N = S.first n

  abbrev X1 : List Node
  X1 = crossing_cable p st2.group st2.index M (S.second e1) (S.second f3) N

  abbrev X2 : List Node
  X2 = crossing_cable p (st2.group + 1) (st2.index + 1) (S.second f1) (S.second e3) (reverse M) (reverse N)

  later : (x y : ℕ) (ls : List ℕ) → is_member ◌==◌ ls y ≡ true → is_member ◌==◌ (x ∷ ls) y ≡ true
  later x y ls h = plain (y == x) (is_member ◌==◌ ls y) h
    where
      plain : (s t : Bool) → t ≡ true → (s || t) ≡ true
      plain s t h = grind (arith, h)

  front : (x : ℕ) (ls : List ℕ) → is_member ◌==◌ (x ∷ ls) x ≡ true
  front x ls = plain x (is_member ◌==◌ ls x)
    where
      plain : (x : ℕ) (t : Bool) → ((x == x) || t) ≡ true
      plain x t = grind (arith, nat_tests)

  first_nodes : item_nodes p S st2 (X ((n + 2) ∷ e1 ∷ f3 ∷ n ∷ [])) ≡ X1
  first_nodes =
      let m1 = pick b e v e_seen v_seen in
      let m3 = pick c w f w_seen f_seen in
      nodes_at p S st2 (n + 2) e1 f3 n M (S.second e1) (S.second f3) N (inl free_m, (inr m1, (inr m3, (inl free_n, tt))))
      (named_new S seen (n + 2) m_unseen)
      (named_old S ((n + 2) ∷ seen) e1 (later (n + 2) e1 seen m1))
      (named_old S (e1 ∷ (n + 2) ∷ seen) f3 (later e1 f3 ((n + 2) ∷ seen) (later (n + 2) f3 seen m3)))
      (named_new S (f3 ∷ e1 ∷ (n + 2) ∷ seen) n (unseen_n m1 m3))
    where
      plain : (n x y : ℕ) (t : Bool) → t ≡ false → n ≢ x → n ≢ y → ((n == x) || ((n == y) || ((n == n + 2) || t))) ≡ false
      plain n x y t h d g = grind (arith, nat_tests, h, d, g)

      differ : (z : ℕ) → is_member ◌==◌ seen z ≡ true → n ≢ z
      differ z m s = let t = ap (is_member ◌==◌ seen) s in let u = n_unseen in grind (arith, t, m, u)

      unseen_n : is_member ◌==◌ seen e1 ≡ true → is_member ◌==◌ seen f3 ≡ true → is_member ◌==◌ (f3 ∷ e1 ∷ (n + 2) ∷ seen) n ≡ false
      unseen_n m1 m3 = plain n f3 e1 (is_member ◌==◌ seen n) n_unseen (differ f3 m3) (differ e1 m1)

  abbrev st3 : Standing
  st3 = passed st2 (X ((n + 2) ∷ e1 ∷ f3 ∷ n ∷ []))

  second_nodes : item_nodes p S st3 (X (f1 ∷ e3 ∷ (n + 2) ∷ n ∷ [])) ≡ X2
  second_nodes =
      let s3 : List ℕ = n ∷ f3 ∷ e1 ∷ (n + 2) ∷ seen in
      let deep = λ (z : ℕ) (m : is_member ◌==◌ seen z ≡ true). later n z (f3 ∷ e1 ∷ (n + 2) ∷ seen) (later f3 z (e1 ∷ (n + 2) ∷ seen) (later e1 z ((n + 2) ∷ seen) (later (n + 2) z seen m))) in
      let m1 = deep f1 (pick c f w f_seen w_seen) in
      let m3 = deep e3 (pick b v e v_seen e_seen) in
      let mm = later n (n + 2) (f3 ∷ e1 ∷ (n + 2) ∷ seen) (later f3 (n + 2) (e1 ∷ (n + 2) ∷ seen) (later e1 (n + 2) ((n + 2) ∷ seen) (front (n + 2) seen))) in
      let mn = front n (f3 ∷ e1 ∷ (n + 2) ∷ seen) in
      nodes_at p S st3 f1 e3 (n + 2) n (S.second f1) (S.second e3) (reverse M) (reverse N) (inr m1, (inr m3, (inr mm, (inr mn, tt))))
      (named_old S s3 f1 m1)
      (named_old S (f1 ∷ s3) e3 (later f1 e3 s3 m3))
      (named_old S (e3 ∷ f1 ∷ s3) (n + 2) (later e3 (n + 2) (f1 ∷ s3) (later f1 (n + 2) s3 mm)) ∙ unboxed_second (colour (n + 2)) (n + 2) (boxed (n + 2)) free_m)
      (named_old S ((n + 2) ∷ e3 ∷ f1 ∷ s3) n (later (n + 2) n (e3 ∷ f1 ∷ s3) (later e3 n (f1 ∷ s3) (later f1 n s3 mn))) ∙ unboxed_second (colour n) n (boxed n) free_n)

  -- ---- the network, in three parts
  abbrev CR : List Node
  CR = cable_nodes p S st0 (as_net R)

  abbrev whole : List Node
  whole = cable_nodes p S st0 (as_net after)

  parts : whole ≡ CR ++ (X1 ++ (X2 ++ []))
  parts =
      let q1 : Item = item.X ((n + 2) ∷ e1 ∷ f3 ∷ n ∷ []) in
      let q2 : Item = item.X (f1 ∷ e3 ∷ (n + 2) ∷ n ∷ []) in
      ap (cable_nodes p S st0) (as_net-append R (q1 ∷ q2 ∷ []))
      ∙ cable_nodes-append p S (as_net R) (as_net (q1 ∷ q2 ∷ [])) st0
      ∙ ap₂ (λ x y. CR ++ (x ++ (y ++ []))) first_nodes second_nodes

  small : IsSmallNetwork p.modulus (cabled p after colours)
  small = cabled_network p after colours after_is has

  parts_ok : All IsNode (CR ++ (X1 ++ (X2 ++ [])))
  parts_ok = subst (All IsNode) parts small.is_network.nodes

  ok_R : All IsNode CR
  ok_R = All-first IsNode CR (X1 ++ (X2 ++ [])) parts_ok

  ok_1 : All IsNode X1
  ok_1 = All-first IsNode X1 (X2 ++ []) (All-second IsNode CR (X1 ++ (X2 ++ [])) parts_ok)

  ok_2 : All IsNode X2
  ok_2 = All-first IsNode X2 [] (All-second IsNode X1 (X2 ++ []) (All-second IsNode CR (X1 ++ (X2 ++ [])) parts_ok))

  all_twice : (z : ℕ) → 1 ≤ times_in (names_of (X1 ++ (X2 ++ CR))) z → times_in (names_of (X1 ++ (X2 ++ CR))) z ≡ 2
  all_twice z h =
      let x = times_of-append z X1 (X2 ++ CR) in
      let y = times_of-append z X2 CR in
      let a = times_of-append z CR (X1 ++ (X2 ++ [])) in
      let d = times_of-append z X1 (X2 ++ []) in
      let g = ap (λ ns. times_in (names_of ns) z) (append-nil X2) in
      let k = ap (λ ns. times_in (names_of ns) z) parts in
      let two = small.is_network.twice z (member_of_one z (names_of whole) (omega (arith, x, y, a, d, g, k, h))) in
      omega (arith, x, y, a, d, g, k, two)

  abbrev V : List Node → ℕ
  V ns = value p.modulus (loop_value p) record { nodes = ns; free_loops = loop_count S (as_net after) }

  to_front : V whole ≡ V (X1 ++ (X2 ++ CR))
  to_front =
      let both = X1 ++ X2 in
      let ok = All-append IsNode X1 X2 ok_1 ok_2 in
      let back = append-nil X2 in
      ap V (parts ∙ ap (λ ns. CR ++ (X1 ++ ns)) back)
      ∙ ap V (sym (ap (λ ns. CR ++ ns) (append-nil both)))
      ∙ runs_exchanged p.modulus (loop_value p) (loop_count S (as_net after)) CR both [] ok_R ok (All-nil IsNode)
      ∙ ap V (ap (λ ns. both ++ ns) (append-nil CR) ∙ append_assoc X1 X2 CR)

  -- ---- the strands
  second_long : (l : ℕ) → length (S.second l) ≡ colour l
  second_long l = as_many_strands colour boxed (projector_of p) l ∙ first_length colour boxed (projector_of p) l

  long_cond : (t : Bool) (x y k : ℕ) → colour x ≡ k → colour y ≡ k → length (S.second (cond t x y)) ≡ k
  long_cond true x y k hx hy = second_long x ∙ hx
  long_cond false x y k hx hy = second_long y ∙ hy

  second_once : (l z : ℕ) → times_in (S.second l) z ≤ 1
  second_once l z =
      let g : ℕ → ℕ = λ i. 16 * l + 2 * i + cond (boxed l) 1 0 in
      let r = times-reverse z (map g (range_with_len 0 (colour l))) in
      let t = times-map g (λ i j s. omega (arith, s)) z 0 (colour l) in
      omega (arith, r, t)

  once_cond : (t : Bool) (x y z : ℕ) → times_in (S.second (cond t x y)) z ≤ 1
  once_cond true x y z = second_once x z
  once_cond false x y z = second_once y z

  abbrev before : List ℕ
  before = S.second f1 ++ S.second e3

  abbrev behind : List ℕ
  behind = reverse (S.second f3) ++ reverse (S.second e1)

  strands_for : V (X1 ++ (X2 ++ CR)) ≡ V (arcs_of (zip before behind) ++ CR)
  strands_for =
      cabled_strands p (loop_value p) (loop_count S (as_net after)) (skein_numbers p).skein st2.group (st2.group + 1) st2.index (st2.index + 1) cf ce few_f few_e
      M N (S.second f1) (S.second e3) (S.second f3) (S.second e1)
      (first_length colour boxed (projector_of p) (n + 2) ∙ colour_m) (long_cond c f w cf colour_f colour_w) (long_cond c w f cf colour_w colour_f)
      (first_length colour boxed (projector_of p) n ∙ colour_n) (long_cond b v e ce colour_v colour_e) (long_cond b e v ce colour_e colour_v) CR (All-append IsNode X1 (X2 ++ CR) ok_1 (All-append IsNode X2 CR ok_2 ok_R)) ok_R (once_cond c w f) (once_cond b e v) all_twice

  ends_for : (z : ℕ) → 1 ≤ times_in before z + times_in behind z → times_in before z + times_in behind z + times_in (names_of CR) z ≡ 2
  ends_for =
      ends_twice p (loop_value p) (loop_count S (as_net after)) (skein_numbers p).skein st2.group (st2.group + 1) st2.index (st2.index + 1) cf ce few_f few_e
      M N (S.second f1) (S.second e3) (S.second f3) (S.second e1)
      (first_length colour boxed (projector_of p) (n + 2) ∙ colour_m) (long_cond c f w cf colour_f colour_w) (long_cond c w f cf colour_w colour_f)
      (first_length colour boxed (projector_of p) n ∙ colour_n) (long_cond b v e ce colour_v colour_e) (long_cond b e v ce colour_e colour_v) CR (All-append IsNode X1 (X2 ++ CR) ok_1 (All-append IsNode X2 CR ok_2 ok_R)) ok_R (once_cond c w f) (once_cond b e v) all_twice

  -- ---- the strands close
  apart_w : w ≢ f
  apart_w s = let l = low_f' in omega (arith, s, l)

  apart_v : v ≢ e
  apart_v s = let l = low_e' in omega (arith, s, l)

  abbrev Pf : List (ℕ × ℕ)
  Pf = cut_arcs w f cf (boxed f) apart_w few_f c

  abbrev Pe : List (ℕ × ℕ)
  Pe = cut_arcs v e ce (boxed e) apart_v few_e (not b)

  second_f : S.second f ≡ second_names cf (boxed f) f
  second_f = ap (λ k. second_names k (boxed f) f) colour_f

  second_w : S.second w ≡ reverse (first_names cf w)
  second_w = unboxed_second (colour w) w (boxed w) free_w ∙ ap (λ k. reverse (first_names k w)) colour_w

  second_e : S.second e ≡ second_names ce (boxed e) e
  second_e = ap (λ k. second_names k (boxed e) e) colour_e

  second_v : S.second v ≡ reverse (first_names ce v)
  second_v = unboxed_second (colour v) v (boxed v) free_v ∙ ap (λ k. reverse (first_names k v)) colour_v

  f_arcs : (t : Bool) → zip (S.second (cond t f w)) (reverse (S.second (cond t w f))) ≡ cut_arcs w f cf (boxed f) apart_w few_f t
  f_arcs true = ap₂ zip second_f (ap reverse second_w ∙ reverse-reverse (first_names cf w))
  f_arcs false = ap₂ zip second_w (ap reverse second_f)

  e_arcs : (t : Bool) → zip (S.second (cond t v e)) (reverse (S.second (cond t e v))) ≡ cut_arcs v e ce (boxed e) apart_v few_e (not t)
  e_arcs true = ap₂ zip second_v (ap reverse second_e)
  e_arcs false = ap₂ zip second_e (ap reverse second_v ∙ reverse-reverse (first_names ce v))

  long_f1 : length (S.second f1) ≡ cf
  long_f1 = long_cond c f w cf colour_f colour_w

  long_f3 : length (S.second f3) ≡ cf
  long_f3 = long_cond c w f cf colour_w colour_f

  long_e3 : length (S.second e3) ≡ ce
  long_e3 = long_cond b v e ce colour_v colour_e

  long_e1 : length (S.second e1) ≡ ce
  long_e1 = long_cond b e v ce colour_e colour_v

  all_arcs : zip before behind ≡ Pf ++ Pe
  all_arcs =
      zip-append (S.second f1) (S.second e3) (reverse (S.second f3)) (reverse (S.second e1)) (length-reverse (S.second f3) ∙ long_f3 ∙ sym long_f1)
      ∙ ap₂ (λ xs ys. xs ++ ys) (f_arcs c) (e_arcs b)

  ends_are : (z : ℕ) → times_in (ends_of Pf) z + times_in (ends_of Pe) z ≡ times_in before z + times_in behind z
  ends_are z =
      let x = length-append (S.second f1) (S.second e3) in
      let y = length-append (reverse (S.second f3)) (reverse (S.second e1)) in
      let rf = length-reverse (S.second f3) in let re = length-reverse (S.second e1) in
      let a = zip-times z before behind (omega (arith, x, y, rf, re, long_f1, long_f3, long_e1, long_e3)) in
      let s = ap (λ es. times_in (ends_of es) z) all_arcs in
      let t = ap (λ ns. times_in ns z) (ends_of-append Pf Pe) in
      let u = times_in-append (ends_of Pf) (ends_of Pe) z in
      omega (arith, a, s, t, u)

  abbrev cl_f : ℕ → ℕ
  cl_f = closed w f cf (boxed f) apart_w few_f

  abbrev cl_e : ℕ → ℕ
  cl_e = closed v e ce (boxed e) apart_v few_e

  e_label : (z : ℕ) → 1 ≤ times_in (ends_of Pe) z → (z / 16 ≢ w) × (z / 16 ≢ f)
  e_label z h =
      let l = low_e' in let k = low_f' in
      ⊎_elim
      (λ (s : z / 16 ≡ v). ((λ t. omega (arith, s, t)), (λ t. omega (arith, s, t, k))))
      (λ (s : z / 16 ≡ e). ((λ t. omega (arith, s, t, l)), (λ t. apart (sym s ∙ t))))
      (ends_label v e ce (boxed e) apart_v few_e (not b) z h)

  f_label : (z : ℕ) → 1 ≤ times_in (ends_of Pf) z → (z / 16 ≡ w) ⊎ (z / 16 ≡ f)
  f_label z h = ends_label w f cf (boxed f) apart_w few_f c z h

  close_f : V (arcs_of Pf ++ (arcs_of Pe ++ CR)) ≡ V (rename cl_f (arcs_of Pe ++ CR))
  close_f =
      cut_closes w f cf (boxed f) apart_w few_f c p.modulus (loop_value p) (loop_count S (as_net after)) (arcs_of Pe ++ CR) (IsNode-arcs Pe CR ok_R)
      (λ z one.
      let a = ends_are z in
      let two = ends_for z (omega (arith, a, one)) in
      let s = ap (λ ns. times_in ns z) (names_of-arcs Pe CR) in
      let t = times_in-append (ends_of Pe) (names_of CR) z in
      omega (arith, a, two, s, t))

  still_arcs : rename cl_f (arcs_of Pe ++ CR) ≡ arcs_of Pe ++ rename cl_f CR
  still_arcs =
      rename-append cl_f (arcs_of Pe) CR
      ∙ ap (λ ns. ns ++ rename cl_f CR)
      (rename_fixed cl_f (arcs_of Pe) (λ x m.
      let one = times_of_member x (names_of (arcs_of Pe)) m in
      let s = ap (λ ns. times_in ns x) (names_of_arcs Pe) in
      closed_other w f cf (boxed f) apart_w few_f x (e_label x (omega (arith, one, s))).0))

  close_e : V (arcs_of Pe ++ rename cl_f CR) ≡ V (rename cl_e (rename cl_f CR))
  close_e =
      cut_closes v e ce (boxed e) apart_v few_e (not b) p.modulus (loop_value p) (loop_count S (as_net after)) (rename cl_f CR) (IsNode-rename cl_f CR ok_R)
      (λ z one.
      let a = ends_are z in
      let two = ends_for z (omega (arith, a, one)) in
      let l = e_label z one in
      let none : times_in (ends_of Pf) z ≡ 0 = zero_unless (times_in (ends_of Pf) z) (λ h. ⊎_elim l.0 l.1 (f_label z h)) in
      let s = ap (λ ns. times_in ns z) (names_of-rename cl_f CR) in
      let t = times_closed w f cf (boxed f) apart_w few_f z (names_of CR) l.0 l.1 in
      omega (arith, a, two, none, s, t))
    where
      zero_unless : (k : ℕ) → (1 ≤ k → ⊥) → k ≡ 0
      zero_unless zero h = refl
      zero_unless (suc k) h = absurd (h (omega arith))

  -- ---- the items have their old cable
  abbrev T : Strands
  T = renamed_strands cl_e (renamed_strands cl_f S)

  old_cable : rename cl_e (rename cl_f CR) ≡ cable_nodes p T st0 (as_net R)
  old_cable =
      ap (rename cl_e) (sym (renamed_cable p S cl_f st0 0 (as_net R) (λ o. closed_other w f cf (boxed f) apart_w few_f (2 ^ 25 + 128 * 0 + o) (λ s. omega (arith, s, room)))))
      ∙ sym (renamed_cable p (renamed_strands cl_f S) cl_e st0 0 (as_net R) (λ o. closed_other v e ce (boxed e) apart_v few_e (2 ^ 25 + 128 * 0 + o) (λ s. omega (arith, s, room))))

  stay_first : (k l : ℕ) → k ≤ 8 → l ≢ w → l ≢ v → map cl_e (map cl_f (first_names k l)) ≡ first_names k l
  stay_first k l h dw dv = ap (map cl_e) (first_stays w f cf (boxed f) apart_w few_f k l h dw) ∙ first_stays v e ce (boxed e) apart_v few_e k l h dv

  stay_second : (k l : ℕ) (t : Bool) → k ≤ 8 → l ≢ w → l ≢ v → map cl_e (map cl_f (second_names k t l)) ≡ second_names k t l
  stay_second k l t h dw dv = ap (map cl_e) (second_stays w f cf (boxed f) apart_w few_f k l t h dw) ∙ second_stays v e ce (boxed e) apart_v few_e k l t h dv

  first_is_v : T.first v ≡ T.second e
  first_is_v =
      ap (map cl_e) (first_stays w f cf (boxed f) apart_w few_f (colour v) v (few v) (λ s. omega (arith, s)))
      ∙ ap (λ k. map cl_e (first_names k v)) colour_v
      ∙ news_become v e ce (boxed e) apart_v few_e
      ∙ sym (stay_second (colour e) e (boxed e) (few e) (λ s. let l = low_e' in omega (arith, s, l)) (λ s. apart_v (sym s)) ∙ second_e)

  first_is_w : T.first w ≡ T.second f
  first_is_w =
      ap (λ k. map cl_e (map cl_f (first_names k w))) colour_w
      ∙ ap (map cl_e) (news_become w f cf (boxed f) apart_w few_f)
      ∙ second_stays v e ce (boxed e) apart_v few_e cf f (boxed f) few_f (λ s. let l = low_f' in omega (arith, s, l))
      ∙ sym (stay_second (colour f) f (boxed f) (few f) (λ s. apart_w (sym s)) (λ s. let l = low_f' in omega (arith, s, l)) ∙ second_f)

  abbrev ls : List ℕ
  ls = crossing_labels items

  label_low : (q : ℕ) → q < length ls → slice_index ls q < n
  label_low q l = fresh_above items (slice_index ls q) (crossing_label items (slice_index ls q) (is_member-get_or ls q l))

  places_f : AreTwo ls f (rank ls f) (second_place items f)
  places_f = first_before_second items f two_f

  places_e : AreTwo ls e (rank ls e) (second_place items e)
  places_e = first_before_second items e two_e

  abbrev items1 : List Item
  items1 = at_places (one_place (second_place items f) w) 0 items

  fit_f : Fit T f w (second_place items f) first_is_w free_w 0 [] ls
  fit_f =
      fits T f w (second_place items f) first_is_w free_w (rank ls f) places_f.order 0 [] ls
      (λ q l s. let h = label_low q l in omega (arith, h, s))
      (λ q l s. let t : q ≡ second_place items f = omega (arith, s) in ap (slice_index ls) t ∙ places_f.second_is)
      (λ q l s. let t : q ≡ rank ls f = omega (arith, s) in ap (slice_index ls) t ∙ places_f.first_is)
      (λ h. absurd (omega (arith, h)))

  abbrev ls1 : List ℕ
  ls1 = crossing_labels items1

  at_1 : (q : ℕ) → q < length ls1 → (q < length ls) × (slice_index ls1 q ≡ cond (0 + q == second_place items f) w (slice_index ls q))
  at_1 q l =
      let g = one_place (second_place items f) w in
      let same = crossing_labels-at_places g 0 items in
      let long = ap length same ∙ length-map_from g 0 ls in
      let k : q < length ls = omega (arith, l, long) in
      (k, ap (λ xs. slice_index xs q) same ∙ slice_index-map_from g 0 ls q k)

  kept_e : (q : ℕ) → q < length ls1 → slice_index ls q ≡ e → slice_index ls1 q ≡ e
  kept_e q l s =
      let a = at_1 q l in
      let out : (0 + q == second_place items f) ≡ false = differ (0 + q) (second_place items f) (λ t. let u : q ≡ second_place items f = omega (arith, t) in apart (sym s ∙ ap (slice_index ls) u ∙ places_f.second_is)) in
      a.1 ∙ ap (λ t. cond t w (slice_index ls q)) out ∙ s
    where
      differ : (x y : ℕ) → x ≢ y → (x == y) ≡ false
      differ x y d = grind (arith, nat_tests, d)

  not_v : (t : Bool) (x : ℕ) → x < n → cond t w x ≢ v
  not_v true x l s = omega (arith, s)
  not_v false x l s = omega (arith, s, l)

  fit_e : Fit T e v (second_place items e) first_is_v free_v 0 [] ls1
  fit_e =
      fits T e v (second_place items e) first_is_v free_v (rank ls e) places_e.order 0 [] ls1
      (λ q l s. let a = at_1 q l in not_v (0 + q == second_place items f) (slice_index ls q) (label_low q a.0) (sym a.1 ∙ s))
      (λ q l s. let t : q ≡ second_place items e = omega (arith, s) in kept_e q l (ap (slice_index ls) t ∙ places_e.second_is))
      (λ q l s. let t : q ≡ rank ls e = omega (arith, s) in kept_e q l (ap (slice_index ls) t ∙ places_e.first_is))
      (λ h. absurd (omega (arith, h)))

  uncut : cable_nodes p T st0 (as_net R) ≡ cable_nodes p T st0 (as_net items)
  uncut =
      ap (λ is. cable_nodes p T st0 (as_net is)) (at_places-cut (second_place items e) v (second_place items f) w 0 items)
      ∙ recut T e v (second_place items e) first_is_v free_v p items1 0 st0 [] (sizes-at_places (one_place (second_place items f) w) 0 items pd.sizes)
      record { alike = λ x d. refl; new = λ h. refl } fit_e
      ∙ recut T f w (second_place items f) first_is_w free_w p items 0 st0 [] pd.sizes record { alike = λ x d. refl; new = λ h. refl } fit_f

  abbrev S0 : Strands
  S0 = diagram_strands p items colours

  boxed_old : (l : ℕ) → is_member ◌==◌ (labels item_labels items) l ≡ true → boxed l ≡ is_boxed items colours l
  boxed_old l m = contracted_boxed after items to contracts (sizes-pushed items pd e f has_e has_f apart b c) pd.sizes comps colours l m

  alike_T : (l : ℕ) → is_member ◌==◌ (labels item_labels items) l ≡ true → AreAlike T S0 l
  alike_T l m =
      let low = fresh_above items l m in
      let dw : l ≢ w = λ s. omega (arith, s, low) in
      let dv : l ≢ v = λ s. omega (arith, s, low) in
      record {
        first = stay_first (colour l) l (few l) dw dv ∙ ap (λ k. first_names k l) (colour_old l m);
        second = stay_second (colour l) l (boxed l) (few l) dw dv ∙ ap₂ (λ k t. second_names k t l) (colour_old l m) (boxed_old l m);
        boxed = boxed_old l m;
      }

  alike_S : (l : ℕ) → is_member ◌==◌ (labels item_labels items) l ≡ true → AreAlike S S0 l
  alike_S l m = record {
    first = ap (λ k. first_names k l) (colour_old l m);
    second = ap₂ (λ k t. second_names k t l) (colour_old l m) (boxed_old l m);
    boxed = boxed_old l m;
  }

  loops_same : loop_count S (as_net after) ≡ loop_count S0 (as_net items)
  loops_same =
      let q1 : Item = item.X ((n + 2) ∷ e1 ∷ f3 ∷ n ∷ []) in
      let q2 : Item = item.X (f1 ∷ e3 ∷ (n + 2) ∷ n ∷ []) in
      let a = ap (loop_count S) (as_net-append R (q1 ∷ q2 ∷ [])) ∙ loop_count-append S (as_net R) (as_net (q1 ∷ q2 ∷ [])) in
      let d = recut_loops S (cut_labels (second_place items e) v (second_place items f) w) 0 items in
      let g = ap (λ c. c.free_loops) (same_cable S S0 refl p (as_net items) (all_labels (AreAlike S S0) items alike_S)) in
      omega (arith, a, d, g)

  -- R2 KEEPS THE COLOURED VALUE
  pub pushed_coloured : coloured p after colours ≡ coloured p items colours
  unfolding coloured
  pushed_coloured =
      to_front ∙ strands_for
      ∙ ap V (ap (λ es. arcs_of es ++ CR) all_arcs ∙ ap (λ ns. ns ++ CR) (arcs_of-append Pf Pe) ∙ append_assoc (arcs_of Pf) (arcs_of Pe) CR)
      ∙ close_f ∙ ap V still_arcs ∙ close_e
      ∙ ap V (old_cable ∙ uncut)
      ∙ anywhere p.modulus (loop_value p) (loop_count S (as_net after)) p T 1 (count_placed (as_net after) + 1) (as_net items)
      ∙ ap (λ c. V c.nodes) (same_cable T S0 refl p (as_net items) (all_labels (AreAlike T S0) items alike_T))
      ∙ ap (λ k. value p.modulus (loop_value p) record { nodes = cable_nodes p S0 (start (as_net items)) (as_net items); free_loops = k }) loops_same
