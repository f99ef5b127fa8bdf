-- A curl on an edge with crossings: where the cable of the new crossing counts as a factor times the strands of the edge, the coloured value
-- takes that factor. For the strands close to the old names, and the other items have their old cable.
use Rattle.std.proofs.Common.{◌≡◌, ◌≢◌, ℕ, ◌+◌, ◌*◌, ◌/◌, ◌%◌, ◌^◌, ◌<◌, ◌≤◌, ◌==◌, ◌||◌, ◌⊎◌, inl, inr, Bool, true, false, cond, List, [], ◌∷◌, ◌++◌, map, length, reverse, slice_index, refl, sym, ap, ap₂, ◌∙◌, arith, ⊎_elim, All, subst, append-nil}
use Rattle.std.specs.List.{AllByRecursion, zip}
use Rattle.std.specs.Set.{is_member}
use Rattle.std.proofs.lemmas.Bool.{cases_Bool}
use Rattle.std.proofs.lemmas.Bool.Decides.{nat_tests}
use Rattle.std.proofs.lemmas.List.{length-reverse}
use Rattle.std.proofs.lemmas.List.Elements.{All-nil}
use Rattle.state_sums.specs.LocalSums.{rename}
use Rattle.state_sums.specs.Networks.{Node, IsNode, names_of}
use Rattle.list_lemmas.specs.Times.{times_in}
use Rattle.state_sums.specs.StateSums.{value}
use Rattle.root_quantum.specs.Parameters.{Parameters}
use Rattle.root_quantum.specs.QuantumNumbers.{loop_value}
use Rattle.pd_reader.specs.declared.item.Item.{Item}
use Rattle.pd_reader.specs.declared.item.NetItem.TheVariants.{X}
use Rattle.pd_reader.specs.Items.{item_labels, HasItsSlots}
use Rattle.pd_reader.specs.Diagrams.{labels, IsDiagram}
use Rattle.planar_check.specs.Components.{least_labels, rank}
use Rattle.planar_check.specs.declared.sign.Sign.{Sign}
use Rattle.planar_check.specs.declared.sign.Sign.TheVariants as signs
use Rattle.graph_parts.proofs.Ends.{is_member-get_or}
use Rattle.piece_laws.specs.Arcs.{arcs_of}
use Rattle.state_sums.specs.LocalSums.{arc}
use Rattle.std.proofs.Math.Nat.{mod-mod}
use Rattle.graph_parts.specs.Ends.{ends_of}
use Rattle.list_lemmas.proofs.Times.{times_of_member, times_none, member_of_times}
use Rattle.cables.specs.Strands.{Strands, first_names, second_names, renamed_strands}
use Rattle.cables.specs.Cables.{Standing, start, count_placed, cable_nodes, item_nodes, loop_count, as_net}
use Rattle.cables.specs.Laws.{IsSmallNetwork}
use Rattle.cables.specs.Nets.{projector_of}
use Rattle.cables.proofs.GridNames.{crossing-times}
use Rattle.cables.proofs.NumberedStrands.{first_length, as_many_strands, first_label}
use Rattle.cables.proofs.RenamedCables.{renamed_cable}
use Rattle.cables.proofs.SameCables.{AreAlike, same_cable}
use Rattle.cables.proofs.NameCounts.{times_of-append, times-reverse}
use Rattle.cables.proofs.LabelNames.{zero_or_some}
use Rattle.coloured_values.specs.Coloured.{colour_of, is_boxed, diagram_strands, cabled, coloured}
use Rattle.coloured_values.specs.Laws.{HasColours}
use Rattle.coloured_values.proofs.CabledDiagrams.{cabled_network, few_colours}
use Rattle.diagram_moves.specs.Laws.{IsPairedDiagram}
use Rattle.diagram_moves.specs.Moves.{second_place, curl_slots}
use Rattle.diagram_moves.specs.Rewriting.{crossing_labels, at_places, fresh}
use Rattle.move_results.proofs.LeastLabelLists.{Contracts}
use Rattle.diagram_moves.proofs.Paired.{paired}
use Rattle.diagram_moves.proofs.PlaceLemmas.{one_place, sizes-at_places, fresh_above, second_place_of, crossing_labels-at_places, times_one_place}
use Rattle.diagram_moves.proofs.Pushing.{crossing_label}
use Rattle.diagram_moves.proofs.Curling.{label, label_n, label_n1, low, new_two, sizes-curled, is_plus, first_open, second_open}
use Rattle.move_results.proofs.CurledComponents.{total, curled_contracts, curled_components}
use Rattle.pd_reader.specs.declared.item.Item.TheVariants as item
use Rattle.coloured_values.proofs.ColouredLaws.{all_labels}
use Rattle.cable_crossings.proofs.BundleTurns.{runs_exchanged}
use Rattle.cable_crossings.proofs.StepPieces.{member_of_one, All-first, All-second}
use Rattle.coloured_moves.proofs.CutCloses.{cut_arcs, closed, closed_other, news_become, ends_label, ends_times, first_stays, second_stays, cut_closes}
use Rattle.coloured_moves.proofs.CurledStrands.{curl_cable, curl_twist, no_twist, one_strand}
use Rattle.coloured_moves.proofs.CutPlaces.{AreTwo, first_before_second, fits}
use Rattle.coloured_moves.proofs.NetAppends.{anywhere, as_net-append, passed_all, cable_nodes-append, loop_count-append, seen_all, nodes_at, named_new, named_old}
use Rattle.coloured_moves.proofs.PushedCables.{unboxed_second}
use Rattle.coloured_moves.proofs.Recut.{Fit, recut, recut_loops}
use Rattle.coloured_moves.proofs.SameComponents.{contracted_colour, contracted_boxed, lowered_unboxed}
use Rattle.coloured_moves.proofs.StubNames.{inner_none}
use Rattle.coloured_moves.proofs.Tests.{one_most}

module _ (p : Parameters) (items : List Item) (pd : IsPairedDiagram items) (e : ℕ) (has_e : is_member ◌==◌ (crossing_labels items) e ≡ true) (sign : Sign)
    (colours : List ℕ) (room : fresh items + 3 ≤ 2000000) where
  abbrev pub n : ℕ
  n = fresh items

  abbrev pub v : ℕ
  v = n + 1

  abbrev pub R : List Item
  R = at_places (one_place (second_place items e) v) 0 items

  abbrev pub after : List Item
  after = R ++ item.X (curl_slots e v n sign) ∷ []

  module _ (after_is : IsDiagram after) (has : HasColours after colours) where
    abbrev pub S : Strands
    S = diagram_strands p after colours

    abbrev pub c : ℕ
    c = colour_of items colours e

    abbrev colour : ℕ → ℕ
    colour l = colour_of after colours l

    abbrev boxed : ℕ → Bool
    boxed l = is_boxed after colours l

    abbrev to : ℕ → ℕ
    to = label items pd e has_e sign

    contracts : Contracts after items to
    contracts = curled_contracts items pd e has_e sign

    comps : least_labels after ≡ least_labels items
    comps = curled_components items pd e has_e sign

    sizes : AllByRecursion HasItsSlots after
    sizes = sizes-curled items pd e has_e sign

    few : (l : ℕ) → colour l ≤ 8
    few l = few_colours after colours has.few l

    low_e : e < n
    low_e = low items pd e has_e sign

    -- ---- colours and boxes of the labels
    new_member : (z : ℕ) → 1 ≤ new_two items pd e has_e sign z → is_member ◌==◌ (labels item_labels after) z ≡ true
    new_member z h = let t = total items pd e has_e sign z in member_of_times z (labels item_labels after) (omega (arith, t, h))

    colour_at : (l : ℕ) → is_member ◌==◌ (labels item_labels after) l ≡ true → colour l ≡ colour_of items colours (to l)
    colour_at l m = contracted_colour after items to contracts sizes pd.sizes comps colours l m

    colour_old : (l : ℕ) → is_member ◌==◌ (labels item_labels items) l ≡ true → colour l ≡ colour_of items colours l
    colour_old l m = colour_at l (contracts.within l m) ∙ ap (colour_of items colours) (contracts.fixes l m)

    boxed_old : (l : ℕ) → is_member ◌==◌ (labels item_labels items) l ≡ true → boxed l ≡ is_boxed items colours l
    boxed_old l m = contracted_boxed after items to contracts sizes pd.sizes comps colours l m

    unboxed_at : (l : ℕ) → is_member ◌==◌ (labels item_labels after) l ≡ true → to l < l → boxed l ≡ false
    unboxed_at l m less = lowered_unboxed after items to contracts sizes pd.sizes comps colours l m less

    n_in : is_member ◌==◌ (labels item_labels after) n ≡ true
    n_in = new_member n (grind (arith, nat_tests))

    v_in : is_member ◌==◌ (labels item_labels after) v ≡ true
    v_in = new_member v (grind (arith, nat_tests))

    colour_e : colour e ≡ c
    colour_e = colour_old e (crossing_label items e has_e)

    colour_n : colour n ≡ c
    colour_n = colour_at n n_in ∙ ap (colour_of items colours) (label_n items pd e has_e sign)

    colour_v : colour v ≡ c
    colour_v = colour_at v v_in ∙ ap (colour_of items colours) (label_n1 items pd e has_e sign)

    free_n : boxed n ≡ false
    free_n = unboxed_at n n_in (let t = label_n items pd e has_e sign in let l = low_e in omega (arith, t, l))

    free_v : boxed v ≡ false
    free_v = unboxed_at v v_in (let t = label_n1 items pd e has_e sign in let l = low_e in omega (arith, t, l))

    pub few_c : c ≤ 8
    few_c = let a = few e in let s = colour_e in omega (arith, a, s)

    -- ---- the cut items, and the labels in them
    sizes_R : AllByRecursion HasItsSlots R
    sizes_R = sizes-at_places (one_place (second_place items e) v) 0 items pd.sizes

    times_R : (z : ℕ) → times_in (crossing_labels R) z + cond (z == e) 1 0 ≡ times_in (crossing_labels items) z + cond (z == v) 1 0
    times_R z =
        let se = second_place_of items e has_e in
        let t = times_one_place (crossing_labels items) (second_place items e) v e z se.0 se.1 in
        let same = ap (λ ns. times_in ns z) (crossing_labels-at_places (one_place (second_place items e) v) 0 items) in
        omega (arith, t, same)

    two_e : times_in (crossing_labels items) e ≡ 2
    two_e = paired items pd e (times_of_member e (crossing_labels items) has_e)

    absent : (z : ℕ) → n ≤ z → times_in (crossing_labels items) z ≡ 0
    absent z h = times_none (crossing_labels items) z (⊎_elim (λ t. absurd (let l = fresh_above items z (crossing_label items z t) in omega (arith, l, h))) (λ t. t) (cases_Bool (is_member ◌==◌ (crossing_labels items) z)))

    e_R : is_member ◌==◌ (crossing_labels R) e ≡ true
    e_R = member_of_times e (crossing_labels R) (let t = times_R e in let w = two_e in grind (arith, nat_tests, t, w))

    v_R : is_member ◌==◌ (crossing_labels R) v ≡ true
    v_R = member_of_times v (crossing_labels R) (let t = times_R v in let l = low_e in plain (times_in (crossing_labels R) v) (times_in (crossing_labels items) v) e n t l)
      where
        plain : (t k e n : ℕ) → t + cond (n + 1 == e) 1 0 ≡ k + cond (n + 1 == n + 1) 1 0 → e < n → 1 ≤ t
        plain t k e n h l = grind (arith, nat_tests, h, l)

    n_R : is_member ◌==◌ (crossing_labels R) n ≡ false
    n_R =
        let t = times_R n in let a = absent n (omega arith) in let l = low_e in
        let none : times_in (crossing_labels R) n ≡ 0 = plain (times_in (crossing_labels R) n) (times_in (crossing_labels items) n) e n t a l in
        ⊎_elim (λ m. absurd (let one = times_of_member n (crossing_labels R) m in omega (arith, one, none))) (λ m. m) (cases_Bool (is_member ◌==◌ (crossing_labels R) n))
      where
        plain : (t k e n : ℕ) → t + cond (n == e) 1 0 ≡ k + cond (n == n + 1) 1 0 → k ≡ 0 → e < n → t ≡ 0
        plain t k e n h a l = grind (arith, nat_tests, h, a, l)

    abbrev st0 : Standing
    st0 = start (as_net after)

    abbrev pub st2 : Standing
    st2 = passed_all st0 (as_net R)

    abbrev seen : List ℕ
    seen = st2.seen

    seen_is : (z : ℕ) → is_member ◌==◌ seen z ≡ is_member ◌==◌ (crossing_labels R) z
    seen_is z = seen_all R st0 z sizes_R ∙ plain (is_member ◌==◌ (crossing_labels R) z)
      where
        plain : (t : Bool) → (t || false) ≡ t
        plain true = refl
        plain false = refl

    e_seen : is_member ◌==◌ seen e ≡ true
    e_seen = seen_is e ∙ e_R

    v_seen : is_member ◌==◌ seen v ≡ true
    v_seen = seen_is v ∙ v_R

    n_unseen : is_member ◌==◌ seen n ≡ false
    n_unseen = seen_is n ∙ n_R

    -- ---- the crossing
    abbrev pub M : List ℕ
    M = S.first n

    abbrev pub X1 : List Node
    X1 = curl_cable p st2.group st2.index sign (S.second e) (S.second v) M

    later : (x y : ℕ) (ls : List ℕ) → is_member ◌==◌ ls y ≡ true → is_member ◌==◌ (x ∷ ls) y ≡ true
    later x y ls h = plain (y == x) (is_member ◌==◌ ls y) h
      where
        plain : (s t : Bool) → t ≡ true → (s || t) ≡ true
        plain s t h = grind (arith, h)

    front : (x : ℕ) (ls : List ℕ) → is_member ◌==◌ (x ∷ ls) x ≡ true
    front x ls = plain x (is_member ◌==◌ ls x)
      where
        plain : (x : ℕ) (t : Bool) → ((x == x) || t) ≡ true
        plain x t = grind (arith, nat_tests)

    unlike : (x : ℕ) (ls : List ℕ) → x ≢ n → is_member ◌==◌ ls n ≡ false → is_member ◌==◌ (x ∷ ls) n ≡ false
    unlike x ls d h = plain x n (is_member ◌==◌ ls n) d h
      where
        plain : (x n : ℕ) (t : Bool) → x ≢ n → t ≡ false → ((n == x) || t) ≡ false
        plain x n t d h = grind (arith, nat_tests, d, h)

    not_e : e ≢ n
    not_e s = let l = low_e in omega (arith, s, l)

    not_v : v ≢ n
    not_v s = omega (arith, s)

    second_n : S.second n ≡ reverse M
    second_n = unboxed_second (colour n) n (boxed n) free_n

    curl_nodes : (s : Sign) → item_nodes p S st2 (X (curl_slots e v n s)) ≡ curl_cable p st2.group st2.index s (S.second e) (S.second v) M
    curl_nodes signs.Plus =
        nodes_at p S st2 e v n n (S.second e) (S.second v) M (reverse M) (inr e_seen, (inr v_seen, (inl free_n, (inl free_n, tt))))
        (named_old S seen e e_seen)
        (named_old S (e ∷ seen) v (later e v seen v_seen))
        (named_new S (v ∷ e ∷ seen) n (unlike v (e ∷ seen) not_v (unlike e seen not_e n_unseen)))
        (named_old S (n ∷ v ∷ e ∷ seen) n (front n (v ∷ e ∷ seen)) ∙ second_n)
    curl_nodes signs.Minus =
        nodes_at p S st2 e n n v (S.second e) M (reverse M) (S.second v) (inr e_seen, (inl free_n, (inl free_n, (inr v_seen, tt))))
        (named_old S seen e e_seen)
        (named_new S (e ∷ seen) n (unlike e seen not_e n_unseen))
        (named_old S (n ∷ e ∷ seen) n (front n (e ∷ seen)) ∙ second_n)
        (named_old S (n ∷ n ∷ e ∷ seen) v (later n v (n ∷ e ∷ seen) (later n v (e ∷ seen) (later e v seen v_seen))))

    -- ---- the network, in two parts
    abbrev pub CR : List Node
    CR = cable_nodes p S st0 (as_net R)

    abbrev whole : List Node
    whole = cable_nodes p S st0 (as_net after)

    parts : whole ≡ CR ++ (X1 ++ [])
    parts =
        ap (cable_nodes p S st0) (as_net-append R (item.X (curl_slots e v n sign) ∷ []))
        ∙ cable_nodes-append p S (as_net R) (as_net (item.X (curl_slots e v n sign) ∷ [])) st0
        ∙ ap (λ x. CR ++ (x ++ [])) (curl_nodes sign)

    small : IsSmallNetwork p.modulus (cabled p after colours)
    small = cabled_network p after colours after_is has

    parts_ok : All IsNode (CR ++ (X1 ++ []))
    parts_ok = subst (All IsNode) parts small.is_network.nodes

    pub ok_R : All IsNode CR
    ok_R = All-first IsNode CR (X1 ++ []) parts_ok

    pub ok_1 : All IsNode X1
    ok_1 = All-first IsNode X1 [] (All-second IsNode CR (X1 ++ []) parts_ok)

    pub all_twice : (z : ℕ) → 1 ≤ times_in (names_of (X1 ++ CR)) z → times_in (names_of (X1 ++ CR)) z ≡ 2
    all_twice z h =
        let x = times_of-append z X1 CR in
        let a = times_of-append z CR (X1 ++ []) in
        let g = ap (λ ns. times_in (names_of ns) z) (append-nil X1) in
        let k = ap (λ ns. times_in (names_of ns) z) parts in
        let two = small.is_network.twice z (member_of_one z (names_of whole) (omega (arith, x, a, g, k, h))) in
        omega (arith, x, a, g, k, two)

    abbrev pub free : ℕ
    free = loop_count S (as_net after)

    abbrev pub V : List Node → ℕ
    V ns = value p.modulus (loop_value p) record { nodes = ns; free_loops = free }

    to_front : V whole ≡ V (X1 ++ CR)
    to_front =
        ap V (parts ∙ ap (λ ns. CR ++ ns) (append-nil X1) ∙ sym (ap (λ ns. CR ++ ns) (append-nil X1)))
        ∙ runs_exchanged p.modulus (loop_value p) free CR X1 [] ok_R ok_1 (All-nil IsNode)
        ∙ ap V (ap (λ ns. X1 ++ ns) (append-nil CR))

    -- ---- the strands
    pub apart_v : v ≢ e
    apart_v s = let l = low_e in omega (arith, s, l)

    abbrev pub Pe : Bool → List (ℕ × ℕ)
    Pe b = cut_arcs v e c (boxed e) apart_v few_c b

    abbrev pub cl : ℕ → ℕ
    cl = closed v e c (boxed e) apart_v few_c

    pub second_e : S.second e ≡ second_names c (boxed e) e
    second_e = ap (λ k. second_names k (boxed e) e) colour_e

    pub second_v : S.second v ≡ reverse (first_names c v)
    second_v = unboxed_second (colour v) v (boxed v) free_v ∙ ap (λ k. reverse (first_names k v)) colour_v

    pub first_n : M ≡ first_names c n
    first_n = ap (λ k. first_names k n) colour_n

    pub second_long : (l : ℕ) → length (S.second l) ≡ colour l
    second_long l = as_many_strands colour boxed (projector_of p) l ∙ first_length colour boxed (projector_of p) l

    pub long_e : length (S.second e) ≡ c
    long_e = second_long e ∙ colour_e

    pub long_v : length (S.second v) ≡ c
    long_v = second_long v ∙ colour_v

    pub long_M : length M ≡ c
    long_M = first_length colour boxed (projector_of p) n ∙ colour_n

    -- how often low names stand in the crossing
    pub curl_times : (z : ℕ) → z < 2 ^ 25 → times_in (names_of X1) z ≡ times_in (S.second e) z + times_in (S.second v) z + 2 * times_in M z
    curl_times z less = both sign
      where
        both : (s : Sign) → times_in (names_of (curl_cable p st2.group st2.index s (S.second e) (S.second v) M)) z ≡ times_in (S.second e) z + times_in (S.second v) z + 2 * times_in M z
        both signs.Plus =
            let r = length-reverse M in let t = times-reverse z M in
            let k = crossing-times p st2.group st2.index z (S.second e) (S.second v) M (reverse M) (long_e ∙ sym long_M) (long_v ∙ sym (r ∙ long_M)) in
            let f = few_c in let le = long_e in let lv = long_v in
            let i = inner_none st2.index (length (S.second e)) (length (S.second v)) z (omega (arith, f, le)) (omega (arith, f, lv)) less in omega (arith, t, k, i)
        both signs.Minus =
            let r = length-reverse M in let t = times-reverse z M in
            let k = crossing-times p st2.group st2.index z (S.second e) M (reverse M) (S.second v) (long_e ∙ sym (r ∙ long_M)) (long_M ∙ sym long_v) in
            let f = few_c in let le = long_e in let lm = long_M in
            let i = inner_none st2.index (length (S.second e)) (length M) z (omega (arith, f, le)) (omega (arith, f, lm)) less in omega (arith, t, k, i)

    ends_are : (b : Bool) (z : ℕ) → times_in (ends_of (Pe b)) z ≡ times_in (S.second e) z + times_in (S.second v) z
    ends_are b z =
        let t = ends_times v e c (boxed e) apart_v few_c b z in
        let x = ap (λ ns. times_in ns z) second_e in
        let y = ap (λ ns. times_in ns z) second_v in
        let r = times-reverse z (first_names c v) in
        omega (arith, t, x, y, r)

    pub ends_twice : (b : Bool) (z : ℕ) → 1 ≤ times_in (ends_of (Pe b)) z → times_in (ends_of (Pe b)) z + times_in (names_of CR) z ≡ 2
    ends_twice b z one =
        let l = low_e in
        let q : (z / 16 ≡ v) ⊎ (z / 16 ≡ e) = ends_label v e c (boxed e) apart_v few_c b z one in
        let below : z < 2 ^ 25 = ⊎_elim (λ (s : z / 16 ≡ v). omega (arith, s, room)) (λ (s : z / 16 ≡ e). omega (arith, s, room, l)) q in
        let none : times_in M z ≡ 0 =
        ⊎_elim (λ o. o)
        (λ s. (let k = s.1 in let m = first_label colour boxed (projector_of p) z few n (omega (arith, k)) in absurd (⊎_elim (λ (s : z / 16 ≡ v). omega (arith, s, m)) (λ (s : z / 16 ≡ e). omega (arith, s, m, l)) q)))
        (zero_or_some (times_in M z)) in
        let a = ends_are b z in
        let t = curl_times z below in
        let x = times_of-append z X1 CR in
        let two = all_twice z (omega (arith, a, t, x, none, one)) in
        omega (arith, a, t, x, none, two)

    -- ---- the strands close, and the items have their old cable
    close : (b : Bool) → V (arcs_of (Pe b) ++ CR) ≡ V (rename cl CR)
    close b = cut_closes v e c (boxed e) apart_v few_c b p.modulus (loop_value p) free CR ok_R (ends_twice b)

    abbrev T : Strands
    T = renamed_strands cl S

    old_cable : rename cl CR ≡ cable_nodes p T st0 (as_net R)
    old_cable = sym (renamed_cable p S cl st0 0 (as_net R) (λ o. closed_other v e c (boxed e) apart_v few_c (2 ^ 25 + 128 * 0 + o) (λ s. omega (arith, s, room))))

    first_is_v : T.first v ≡ T.second e
    first_is_v =
        ap (λ k. map cl (first_names k v)) colour_v
        ∙ news_become v e c (boxed e) apart_v few_c
        ∙ sym (second_stays v e c (boxed e) apart_v few_c (colour e) e (boxed e) (few e) (λ s. apart_v (sym s)) ∙ second_e)

    abbrev ls : List ℕ
    ls = crossing_labels items

    label_low : (q : ℕ) → q < length ls → slice_index ls q < n
    label_low q l = fresh_above items (slice_index ls q) (crossing_label items (slice_index ls q) (is_member-get_or ls q l))

    places_e : AreTwo ls e (rank ls e) (second_place items e)
    places_e = first_before_second items e two_e

    fit_e : Fit T e v (second_place items e) first_is_v free_v 0 [] ls
    fit_e =
        fits T e v (second_place items e) first_is_v free_v (rank ls e) places_e.order 0 [] ls
        (λ q l s. let h = label_low q l in omega (arith, h, s))
        (λ q l s. let t : q ≡ second_place items e = omega (arith, s) in ap (slice_index ls) t ∙ places_e.second_is)
        (λ q l s. let t : q ≡ rank ls e = omega (arith, s) in ap (slice_index ls) t ∙ places_e.first_is)
        (λ h. absurd (omega (arith, h)))

    uncut : cable_nodes p T st0 (as_net R) ≡ cable_nodes p T st0 (as_net items)
    uncut = recut T e v (second_place items e) first_is_v free_v p items 0 st0 [] pd.sizes record { alike = λ x d. refl; new = λ h. refl } fit_e

    abbrev S0 : Strands
    S0 = diagram_strands p items colours

    alike_T : (l : ℕ) → is_member ◌==◌ (labels item_labels items) l ≡ true → AreAlike T S0 l
    alike_T l m =
        let below = fresh_above items l m in
        let dv : l ≢ v = λ s. omega (arith, s, below) in
        record {
          first = first_stays v e c (boxed e) apart_v few_c (colour l) l (few l) dv ∙ ap (λ k. first_names k l) (colour_old l m);
          second = second_stays v e c (boxed e) apart_v few_c (colour l) l (boxed l) (few l) dv ∙ ap₂ (λ k t. second_names k t l) (colour_old l m) (boxed_old l m);
          boxed = boxed_old l m;
        }

    alike_S : (l : ℕ) → is_member ◌==◌ (labels item_labels items) l ≡ true → AreAlike S S0 l
    alike_S l m = record {
      first = ap (λ k. first_names k l) (colour_old l m);
      second = ap₂ (λ k t. second_names k t l) (colour_old l m) (boxed_old l m);
      boxed = boxed_old l m;
    }

    loops_same : free ≡ loop_count S0 (as_net items)
    loops_same =
        let q : Item = item.X (curl_slots e v n sign) in
        let a = ap (loop_count S) (as_net-append R (q ∷ [])) ∙ loop_count-append S (as_net R) (as_net (q ∷ [])) in
        let d = recut_loops S (one_place (second_place items e) v) 0 items in
        let g = ap (λ c. c.free_loops) (same_cable S S0 refl p (as_net items) (all_labels (AreAlike S S0) items alike_S)) in
        omega (arith, a, d, g)

    strands_value : (b : Bool) → V (arcs_of (Pe b) ++ CR) ≡ coloured p items colours
    unfolding coloured
    strands_value b =
        close b
        ∙ ap V (old_cable ∙ uncut)
        ∙ anywhere p.modulus (loop_value p) free p T 1 (count_placed (as_net after) + 1) (as_net items)
        ∙ ap (λ c. V c.nodes) (same_cable T S0 refl p (as_net items) (all_labels (AreAlike T S0) items alike_T))
        ∙ ap (λ k. value p.modulus (loop_value p) record { nodes = cable_nodes p S0 (start (as_net items)) (as_net items); free_loops = k }) loops_same

    -- THE FACTOR OF THE CROSSING IS THAT OF THE DIAGRAM
    pub curled_coloured : (w : ℕ) (b : Bool) → V (X1 ++ CR) ≡ w * V (arcs_of (Pe b) ++ CR) % p.modulus → coloured p after colours ≡ w * coloured p items colours % p.modulus
    unfolding coloured
    curled_coloured w b h = to_front ∙ h ∙ ap (λ k. w * k % p.modulus) (strands_value b)

    -- ---- no strand, and one
    small_value : (ns : List Node) → 1 * V ns % p.modulus ≡ V ns
    unfolding value
    small_value ns = ap (λ k. k % p.modulus) (let e : 1 * V ns ≡ V ns = omega arith in e) ∙ mod-mod _ p.modulus

    no_strand : c ≡ 0 → V (X1 ++ CR) ≡ curl_twist p c sign * V (arcs_of (Pe (is_plus sign)) ++ CR) % p.modulus
    no_strand none =
        let K : List ℕ → List ℕ → List ℕ → List Node = curl_cable p st2.group st2.index sign in
        let at_e : S.second e ≡ [] = second_e ∙ ap (λ k. second_names k (boxed e) e) none in
        let at_v : S.second v ≡ [] = second_v ∙ ap (λ k. reverse (first_names k v)) none in
        let at_n : M ≡ [] = first_n ∙ ap (λ k. first_names k n) none in
        ap (λ ns. V (ns ++ CR)) (ap₂ (λ x y. K x y M) at_e at_v ∙ ap (K [] []) at_n ∙ empty sign)
        ∙ sym (small_value CR)
        ∙ ap₂ (λ w ns. w * V (ns ++ CR) % p.modulus) (sym (ap (λ k. curl_twist p k sign) none ∙ no_twist p sign)) (sym (ap arcs_of (no_pairs (is_plus sign))))
      where
        empty : (s : Sign) → curl_cable p st2.group st2.index s [] [] [] ≡ []
        empty signs.Plus = refl
        empty signs.Minus = refl

        no_pairs : (b : Bool) → Pe b ≡ []
        no_pairs true = ap (λ k. zip (second_names k (boxed e) e) (first_names k v)) none
        no_pairs false = ap (λ k. zip (reverse (first_names k v)) (reverse (second_names k (boxed e) e))) none

    abbrev x : ℕ
    x = 16 * e + 2 * 0 + cond (boxed e) 1 0

    abbrev y : ℕ
    y = 16 * v + 2 * 0

    abbrev z : ℕ
    z = 16 * n + 2 * 0

    single : c ≡ 1 → V (X1 ++ CR) ≡ curl_twist p c sign * V (arcs_of (Pe (is_plus sign)) ++ CR) % p.modulus
    single one =
        let K : Sign → List ℕ → List ℕ → List ℕ → List Node = curl_cable p st2.group st2.index in
        let at_e : S.second e ≡ x ∷ [] = second_e ∙ ap (λ k. second_names k (boxed e) e) one in
        let at_v : S.second v ≡ y ∷ [] = second_v ∙ ap (λ k. reverse (first_names k v)) one in
        let at_n : M ≡ z ∷ [] = first_n ∙ ap (λ k. first_names k n) one in
        let same : X1 ≡ K sign (x ∷ []) (y ∷ []) (z ∷ []) = ap₂ (λ a b. K sign a b M) at_e at_v ∙ ap (K sign (x ∷ []) (y ∷ [])) at_n in
        let l = low_e in let s = one_most (boxed e) in
        ap (λ ns. V (ns ++ CR)) same
        ∙ one_strand p free st2.group st2.index x y z sign CR ok_R
        (λ u h.
        let t = times_of-append u X1 CR in
        let q = ap (λ ns. times_in (names_of ns) u) same in
        let k = slots sign u in
        let two = all_twice u (omega (arith, t, q, k, h)) in omega (arith, t, q, k, two))
        (differ z x (λ d. omega (arith, d, l, s))) (differ z y (λ d. omega (arith, d))) (differ x y (λ d. omega (arith, d, l, s)))
        ∙ ap₂ (λ k ns. curl_twist p k sign * V (ns ++ CR) % p.modulus) (sym one) (sym (one_pair sign))
      where
        slots : (s : Sign) (u : ℕ) → times_in (names_of (curl_cable p st2.group st2.index s (x ∷ []) (y ∷ []) (z ∷ []))) u ≡ times_in (z ∷ z ∷ x ∷ y ∷ []) u
        slots signs.Plus u = omega arith
        slots signs.Minus u = omega arith

        differ : (a b : ℕ) → a ≢ b → (a == b) ≡ false
        differ a b d = grind (arith, nat_tests, d)

        one_pair : (s : Sign) → arcs_of (Pe (is_plus s)) ≡ arc (first_open x y s) (second_open x y s) ∷ []
        one_pair signs.Plus = ap (λ k. arcs_of (zip (second_names k (boxed e) e) (first_names k v))) one
        one_pair signs.Minus = ap (λ k. arcs_of (zip (reverse (first_names k v)) (reverse (second_names k (boxed e) e)))) one

    -- THE CURL OF AT MOST ONE STRAND
    pub few_strands : c ≤ 1 → coloured p after colours ≡ curl_twist p c sign * coloured p items colours % p.modulus
    few_strands h = curled_coloured (curl_twist p c sign) (is_plus sign) (⊎_elim (λ e. no_strand e) (λ s. (let k = s.1 in single (omega (arith, k, h)))) (zero_or_some c))
