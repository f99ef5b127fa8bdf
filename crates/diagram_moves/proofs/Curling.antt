-- Curl and BlowUp multiply the value by their factors.
use Rattle.std.proofs.Common.{◌≡◌, ℕ, ◌+◌, ◌*◌, ◌^◌, ◌%◌, ◌<◌, ◌≤◌, Bool, true, false, cond, not, ◌||◌, ◌==◌, List, [], ◌∷◌, ◌++◌, map, length, slice_index, refl, sym, ap, ◌∙◌, arith, ⊎_elim, All, subst, append-nil, append_assoc}
use Rattle.std.specs.List.{AllByRecursion, count_by}
use Rattle.std.specs.Set.{is_member, unique_keys}
use Rattle.std.proofs.lemmas.Bool.{eqb-true, cases_Bool, cases_eq}
use Rattle.std.proofs.lemmas.Bool.Decides.{nat_tests}
use Rattle.std.proofs.lemmas.List.Elements.{All-append, All-cons, All-nil}
use Rattle.std.proofs.lemmas.List.Sums.{sum_by-cons}
use Rattle.std.proofs.lemmas.Nat.{mul-mod_first}
use Rattle.graph_parts.proofs.Ends.{is_member-get_or}
use Rattle.graph_parts.specs.Walks.{Joined, along, stay, back, on}
use Rattle.pd_reader.specs.declared.item.Item.{Item}
use Rattle.pd_reader.specs.declared.item.Item.TheVariants as item
use Rattle.pd_reader.specs.Items.{HasItsSlots, item_labels}
use Rattle.pd_reader.specs.Diagrams.{labels}
use Rattle.planar_check.specs.declared.sign.Sign.{Sign}
use Rattle.planar_check.specs.declared.sign.Sign.TheVariants as signs
use Rattle.diagram_brackets.specs.Brackets.{loop_count}
use Rattle.state_sums.specs.LocalSums.{rename, crossing, AreSkeinNumbers}
use Rattle.state_sums.specs.Networks.{Node, IsNode, names_of}
use Rattle.state_sums.specs.StateSums.{value}
use Rattle.state_sums.proofs.Congruent.{pow_1}
use Rattle.state_sums.proofs.NetworkLaws.{disjoint_networks, no_nodes}
use Rattle.state_sums.proofs.NodeNames.{names_of-rename}
use Rattle.state_sums.proofs.StateEdges.{HavePlaces-from_nodes}
use Rattle.diagram_moves.specs.Rewriting.{crossing_labels, at_places, fresh}
use Rattle.diagram_moves.specs.Moves.{second_place, curl_slots, curled_loop}
use Rattle.diagram_moves.specs.Laws.{IsPairedDiagram}
use Rattle.diagram_moves.proofs.Corners.{turned_numbers}
use Rattle.diagram_moves.proofs.Nodes.{node, nodes_of, names_of-nodes, nodes_of-append, IsNode-nodes, IsNode-node, V, corner_value}
use Rattle.diagram_moves.proofs.Paired.{loop_labels, loop_once, sizes-append}
use Rattle.list_lemmas.proofs.Times.{member_of_times, times_none, times_in-append}
use Rattle.diagram_moves.proofs.PlaceLemmas.{second_place_of, crossing_labels-at_places, sizes-at_places, loop_count-at_places, EachFrom, each_from, mapped_back, times_one_place, one_place, fresh_above}
use Rattle.diagram_moves.proofs.Pushing.{fresh_total, crossing_label, crossing_labels-append}
use Rattle.diagram_moves.proofs.Undone.{paired_by, contraction_from, loop_count-append, unique_twice}
use Rattle.list_lemmas.specs.Times.{times_in}
use Rattle.piece_laws.specs.Arcs.{arcs_of, AreClassLabels, closed_classes}
use Rattle.graph_parts.specs.Ends.{ends_of}
use Rattle.piece_laws.proofs.Closing.{arcs_close, none_counted}
use Rattle.piece_laws.proofs.MovedRuns.{value_moved}
use Rattle.piece_laws.proofs.RenamedNodes.{rename_fixed}
use Rattle.piece_laws.proofs.PlainMoves.{curl_anywhere}

-- whether a curl is positive
abbrev pub is_plus : Sign → Bool
is_plus signs.Plus = true
is_plus signs.Minus = false

-- the open names of a curl's corner
abbrev pub first_open : ℕ → ℕ → Sign → ℕ
first_open x y signs.Plus = x
first_open x y signs.Minus = y

abbrev pub second_open : ℕ → ℕ → Sign → ℕ
second_open x y signs.Plus = y
second_open x y signs.Minus = x

-- ---- a curl in front
module _ (m delta a b : ℕ) (numbers : AreSkeinNumbers m a b delta) (free x y n : ℕ) (sign : Sign) (rest : List Node) (are : All IsNode rest)
    (w : ℕ) (factor : (let u = cond (is_plus sign) a b in w + u * u * u) % m ≡ 0 % m)
    (twice : (z : ℕ) → 1 ≤ times_in (n ∷ n ∷ x ∷ y ∷ []) z + times_in (names_of rest) z → times_in (n ∷ n ∷ x ∷ y ∷ []) z + times_in (names_of rest) z ≡ 2) where
  abbrev p : ℕ
  p = first_open x y sign

  abbrev q : ℕ
  q = second_open x y sign

  abbrev u : ℕ
  u = cond (is_plus sign) a b

  abbrev v : ℕ
  v = cond (is_plus sign) b a

  cornered : V a b m delta free (node a b (curl_slots x y n sign) ∷ rest) ≡ V a b m delta free (crossing u v n n p q ∷ rest)
  cornered =
      elim sign as (λ s. V a b m delta free (node a b (curl_slots x y n s) ∷ rest) ≡ V a b m delta free (crossing (cond (is_plus s) a b) (cond (is_plus s) b a) n n (first_open x y s) (second_open x y s) ∷ rest)) [
        | signs.Plus ↦ corner_value a b m delta free rest are 2 (omega arith) (x ∷ y ∷ n ∷ n ∷ []) refl
        | signs.Minus ↦ corner_value a b m delta free rest are 1 (omega arith) (x ∷ n ∷ n ∷ y ∷ []) refl
      ]

  open_times : (z : ℕ) → cond (z == p) 1 0 + cond (z == q) 1 0 ≡ cond (z == x) 1 0 + cond (z == y) 1 0
  open_times z =
      elim sign as (λ s. cond (z == first_open x y s) 1 0 + cond (z == second_open x y s) 1 0 ≡ cond (z == x) 1 0 + cond (z == y) 1 0) [ signs.Plus ↦ refl | signs.Minus ↦ omega arith ]

  old_twice : (z : ℕ) → 1 ≤ times_in (n ∷ n ∷ p ∷ q ∷ []) z + times_in (names_of rest) z → times_in (n ∷ n ∷ p ∷ q ∷ []) z + times_in (names_of rest) z ≡ 2
  old_twice z h =
      let o = open_times z in
      let same : times_in (n ∷ n ∷ p ∷ q ∷ []) z ≡ times_in (n ∷ n ∷ x ∷ y ∷ []) z = omega (arith, o) in
      let t = twice z (omega (arith, same, h)) in omega (arith, same, t)

  -- A CURL IS ITS FACTOR TIMES ITS STRAND
  pub front_curl : V a b m delta free (node a b (curl_slots x y n sign) ∷ rest) ≡ w * V a b m delta free (arcs_of ((n, p) ∷ (n, q) ∷ []) ++ rest) % m
  front_curl =
      cornered
      ∙ curl_anywhere m u v delta (turned_numbers m a b delta numbers (is_plus sign)) free rest are w n p q factor (paired_by (n ∷ n ∷ p ∷ q ∷ []) (names_of rest) old_twice)

-- ---- on an edge
module _ (items : List Item) (pd : IsPairedDiagram items) (e : ℕ) (has : is_member ◌==◌ (crossing_labels items) e ≡ true) (sign : Sign) where
  abbrev pub n : ℕ
  n = fresh items

  abbrev pub cut : ℕ → ℕ → ℕ
  cut = one_place (second_place items e) (n + 1)

  abbrev pub R : List Item
  R = at_places cut 0 items

  abbrev pub slots : List ℕ
  slots = curl_slots e (n + 1) n sign

  abbrev after : List Item
  after = R ++ item.X slots ∷ []

  slots_four : length slots ≡ 4
  slots_four = elim sign as (λ s. length (curl_slots e (n + 1) n s) ≡ 4) [ signs.Plus ↦ refl | signs.Minus ↦ refl ]

  pub sizes-curled : AllByRecursion HasItsSlots after
  sizes-curled = sizes-append R (item.X slots ∷ []) (sizes-at_places cut 0 items pd.sizes) (slots_four, tt)

  loops-curled : loop_count after ≡ loop_count items
  loops-curled = loop_count-append R (item.X slots ∷ []) ∙ (let k = loop_count-at_places cut 0 items in omega (arith, k))

  pub low : e < n
  low = fresh_above items e (crossing_label items e has)

  abbrev pub new_two : ℕ → ℕ
  new_two z = cond (z == n) 1 0 + cond (z == n + 1) 1 0

  pub two_old : (z : ℕ) → z < n → new_two z ≡ 0
  two_old z l = grind (arith, nat_tests, l)

  pub two_most : (z : ℕ) → new_two z ≤ 1
  two_most z = grind (arith, nat_tests)

  cut_total : (z : ℕ) → times_in (n ∷ n ∷ e ∷ (n + 1) ∷ []) z + times_in (crossing_labels R) z ≡ times_in (crossing_labels items) z + 2 * new_two z
  cut_total z =
      let se = second_place_of items e has in
      let t = times_one_place (crossing_labels items) (second_place items e) (n + 1) e z se.0 se.1 in
      let same = ap (λ ns. times_in ns z) (crossing_labels-at_places cut 0 items) in
      let u : times_in (n ∷ n ∷ e ∷ (n + 1) ∷ []) z ≡ 2 * cond (z == n) 1 0 + cond (z == e) 1 0 + cond (z == n + 1) 1 0 = omega arith in
      omega (arith, t, same, u)

  slots_times : (z : ℕ) → times_in slots z ≡ times_in (n ∷ n ∷ e ∷ (n + 1) ∷ []) z
  slots_times z = elim sign as (λ s. times_in (curl_slots e (n + 1) n s) z ≡ times_in (n ∷ n ∷ e ∷ (n + 1) ∷ []) z) [ signs.Plus ↦ omega arith | signs.Minus ↦ omega arith ]

  pub curled_times : (z : ℕ) → times_in (crossing_labels after) z ≡ times_in (crossing_labels items) z + 2 * new_two z
  curled_times z =
      let a = ap (λ ns. times_in ns z) (crossing_labels-append R (item.X slots ∷ []) ∙ ap (λ ns. crossing_labels R ++ ns) (append-nil slots)) in
      let b = times_in-append (crossing_labels R) slots z in
      let c = slots_times z in let t = cut_total z in omega (arith, a, b, c, t)

  -- ---- the arcs close
  abbrev pub label : ℕ → ℕ
  label z = cond (z == n || z == n + 1) e z

  pub label_old : (z : ℕ) → z < n → label z ≡ z
  label_old z l = grind (arith, nat_tests, l)

  pub label_n : label n ≡ e
  label_n = grind (arith, nat_tests)

  pub label_n1 : label (n + 1) ≡ e
  label_n1 = grind (arith, nat_tests)

  abbrev pub edge_p : ℕ
  edge_p = first_open e (n + 1) sign

  abbrev pub edge_q : ℕ
  edge_q = second_open e (n + 1) sign

  abbrev pub pairs : List (ℕ × ℕ)
  pairs = (n, edge_p) ∷ (n, edge_q) ∷ []

  pub label_p : label edge_p ≡ e
  label_p = elim sign as (λ s. label (first_open e (n + 1) s) ≡ e) [ signs.Plus ↦ label_old e low | signs.Minus ↦ label_n1 ]

  pub label_q : label edge_q ≡ e
  label_q = elim sign as (λ s. label (second_open e (n + 1) s) ≡ e) [ signs.Plus ↦ label_n1 | signs.Minus ↦ label_old e low ]

  walks : (s : Sign) → Joined pairs n (first_open e (n + 1) s) → Joined pairs n (second_open e (n + 1) s) → Joined pairs n e × Joined pairs (n + 1) e
  walks signs.Plus i j = (i, on (back j) i)
  walks signs.Minus i j = (j, on (back i) j)

  pub joined_label : (z : ℕ) → Joined pairs z (label z)
  joined_label z =
      let we = walks sign (along (0, omega arith, refl)) (along (1, omega arith, refl)) in
      let P : ℕ → Type 0 = λ y. Joined pairs y (label y) in
      let Q : ℕ → ℕ → Type 0 = λ y x. Joined pairs y x in
      ⊎_elim (λ s. subst P (sym s) (subst (Q n) (sym label_n) we.0))
      (λ s0. ⊎_elim (λ s. subst P (sym s) (subst (Q (n + 1)) (sym label_n1) we.1))
      (λ s1. let own : label z ≡ z = grind (arith, nat_tests, s0, s1) in subst (Q z) (sym own) stay)
      (cases_eq z (n + 1))) (cases_eq z n)

  contraction : AreClassLabels pairs label
  contraction = contraction_from pairs label joined_label (label_n ∙ sym label_p, (label_n ∙ sym label_q, tt))

  pub each_back : EachFrom (λ i l. label (cut i l) ≡ l) 0 (crossing_labels items)
  each_back =
      each_from (λ i l. label (cut i l) ≡ l) 0 (crossing_labels items)
      (λ i short.
      let ls = crossing_labels items in
      let se = second_place_of items e has in
      let small = fresh_above items (slice_index ls i) (crossing_label items (slice_index ls i) (is_member-get_or ls i short)) in
      let own = label_old (slice_index ls i) small in
      let zero_more : 0 + i ≡ i = omega arith in
      let goal : label (cut i (slice_index ls i)) ≡ slice_index ls i =
      ⊎_elim
      (λ t. ap label (ap (λ c. cond c (n + 1) (slice_index ls i)) t) ∙ label_n1 ∙ sym se.1 ∙ ap (slice_index ls) (sym (eqb-true i (second_place items e) t)))
      (λ t. ap label (ap (λ c. cond c (n + 1) (slice_index ls i)) t) ∙ own)
      (cases_Bool (i == second_place items e)) in
      ap (λ j. label (cut j (slice_index ls i))) zero_more ∙ goal)

  module _ (m delta a b : ℕ) (numbers : AreSkeinNumbers m a b delta) (w : ℕ) (factor : (let u = cond (is_plus sign) a b in w + u * u * u) % m ≡ 0 % m) where
    abbrev rest : List Node
    rest = nodes_of a b R

    rest_nodes : All IsNode rest
    rest_nodes = IsNode-nodes a b R (sizes-at_places cut 0 items pd.sizes)

    none_closed : closed_classes label pairs (names_of rest) ≡ 0
    none_closed =
        let labels_back : map label (names_of rest) ≡ crossing_labels items =
        sym (names_of-rename label rest) ∙ ap names_of (mapped_back a b label cut 0 items each_back) ∙ names_of-nodes a b items in
        let ends : map label (ends_of pairs) ≡ e ∷ e ∷ e ∷ e ∷ [] = (let p1 = label_n in let p2 = label_p in let p3 = label_q in cc) in
        ap (λ ns. count_by (λ end. not (is_member ◌==◌ ns end)) (unique_keys ◌==◌ (map label (ends_of pairs)))) labels_back
        ∙ ap (λ ns. count_by (λ end. not (is_member ◌==◌ (crossing_labels items) end)) (unique_keys ◌==◌ ns)) ends
        ∙ none_counted (λ end. not (is_member ◌==◌ (crossing_labels items) end)) (e ∷ e ∷ e ∷ e ∷ [])
        (λ z h. let at_e = λ (s : z ≡ e). ap (is_member ◌==◌ (crossing_labels items)) s ∙ has in grind (arith, nat_tests, h, at_e))

    twice : (z : ℕ) → 1 ≤ times_in (n ∷ n ∷ e ∷ (n + 1) ∷ []) z + times_in (names_of rest) z → times_in (n ∷ n ∷ e ∷ (n + 1) ∷ []) z + times_in (names_of rest) z ≡ 2
    twice z h =
        let s = ap (λ ns. times_in ns z) (names_of-nodes a b R) in
        let t = cut_total z in
        let two = fresh_total items pd z (new_two z) (two_old z) (two_most z) (omega (arith, s, t, h)) in omega (arith, s, t, two)

    -- CURL ON AN EDGE
    pub curled_value : value m delta record { nodes = nodes_of a b after; free_loops = loop_count after } ≡ w * value m delta record { nodes = nodes_of a b items; free_loops = loop_count items } % m
    curled_value =
        let free = loop_count items in
        ap (λ k. V a b m delta k (nodes_of a b after)) loops-curled
        ∙ ap (V a b m delta free) (nodes_of-append a b R (item.X slots ∷ []))
        ∙ value_moved m delta free rest (node a b slots ∷ []) [] (HavePlaces-from_nodes rest rest_nodes)
        (HavePlaces-from_nodes (node a b slots ∷ []) (All-cons IsNode (node a b slots) [] (IsNode-node a b slots slots_four) (All-nil IsNode))) (HavePlaces-from_nodes [] (All-nil IsNode))
        ∙ ap (λ ns. V a b m delta free (node a b slots ∷ ns)) (append-nil rest)
        ∙ front_curl m delta a b numbers free e (n + 1) n sign rest rest_nodes w factor twice
        ∙ ap (λ k. w * k % m)
        (arcs_close m delta free pairs label rest rest_nodes contraction
        ∙ ap (λ ns. value m delta record { nodes = ns; free_loops = free + closed_classes label pairs (names_of rest) }) (mapped_back a b label cut 0 items each_back)
        ∙ ap (λ k. V a b m delta k (nodes_of a b items)) (let z = none_closed in let s : free + closed_classes label pairs (names_of rest) ≡ free = omega (arith, z) in s))

-- ---- on a Loop
curled_front : (a b m delta free : ℕ) (e : ℕ) (slots : List ℕ) → length slots ≡ 4 → (items : List Item) → AllByRecursion HasItsSlots items → (front : List Node) → All IsNode front →
    is_member ◌==◌ (loop_labels items) e ≡ true →
    (V a b m delta free (front ++ nodes_of a b (curled_loop e slots items)) ≡ V a b m delta free (node a b slots ∷ (front ++ nodes_of a b items)))
curled_front a b m delta free e slots four [] h front are there = absurd (grind (arith, there))
curled_front a b m delta free e slots four (item.X here ∷ rest) h front are there =
    ap (V a b m delta free) (sym (append_assoc front (node a b here ∷ []) (nodes_of a b (curled_loop e slots rest))))
    ∙ curled_front a b m delta free e slots four rest h.1 (front ++ node a b here ∷ []) (All-append IsNode front (node a b here ∷ []) are (All-cons IsNode (node a b here) [] (IsNode-node a b here h.0) (All-nil IsNode))) there
    ∙ ap (λ ns. V a b m delta free (node a b slots ∷ ns)) (append_assoc front (node a b here ∷ []) (nodes_of a b rest))
curled_front a b m delta free e slots four (item.Loop l ∷ rest) h front are there =
    ⊎_elim
    (λ t. ap (λ c. V a b m delta free (front ++ nodes_of a b (cond c (item.X slots ∷ rest) (item.Loop l ∷ curled_loop e slots rest)))) t
    ∙ value_moved m delta free front (node a b slots ∷ []) (nodes_of a b rest) (HavePlaces-from_nodes front are)
    (HavePlaces-from_nodes (node a b slots ∷ []) (All-cons IsNode (node a b slots) [] (IsNode-node a b slots four) (All-nil IsNode))) (HavePlaces-from_nodes (nodes_of a b rest) (IsNode-nodes a b rest h.1)))
    (λ t. ap (λ c. V a b m delta free (front ++ nodes_of a b (cond c (item.X slots ∷ rest) (item.Loop l ∷ curled_loop e slots rest)))) t
    ∙ curled_front a b m delta free e slots four rest h.1 front are (let s : is_member ◌==◌ (loop_labels rest) e ≡ true = grind (arith, nat_tests, t, there) in s))
    (cases_Bool (l == e))

pub loops_curled : (e : ℕ) (slots : List ℕ) (items : List Item) → is_member ◌==◌ (loop_labels items) e ≡ true → loop_count (curled_loop e slots items) + 1 ≡ loop_count items
loops_curled e slots [] there = absurd (grind (arith, there))
loops_curled e slots (item.X here ∷ rest) there = loops_curled e slots rest there
loops_curled e slots (item.Loop l ∷ rest) there =
    ⊎_elim
    (λ t. ap (λ c. loop_count (cond c (item.X slots ∷ rest) (item.Loop l ∷ curled_loop e slots rest)) + 1) t)
    (λ t. ap (λ c. loop_count (cond c (item.X slots ∷ rest) (item.Loop l ∷ curled_loop e slots rest)) + 1) t
    ∙ ap (λ k. k + 1) (loops_curled e slots rest (let s : is_member ◌==◌ (loop_labels rest) e ≡ true = grind (arith, nat_tests, t, there) in s)))
    (cases_Bool (l == e))

pub sizes-curled_loop : (e : ℕ) (slots : List ℕ) → length slots ≡ 4 → (items : List Item) → AllByRecursion HasItsSlots items → AllByRecursion HasItsSlots (curled_loop e slots items)
sizes-curled_loop e slots four [] h = tt
sizes-curled_loop e slots four (item.X here ∷ rest) h = (h.0, sizes-curled_loop e slots four rest h.1)
sizes-curled_loop e slots four (item.Loop l ∷ rest) h =
    let P : Bool → Type 0 = λ c. AllByRecursion HasItsSlots (cond c (item.X slots ∷ rest) (item.Loop l ∷ curled_loop e slots rest)) in
    ⊎_elim (λ t. subst P (sym t) (four, h.1)) (λ t. subst P (sym t) (tt, sizes-curled_loop e slots four rest h.1)) (cases_Bool (l == e))

module _ (items : List Item) (pd : IsPairedDiagram items) (e : ℕ) (has : is_member ◌==◌ (labels item_labels items) e ≡ true) (out : is_member ◌==◌ (crossing_labels items) e ≡ false) (sign : Sign) where
  abbrev pub k : ℕ
  k = fresh items

  abbrev pub loop_slots : List ℕ
  loop_slots = curl_slots e e k sign

  pub loop_slots_four : length loop_slots ≡ 4
  loop_slots_four = elim sign as (λ s. length (curl_slots e e k s) ≡ 4) [ signs.Plus ↦ refl | signs.Minus ↦ refl ]

  pub low_e : e < k
  low_e = fresh_above items e has

  pub is_loop_label : is_member ◌==◌ (loop_labels items) e ≡ true
  is_loop_label = member_of_times e (loop_labels items) (let t = loop_once items pd e has out in omega (arith, t))

  abbrev two_labels_more : ℕ → ℕ
  two_labels_more z = cond (z == k) 1 0 + cond (z == e) 1 0

  loop_total : (z : ℕ) → 1 ≤ times_in (crossing_labels items) z + 2 * two_labels_more z → times_in (crossing_labels items) z + 2 * two_labels_more z ≡ 2
  loop_total z h =
      ⊎_elim
      (λ s.
      let none : times_in (crossing_labels items) z ≡ 0 = ap (times_in (crossing_labels items)) s ∙ times_none (crossing_labels items) e out in
      let l : z < k = omega (arith, s, low_e) in
      let one : two_labels_more z ≡ 1 = grind (arith, nat_tests, s, l) in
      omega (arith, none, one))
      (λ s.
      let alone : two_labels_more z ≡ cond (z == k) 1 0 = grind (arith, nat_tests, s) in
      let old : z < k → cond (z == k) 1 0 ≡ 0 = λ l. (let o : two_labels_more z ≡ 0 = grind (arith, nat_tests, s, l) in omega (arith, alone, o)) in
      let most : two_labels_more z ≤ 1 = grind (arith, nat_tests, s) in
      let two = fresh_total items pd z (cond (z == k) 1 0) old (omega (arith, alone, most)) (omega (arith, alone, h)) in
      omega (arith, alone, two))
      (cases_eq z e)

  abbrev pub loop_label : ℕ → ℕ
  loop_label z = cond (z == k) e z

  abbrev pub loop_pairs : List (ℕ × ℕ)
  loop_pairs = (k, e) ∷ (k, e) ∷ []

  pub loop_label_e : loop_label e ≡ e
  loop_label_e = grind (arith, nat_tests, low_e)

  pub loop_label_k : loop_label k ≡ e
  loop_label_k = grind (arith, nat_tests)

  pub loop_joined : (z : ℕ) → Joined loop_pairs z (loop_label z)
  loop_joined z =
      let P : ℕ → Type 0 = λ y. Joined loop_pairs y (loop_label y) in
      let Q : ℕ → ℕ → Type 0 = λ y x. Joined loop_pairs y x in
      ⊎_elim (λ s. subst P (sym s) (subst (Q k) (sym loop_label_k) (along (0, omega arith, refl))))
      (λ s. let own : loop_label z ≡ z = grind (arith, nat_tests, s) in subst (Q z) (sym own) stay)
      (cases_eq z k)

  loop_contraction : AreClassLabels loop_pairs loop_label
  loop_contraction = contraction_from loop_pairs loop_label loop_joined (loop_label_k ∙ sym loop_label_e, (loop_label_k ∙ sym loop_label_e, tt))

  module _ (m delta a b : ℕ) (numbers : AreSkeinNumbers m a b delta) (w : ℕ) (factor : (let u = cond (is_plus sign) a b in w + u * u * u) % m ≡ 0 % m) where
    abbrev all : List Node
    all = nodes_of a b items

    fixed : rename loop_label all ≡ all
    fixed =
        rename_fixed loop_label all
        (λ x m.
        let there : is_member ◌==◌ (crossing_labels items) x ≡ true = sym (ap (λ ns. is_member ◌==◌ ns x) (names_of-nodes a b items)) ∙ m in
        let l = fresh_above items x (crossing_label items x there) in
        grind (arith, nat_tests, l))

    one_closed : closed_classes loop_label loop_pairs (names_of all) ≡ 1
    one_closed =
        let same : map loop_label (names_of all) ≡ crossing_labels items = sym (names_of-rename loop_label all) ∙ ap names_of fixed ∙ names_of-nodes a b items in
        let ends : map loop_label (ends_of loop_pairs) ≡ e ∷ e ∷ e ∷ e ∷ [] = (let p1 = loop_label_k in let p2 = loop_label_e in cc) in
        ap (λ ns. count_by (λ end. not (is_member ◌==◌ ns end)) (unique_keys ◌==◌ (map loop_label (ends_of loop_pairs)))) same
        ∙ ap (λ ns. count_by (λ end. not (is_member ◌==◌ (crossing_labels items) end)) (unique_keys ◌==◌ ns)) ends
        ∙ ap (count_by (λ end. not (is_member ◌==◌ (crossing_labels items) end))) (unique_twice e (e ∷ e ∷ []) ∙ unique_twice e (e ∷ []) ∙ unique_twice e [])
        ∙ sum_by-cons (λ end. cond (not (is_member ◌==◌ (crossing_labels items) end)) 1 0) e []
        ∙ ap (λ c. cond (not c) 1 0 + 0) out

    loop_twice : (z : ℕ) → 1 ≤ times_in (k ∷ k ∷ e ∷ e ∷ []) z + times_in (names_of all) z → times_in (k ∷ k ∷ e ∷ e ∷ []) z + times_in (names_of all) z ≡ 2
    loop_twice z h =
        let s = ap (λ ns. times_in ns z) (names_of-nodes a b items) in
        let u : times_in (k ∷ k ∷ e ∷ e ∷ []) z ≡ 2 * two_labels_more z = omega arith in
        let t = loop_total z (omega (arith, s, u, h)) in omega (arith, s, u, t)

    both_e : (x : Sign) → (first_open e e x ≡ e) × (second_open e e x ≡ e)
    both_e signs.Plus = (refl, refl)
    both_e signs.Minus = (refl, refl)

    -- CURL ON A LOOP
    pub curled_loop_value :
        value m delta record { nodes = nodes_of a b (curled_loop e loop_slots items); free_loops = loop_count (curled_loop e loop_slots items) }
        ≡ w * value m delta record { nodes = all; free_loops = loop_count items } % m
    curled_loop_value =
        let free = loop_count (curled_loop e loop_slots items) in
        let all_nodes = IsNode-nodes a b items pd.sizes in
        let both = both_e sign in
        curled_front a b m delta free e loop_slots loop_slots_four items pd.sizes [] (All-nil IsNode) is_loop_label
        ∙ front_curl m delta a b numbers free e e k sign all all_nodes w factor loop_twice
        ∙ ap (λ x. w * V a b m delta free (arcs_of ((k, x) ∷ (k, second_open e e sign) ∷ []) ++ all) % m) both.0
        ∙ ap (λ x. w * V a b m delta free (arcs_of ((k, e) ∷ (k, x) ∷ []) ++ all) % m) both.1
        ∙ ap (λ n. w * n % m)
        (arcs_close m delta free loop_pairs loop_label all all_nodes loop_contraction
        ∙ ap (λ ns. value m delta record { nodes = ns; free_loops = free + closed_classes loop_label loop_pairs (names_of all) }) fixed
        ∙ ap (λ n. V a b m delta n all) (let c = one_closed in let l = loops_curled e loop_slots items is_loop_label in let s : free + closed_classes loop_label loop_pairs (names_of all) ≡ loop_count items = omega (arith, c, l) in s))

-- ---- BlowUp
pub blown_value : (m delta free : ℕ) (nodes : List Node) → All IsNode nodes →
    value m delta record { nodes = nodes; free_loops = free + 1 } ≡ delta * value m delta record { nodes = nodes; free_loops = free } % m
blown_value m delta free nodes are =
    let one : free + 1 ≡ 1 + free = omega arith in
    let rest = value m delta record { nodes = nodes; free_loops = free } in
    ap (λ n. value m delta record { nodes = nodes; free_loops = n }) one
    ∙ disjoint_networks m delta 1 free [] nodes (All-nil IsNode) are (λ x h. absurd (grind (arith, h)))
    ∙ ap (λ n. n * rest % m) (no_nodes m delta 1)
    ∙ mul-mod_first (delta ^ 1) rest m
    ∙ ap (λ n. n * rest % m) (pow_1 delta)
