-- Curl on a Loop of a colour from 2 on: the loop's box is beside the new crossing, so the crossing is its factor times the strands, which close to the
-- loop from before.
use Rattle.std.proofs.Common.{◌≡◌, ◌≢◌, ℕ, suc, ◌+◌, ◌-◌, ◌*◌, ◌%◌, ◌<◌, ◌≤◌, ◌==◌, ◌&&◌, nat_le, Bool, true, false, cond, List, [], ◌∷◌, ◌++◌, map, length, reverse, refl, sym, ap, ap₂, ◌∙◌, arith, ⊎_elim, All, subst, length-append}
use Rattle.std.specs.List.{AllByRecursion, zip}
use Rattle.std.specs.List.Sorted.{IsPermutation}
use Rattle.std.specs.Set.{is_member}
use Rattle.std.proofs.lemmas.Bool.{cases_Bool, cases_eq}
use Rattle.std.proofs.lemmas.Bool.Decides.{nat_tests}
use Rattle.std.proofs.lemmas.List.{length-reverse, map-append}
use Rattle.std.proofs.lemmas.List.Elements.{All-append, All-cons, All-head, All-map, All-nil, All-tail}
use Rattle.std.proofs.lemmas.List.Sorted.{All-permutation, IsPermutation-sym}
use Rattle.std.proofs.lemmas.List.Sums.{AllPass-from_list_all}
use Rattle.list_lemmas.specs.Times.{times_in}
use Rattle.list_lemmas.proofs.Times.{member_of_times, times_none, times_of_member, times_in-append, times_in-cons}
use Rattle.state_sums.specs.Networks.{Node, Term, IsNode, IsPairing, names_of}
use Rattle.state_sums.specs.StateSums.{value}
use Rattle.state_sums.proofs.NetworkLaws.{any_order}
use Rattle.root_quantum.specs.Parameters.{Parameters}
use Rattle.root_quantum.specs.QuantumNumbers.{loop_value}
use Rattle.strand_algebra.specs.Projectors.{IsProjector}
use Rattle.piece_laws.specs.Arcs.{arcs_of}
use Rattle.piece_laws.specs.TurnedNodes.{without_group}
use Rattle.piece_laws.proofs.Ungrouped.{groups}
use Rattle.box_laws.proofs.HalfTurns.{half_turned_box}
use Rattle.pd_reader.specs.declared.item.Item.{Item}
use Rattle.pd_reader.specs.Items.{item_labels, HasItsSlots}
use Rattle.pd_reader.specs.Diagrams.{labels, IsDiagram}
use Rattle.planar_check.specs.Components.{least_labels, component_least}
use Rattle.planar_check.specs.declared.sign.Sign.{Sign}
use Rattle.planar_check.specs.declared.sign.Sign.TheVariants as signs
use Rattle.cables.specs.CableNodes.{crossing_cable, box_node}
use Rattle.cables.specs.Cables.{start, cable_nodes, loop_count, loop_nodes, loops_at, as_net}
use Rattle.cables.specs.Laws.{IsSmallNetwork}
use Rattle.cables.specs.Nets.{HasProjector, projector_of}
use Rattle.cables.specs.Strands.{Strands}
use Rattle.cables.proofs.NameCounts.{times_of-append, times-reverse}
use Rattle.cables.proofs.NumberedStrands.{first_length, as_many_strands}
use Rattle.coloured_values.specs.Coloured.{colour_of, is_boxed, diagram_strands, cabled, coloured}
use Rattle.coloured_values.specs.Laws.{HasColours}
use Rattle.coloured_values.proofs.CabledDiagrams.{cabled_network, few_colours}
use Rattle.diagram_moves.specs.Laws.{IsPairedDiagram}
use Rattle.diagram_moves.specs.Moves.{curl_slots, curled_loop}
use Rattle.diagram_moves.specs.Rewriting.{crossing_labels, fresh}
use Rattle.diagram_moves.proofs.Curling.{loop_label, loop_label_k, loop_slots_four, is_loop_label, sizes-curled_loop}
use Rattle.diagram_moves.proofs.Paired.{loop_labels}
use Rattle.diagram_moves.proofs.PlaceLemmas.{fresh_above}
use Rattle.diagram_moves.proofs.Pushing.{crossing_label}
use Rattle.pd_reader.specs.declared.item.Item.TheVariants as item
use Rattle.move_results.proofs.ComponentLaws.{total, loop_contracts, curled_loop_components}
use Rattle.move_results.proofs.LeastLabelLists.{Contracts}
use Rattle.move_results.proofs.PairedResults.{curled_crossings}
use Rattle.cable_crossings.proofs.BundleTurns.{value_of_same}
use Rattle.cable_crossings.proofs.CabledBigon.{names_of-ungrouped, ungrouped_twice}
use Rattle.cable_crossings.proofs.ManyArcs.{arcs_ok}
use Rattle.cable_crossings.proofs.StepPieces.{member_of_one, All-first, All-second}
use Rattle.cable_crossings.proofs.ThroughArcs.{turned_arcs}
use Rattle.coloured_moves.proofs.ColouredSlides.{boxed_projector}
use Rattle.coloured_moves.proofs.CurledLoops.{curl_stubs}
use Rattle.coloured_moves.proofs.CurledStrands.{curl_cable, curl_twist}
use Rattle.coloured_moves.proofs.PulledStubs.{least_alone}
use Rattle.coloured_moves.proofs.PushedCables.{unboxed_second}
use Rattle.coloured_moves.proofs.SameComponents.{contracted_boxed, contracted_colour, contracted_cable, lowered_unboxed}
use Rattle.coloured_moves.proofs.StubItems.{half, at_stub, at_stub_is, stub_crossing, first_labels, first_labels_times}
use Rattle.coloured_moves.proofs.Tests.{clash, one_if}
use Rattle.coloured_moves.proofs.TurnedBoxes.{names_permuted}
use Rattle.coloured_curls.proofs.BoxedCurls.{before_curl, beside_box, box_merged}
use Rattle.coloured_curls.proofs.LoopNodes.{common, nodes_before, nodes_behind}

abbrev U : List Node → List Node
U = map without_group

-- ---- a projector's box does not tell its sides, whatever stands in front
pub half_turned : (m delta free n : ℕ) (f : List Term) (xs ys : List ℕ) (front back : List Node) → 0 < m → n ≤ 8 → IsProjector m delta n f → length xs ≡ n → length ys ≡ n →
    All IsNode front → All IsNode back → IsNode (box_node 0 f xs ys) → IsNode (box_node 0 f ys xs) →
    value m delta record { nodes = front ++ (box_node 0 f xs ys ∷ back); free_loops = free } ≡ value m delta record { nodes = front ++ (box_node 0 f ys xs ∷ back); free_loops = free }
half_turned m delta free n f xs ys front back some few is lx ly okf okb ok_xy ok_yx =
    let turned : List Node = front ++ (box_node 0 f xs ys ∷ back) in
    let plain : List Node = front ++ (box_node 0 f ys xs ∷ back) in
    value_of_same m delta free turned plain (All-append IsNode front (box_node 0 f xs ys ∷ back) okf (All-cons IsNode (box_node 0 f xs ys) back ok_xy okb)) (All-append IsNode front (box_node 0 f ys xs ∷ back) okf (All-cons IsNode (box_node 0 f ys xs) back ok_yx okb))
    (half_turned_box m delta 0 n 0 0 f ys xs front back [] some few is ly lx okf okb (AllPass-from_list_all (is_member ◌==◌ (names_of turned)) [] refl))

-- ---- nodes without groups
grouped_ok : (xs : List Node) → All IsNode (U xs) → All IsNode xs
grouped_ok [] h = All-nil IsNode
grouped_ok (x ∷ xs) h = All-cons IsNode x xs (All-head IsNode (without_group x) (U xs) h) (grouped_ok xs (All-tail IsNode (without_group x) (U xs) h))

-- ---- loops
loops_kept : (S : Strands) (e : ℕ) → loops_at (S.first e) ≡ 0 → (slots : List ℕ) (items : List Item) → is_member ◌==◌ (loop_labels items) e ≡ true → loop_count S (as_net (curled_loop e slots items)) ≡ loop_count S (as_net items)
loops_kept S e none slots [] there = absurd (grind (arith, there))
loops_kept S e none slots (item.X here ∷ rest) there = loops_kept S e none slots rest there
loops_kept S e none slots (item.Loop l ∷ rest) there =
    ⊎_elim
    (λ t. ap (λ c. loop_count S (as_net (cond c (item.X slots ∷ rest) (item.Loop l ∷ curled_loop e slots rest)))) t ∙ (let s = ap (λ k. loops_at (S.first k)) (same l e t) in omega (arith, s, none)))
    (λ t. ap (λ c. loop_count S (as_net (cond c (item.X slots ∷ rest) (item.Loop l ∷ curled_loop e slots rest)))) t
    ∙ (let ih = loops_kept S e none slots rest (let s : is_member ◌==◌ (loop_labels rest) e ≡ true = grind (arith, nat_tests, t, there) in s) in omega (arith, ih)))
    (cases_Bool (l == e))
  where
    same : (l e : ℕ) → (l == e) ≡ true → l ≡ e
    same l e t = grind (arith, nat_tests, t)

no_free_loop : (xs : List ℕ) → 2 ≤ length xs → loops_at xs ≡ 0
no_free_loop [] l = absurd (omega (arith, l))
no_free_loop (x ∷ []) l = absurd (omega (arith, l))
no_free_loop (x ∷ y ∷ xs) l = refl

loop_is : (S : Strands) (xs : List ℕ) → 2 ≤ length xs → U (loop_nodes S 0 xs) ≡ box_node 0 (S.box (length xs)) xs (reverse xs) ∷ []
loop_is S [] l = absurd (omega (arith, l))
loop_is S (x ∷ []) l = absurd (omega (arith, l))
loop_is S (x ∷ y ∷ xs) l = refl

-- ---- diagrams
module _ (p : Parameters) (items : List Item) (pd : IsPairedDiagram items) (e : ℕ) (has_e : is_member ◌==◌ (labels item_labels items) e ≡ true) (out_e : is_member ◌==◌ (crossing_labels items) e ≡ false) (sign : Sign) (colours : List ℕ)
    (after_is : IsDiagram (curled_loop e (curl_slots e e (fresh items) sign) items)) (has : HasColours (curled_loop e (curl_slots e e (fresh items) sign) items) colours) (projectors : AllByRecursion (HasProjector p) colours)
    (tall_e : 2 ≤ colour_of items colours e) where
  abbrev n : ℕ
  n = fresh items

  abbrev slots : List ℕ
  slots = curl_slots e e n sign

  abbrev after : List Item
  after = curled_loop e slots items

  abbrev S : Strands
  S = diagram_strands p after colours

  abbrev c : ℕ
  c = colour_of items colours e

  abbrev to : ℕ → ℕ
  to = loop_label items pd e has_e out_e sign

  contracts : Contracts after items to
  contracts = loop_contracts items pd e has_e out_e sign

  comps : least_labels after ≡ least_labels items
  comps = curled_loop_components items pd e has_e out_e sign

  there : is_member ◌==◌ (loop_labels items) e ≡ true
  there = is_loop_label items pd e has_e out_e sign

  sizes : AllByRecursion HasItsSlots after
  sizes = sizes-curled_loop e slots (loop_slots_four items pd e has_e out_e sign) items pd.sizes

  low_e : e < n
  low_e = fresh_above items e has_e

  apart : e ≢ n
  apart s = let l = low_e in omega (arith, s, l)

  out_n : is_member ◌==◌ (crossing_labels items) n ≡ false
  out_n = ⊎_elim (λ t. absurd (let l = fresh_above items n (crossing_label items n t) in omega (arith, l))) (λ t. t) (cases_Bool (is_member ◌==◌ (crossing_labels items) n))

  -- ---- colours and boxes
  colour_at : (l : ℕ) → is_member ◌==◌ (labels item_labels after) l ≡ true → colour_of after colours l ≡ colour_of items colours (to l)
  colour_at l m = contracted_colour after items to contracts sizes pd.sizes comps colours l m

  n_in : is_member ◌==◌ (labels item_labels after) n ≡ true
  n_in = let t = total items pd e has_e out_e sign n in member_of_times n (labels item_labels after) (grind (arith, nat_tests, t))

  colour_e : colour_of after colours e ≡ c
  colour_e = colour_at e (contracts.within e has_e) ∙ ap (colour_of items colours) (contracts.fixes e has_e)

  colour_n : colour_of after colours n ≡ c
  colour_n = colour_at n n_in ∙ ap (colour_of items colours) (loop_label_k items pd e has_e out_e sign)

  few_e : c ≤ 8
  few_e = let a = few_colours after colours has.few e in let s = colour_e in omega (arith, a, s)

  boxed : is_boxed items colours e ≡ true
  boxed = plain c (component_least items e) e tall_e (least_alone items pd.sizes e has_e out_e)
    where
      plain : (c k e : ℕ) → 2 ≤ c → k ≡ e → (nat_le 2 c && k == e) ≡ true
      plain c k e l h = grind (arith, nat_tests, l, h)

  boxed_e : is_boxed after colours e ≡ true
  boxed_e = contracted_boxed after items to contracts sizes pd.sizes comps colours e has_e ∙ boxed

  free_n : is_boxed after colours n ≡ false
  free_n = lowered_unboxed after items to contracts sizes pd.sizes comps colours n n_in (let t = loop_label_k items pd e has_e out_e sign in let l = low_e in omega (arith, t, l))

  -- ---- the strands
  abbrev E : List ℕ
  E = S.first e

  abbrev F : List ℕ
  F = S.second e

  abbrev M : List ℕ
  M = S.first n

  long_first : (l : ℕ) → length (S.first l) ≡ colour_of after colours l
  long_first l = first_length (colour_of after colours) (is_boxed after colours) (projector_of p) l

  long_E : length E ≡ c
  long_E = long_first e ∙ colour_e

  long_F : length F ≡ c
  long_F = as_many_strands (colour_of after colours) (is_boxed after colours) (projector_of p) e ∙ long_E

  long_M : length M ≡ c
  long_M = long_first n ∙ colour_n

  second_n : S.second n ≡ reverse M
  second_n = unboxed_second (colour_of after colours n) n (is_boxed after colours n) free_n

  at_low : (l : ℕ) → at_stub S (2 * l + 0) ≡ S.first l
  at_low l = at_stub_is S [] l

  at_high : (l : ℕ) → at_stub S (2 * l + 1) ≡ S.second l
  at_high l =
      let r : (2 * l + 1) % 2 ≡ 1 = omega arith in let h : half (2 * l + 1) ≡ l = omega arith in
      ap (λ k. cond (k == 1) (S.second (half (2 * l + 1))) (S.first (half (2 * l + 1)))) r ∙ ap S.second h

  told : (s : Sign) (g i : ℕ) → stub_crossing p S g i (curl_stubs e n s) ≡ curl_cable p g i s E F M
  told signs.Plus g i =
      ap₂ (λ x y. crossing_cable p g i x y (at_stub S (2 * n + 0)) (at_stub S (2 * n + 1))) (at_low e) (at_high e)
      ∙ ap₂ (λ x y. crossing_cable p g i E F x y) (at_low n) (at_high n ∙ second_n)
  told signs.Minus g i =
      ap₂ (λ x y. crossing_cable p g i x y (at_stub S (2 * n + 1)) (at_stub S (2 * e + 1))) (at_low e) (at_low n)
      ∙ ap₂ (λ x y. crossing_cable p g i E M x y) (at_high n ∙ second_n) (at_high e)

  -- ---- one box more stands at a crossing
  same_member : (xs ys : List ℕ) (u : ℕ) → times_in xs u ≡ times_in ys u → is_member ◌==◌ xs u ≡ is_member ◌==◌ ys u
  same_member xs ys u h =
      ⊎_elim
      (λ m. m ∙ sym (member_of_times u ys (let one = times_of_member u xs m in omega (arith, one, h))))
      (λ m. m ∙ sym (⊎_elim (λ k. absurd (let one = times_of_member u ys k in let none = times_none xs u m in omega (arith, one, none, h))) (λ k. k) (cases_Bool (is_member ◌==◌ ys u))))
      (cases_Bool (is_member ◌==◌ xs u))

  one_box : (u : ℕ) → times_in (first_labels S.boxed [] after) u ≡ times_in (e ∷ first_labels S.boxed [] items) u
  one_box u =
      let A = is_member ◌==◌ (crossing_labels after) u in
      let I = is_member ◌==◌ (crossing_labels items) u in
      let a = first_labels_times S.boxed [] after u in
      let i = first_labels_times S.boxed [] items u in
      let h = times_in-cons e (first_labels S.boxed [] items) u in
      let k = curled_crossings e slots items u there in
      ⊎_elim
      (λ (s : u ≡ e).
      let here : A ≡ true = member_of_times u (crossing_labels after) (let t = of_slots sign u s in omega (arith, k, t)) in
      let old : I ≡ false = ap (is_member ◌==◌ (crossing_labels items)) s ∙ out_e in
      let own : S.boxed u ≡ true = ap S.boxed s ∙ boxed_e in
      let g : times_in (first_labels S.boxed [] after) u ≡ 1 = a ∙ ap₂ (λ x y. one_if (x && (y && true))) here own in
      let f : times_in (first_labels S.boxed [] items) u ≡ 0 = i ∙ ap (λ x. one_if (x && (S.boxed u && true))) old in
      let o : one_if (u == e) ≡ 1 = grind (arith, nat_tests, s) in
      omega (arith, g, f, h, o))
      (λ d.
      let o : one_if (u == e) ≡ 0 = grind (arith, nat_tests, d) in
      let same : one_if (A && (S.boxed u && true)) ≡ one_if (I && (S.boxed u && true)) =
      ⊎_elim
      (λ t.
      let not_n : u ≢ n = λ s. clash (S.boxed n) (ap S.boxed (sym s) ∙ t) free_n in
      let none : times_in slots u ≡ 0 = no_slot sign u d not_n in
      ap (λ b. one_if (b && (S.boxed u && true))) (same_member (crossing_labels after) (crossing_labels items) u (omega (arith, k, none))))
      (λ t. unboxed A I (S.boxed u) t)
      (cases_Bool (S.boxed u)) in
      omega (arith, a, i, h, o, same))
      (cases_eq u e)
    where
      of_slots : (s : Sign) (u : ℕ) → u ≡ e → 1 ≤ times_in (curl_slots e e n s) u
      of_slots signs.Plus u d = grind (arith, nat_tests, d)
      of_slots signs.Minus u d = grind (arith, nat_tests, d)

      no_slot : (s : Sign) (u : ℕ) → u ≢ e → u ≢ n → times_in (curl_slots e e n s) u ≡ 0
      no_slot signs.Plus u d g = grind (arith, nat_tests, d, g)
      no_slot signs.Minus u d g = grind (arith, nat_tests, d, g)

      unboxed : (a i b : Bool) → b ≡ false → one_if (a && (b && true)) ≡ one_if (i && (b && true))
      unboxed a i b t = grind (arith, t)

  -- ---- values
  abbrev nodes_A : List Node
  nodes_A = cable_nodes p S (start (as_net after)) (as_net after)

  abbrev nodes_I : List Node
  nodes_I = cable_nodes p S (start (as_net items)) (as_net items)

  abbrev free : ℕ
  free = loop_count S (as_net after)

  abbrev V : List Node → ℕ
  V ns = value p.modulus (loop_value p) record { nodes = ns; free_loops = free }

  abbrev f : List Term
  f = S.box (length E)

  abbrev Q : List Node
  Q = common p S items pd.sizes e n apart sign there out_e out_n

  behind : (k : ℕ) × IsPermutation (U nodes_A) (U (stub_crossing p S 0 k (curl_stubs e n sign)) ++ (box_node 0 f E F ∷ Q))
  behind = nodes_behind p S items pd.sizes e n apart sign there out_e out_n sizes one_box

  abbrev X1 : List Node
  X1 = curl_cable p 0 behind.0 sign E F M

  crossing_is : U (stub_crossing p S 0 behind.0 (curl_stubs e n sign)) ≡ U X1
  crossing_is = ap U (told sign 0 behind.0)

  perm : IsPermutation (U nodes_A) (U X1 ++ (box_node 0 f E F ∷ Q))
  perm = let P : List Node → Type 0 = λ ns. IsPermutation (U nodes_A) (ns ++ (box_node 0 f E F ∷ Q)) in subst P crossing_is behind.1

  small : IsSmallNetwork p.modulus (cabled p after colours)
  small = cabled_network p after colours after_is has

  ok_U : All IsNode (U nodes_A)
  ok_U = All-map IsNode without_group nodes_A small.is_network.nodes

  ok_all : All IsNode (U X1 ++ (box_node 0 f E F ∷ Q))
  ok_all = All-permutation IsNode (U nodes_A) (U X1 ++ (box_node 0 f E F ∷ Q)) perm ok_U

  ok_back : All IsNode (box_node 0 f E F ∷ Q)
  ok_back = All-second IsNode (U X1) (box_node 0 f E F ∷ Q) ok_all

  ok_box : IsNode (box_node 0 f E F)
  ok_box = All-head IsNode (box_node 0 f E F) Q ok_back

  ok_Q : All IsNode Q
  ok_Q = All-second IsNode (box_node 0 f E F ∷ []) Q ok_back

  in_front : V nodes_A ≡ V (X1 ++ (box_node 0 f E F ∷ Q))
  in_front =
      let R = box_node 0 f E F ∷ Q in
      (groups (loop_value p) free nodes_A (U nodes_A) (sym (ungrouped_twice nodes_A))).values p.modulus
      ∙ sym (any_order p.modulus (loop_value p) free (U nodes_A) (U X1 ++ R) ok_U perm)
      ∙ (groups (loop_value p) free (U X1 ++ R) (X1 ++ R) (map-append without_group (U X1) R ∙ ap (λ ns. ns ++ U R) (ungrouped_twice X1) ∙ sym (map-append without_group X1 R))).values p.modulus

  twice : (z : ℕ) → 1 ≤ times_in (names_of X1) z + (times_in E z + times_in F z) + times_in (names_of Q) z → times_in (names_of X1) z + (times_in E z + times_in F z) + times_in (names_of Q) z ≡ 2
  twice z h =
      let R = box_node 0 f E F ∷ Q in
      let t = names_permuted z (U nodes_A) (U X1 ++ R) perm in
      let a = ap (λ ns. times_in ns z) (names_of-ungrouped nodes_A) in
      let x = ap (λ ns. times_in ns z) (names_of-ungrouped X1) in
      let s = times_of-append z (U X1) R in
      let b = times_in-append (E ++ F) (names_of Q) z in
      let d = times_in-append E F z in
      let two = small.is_network.twice z (member_of_one z (names_of nodes_A) (omega (arith, t, a, x, s, b, d, h))) in
      omega (arith, t, a, x, s, b, d, two)

  some : 0 < p.modulus
  some = let h = p.meets.modulus.0 in omega (arith, h)

  ok_X1 : All IsNode X1
  ok_X1 = grouped_ok X1 (All-first IsNode (U X1) (box_node 0 f E F ∷ Q) ok_all)

  ok_turned : IsNode (box_node 0 f F E)
  ok_turned =
      let a = length-append E F in let b = length-append F E in
      subst (λ k. All (λ term. IsPairing term.partner × (length term.partner ≡ k)) f) (let e : length (E ++ F) ≡ length (F ++ E) = omega (arith, a, b) in e) ok_box

  ok_turned_back : All IsNode (box_node 0 f F E ∷ Q)
  ok_turned_back = All-cons IsNode (box_node 0 f F E) Q ok_turned ok_Q

  -- ---- the loop from before
  two_E : 2 ≤ length E
  two_E = let l = long_E in omega (arith, l, tall_e)

  loop_before : V (box_node 0 f E (reverse E) ∷ Q) ≡ coloured p items colours
  unfolding coloured
  loop_before =
      let L = U (loop_nodes S 0 E) in
      let own : L ≡ box_node 0 f E (reverse E) ∷ [] = loop_is S E two_E in
      let at_I : IsPermutation (U nodes_I) (L ++ Q) = nodes_before p S items pd.sizes e n apart sign there out_e out_n in
      let ok_L : All IsNode (L ++ Q) = subst (λ ns. All IsNode (ns ++ Q)) (sym own) (All-cons IsNode (box_node 0 f E (reverse E)) Q ok_loop ok_Q) in
      let ok_I : All IsNode (U nodes_I) = All-permutation IsNode (L ++ Q) (U nodes_I) (IsPermutation-sym (U nodes_I) (L ++ Q) at_I) ok_L in
      ap (λ ns. V (ns ++ Q)) (sym own)
      ∙ any_order p.modulus (loop_value p) free (U nodes_I) (L ++ Q) ok_I at_I
      ∙ (groups (loop_value p) free (U nodes_I) nodes_I (ungrouped_twice nodes_I)).values p.modulus
      ∙ ap (λ j. value p.modulus (loop_value p) record { nodes = nodes_I; free_loops = j }) (loops_kept S e (no_free_loop E two_E) slots items there)
      ∙ sym (ap (value p.modulus (loop_value p)) (contracted_cable after items to contracts sizes pd.sizes comps colours p))
    where
      ok_loop : IsNode (box_node 0 f E (reverse E))
      ok_loop =
          let a = length-append E F in let b = length-append E (reverse E) in let r = length-reverse E in let g = long_E in let h = long_F in
          subst (λ k. All (λ term. IsPairing term.partner × (length term.partner ≡ k)) f) (let e : length (E ++ F) ≡ length (E ++ reverse E) = omega (arith, a, b, r, g, h) in e) ok_box

  module _ (k : ℕ) (tall : c ≡ suc k) where
    few_k : suc k ≤ 8
    few_k = let t = few_e in omega (arith, t, tall)

    is_projector : IsProjector p.modulus (loop_value p) (suc k) f
    is_projector =
        let P : ℕ → ℕ → Type 0 = λ i j. IsProjector p.modulus (loop_value p) i (projector_of p j) in
        subst (λ j. P (suc k) j) (sym (long_E ∙ tall)) (subst (λ j. P j j) tall (boxed_projector p items colours projectors e boxed))

    curl_twice : (z : ℕ) → 1 ≤ times_in (names_of (X1 ++ (box_node 0 f F E ∷ Q))) z → times_in (names_of (X1 ++ (box_node 0 f F E ∷ Q))) z ≡ 2
    curl_twice z one =
        let s = times_of-append z X1 (box_node 0 f F E ∷ Q) in
        let b = times_in-append (F ++ E) (names_of Q) z in
        let d = times_in-append F E z in
        let two = twice z (omega (arith, s, b, d, one)) in
        omega (arith, s, b, d, two)

    strands_close : V (arcs_of (zip E (reverse F)) ++ (box_node 0 f F E ∷ Q)) ≡ coloured p items colours
    strands_close =
        let arcs = arcs_of (zip F (reverse E)) in
        let ok_arcs : All IsNode arcs = arcs_ok (zip F (reverse E)) in
        turned_arcs p.modulus (loop_value p) free (suc k) E F (box_node 0 f F E ∷ Q) (long_E ∙ tall) (long_F ∙ tall) ok_turned_back
        ∙ half_turned p.modulus (loop_value p) free (suc k) f F E arcs Q some few_k is_projector (long_F ∙ tall) (long_E ∙ tall) ok_arcs ok_Q ok_turned ok_box
        ∙ box_merged p.modulus (loop_value p) free 0 f E F (reverse E) Q (long_F ∙ sym (length-reverse E ∙ long_E)) ok_back
        (λ z one. (
        let r = times-reverse z E in
        let two = before_curl p free 0 behind.0 k sign E F M F 0 few_k (long_E ∙ tall) (long_F ∙ tall) (long_M ∙ tall) (long_F ∙ tall) f is_projector Q ok_X1 ok_Q curl_twice z (omega (arith, r, one)) in
        omega (arith, r, two)))
        ∙ loop_before

    tall_loop : coloured p after colours ≡ curl_twist p c sign * coloured p items colours % p.modulus
    unfolding coloured
    tall_loop =
        in_front
        ∙ half_turned p.modulus (loop_value p) free (suc k) f E F X1 Q some few_k is_projector (long_E ∙ tall) (long_F ∙ tall) ok_X1 ok_Q ok_box ok_turned
        ∙ beside_box p free 0 behind.0 k sign E F M F 0 few_k (long_E ∙ tall) (long_F ∙ tall) (long_M ∙ tall) (long_F ∙ tall) f is_projector Q ok_X1 ok_Q curl_twice
        ∙ ap₂ (λ j w. curl_twist p j sign * w % p.modulus) (sym tall) strands_close

  -- A CURL ON A LOOP WITH A BOX
  pub boxed_loop : coloured p after colours ≡ curl_twist p c sign * coloured p items colours % p.modulus
  boxed_loop = tall_loop (c - 1) (omega (arith, tall_e))
