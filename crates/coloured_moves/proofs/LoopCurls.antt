-- Curl on a Loop of colour 0 or 1 multiplies the coloured value by its factor: the crossing is a strand that closes to the free loop from
-- before.
use Rattle.std.proofs.Common.{◌≡◌, ◌≢◌, ℕ, ◌+◌, ◌*◌, ◌%◌, ◌<◌, ◌≤◌, ◌==◌, ◌&&◌, not, nat_le, Bool, true, false, cond, List, [], ◌∷◌, ◌++◌, map, reverse, refl, sym, ap, ap₂, ◌∙◌, arith, ⊎_elim, All, subst, count_by}
use Rattle.std.proofs.Math.Nat.{mod-mod}
use Rattle.std.specs.List.{AllByRecursion}
use Rattle.std.specs.List.Sorted.{IsPermutation}
use Rattle.std.specs.Set.{is_member, unique_keys}
use Rattle.std.proofs.lemmas.Bool.{cases_Bool, cases_eq}
use Rattle.std.proofs.lemmas.Bool.Decides.{nat_tests}
use Rattle.std.proofs.lemmas.List.Elements.{All-map}
use Rattle.std.proofs.lemmas.List.Sorted.{All-permutation}
use Rattle.std.proofs.lemmas.List.Sums.{sum_by-cons}
use Rattle.graph_parts.specs.Ends.{ends_of}
use Rattle.graph_parts.specs.Walks.{Joined, along, stay}
use Rattle.list_lemmas.specs.Times.{times_in}
use Rattle.list_lemmas.proofs.Times.{member_of_times, times_none, times_of_member}
use Rattle.state_sums.specs.LocalSums.{rename}
use Rattle.state_sums.specs.Networks.{Node, IsNode, names_of}
use Rattle.state_sums.specs.StateSums.{value}
use Rattle.state_sums.proofs.NetworkLaws.{any_order}
use Rattle.root_quantum.specs.Parameters.{Parameters}
use Rattle.root_quantum.specs.QuantumNumbers.{inverse_root, loop_value}
use Rattle.piece_laws.specs.Arcs.{arcs_of, closed_classes, AreClassLabels}
use Rattle.piece_laws.specs.TurnedNodes.{without_group}
use Rattle.state_sums.proofs.NodeNames.{names_of-rename}
use Rattle.piece_laws.proofs.Closing.{arcs_close}
use Rattle.piece_laws.proofs.ParameterNumbers.{skein_numbers}
use Rattle.piece_laws.proofs.RenamedNodes.{rename_fixed}
use Rattle.piece_laws.proofs.Ungrouped.{groups}
use Rattle.pd_reader.specs.declared.item.Item.{Item}
use Rattle.pd_reader.specs.Items.{item_labels, HasItsSlots}
use Rattle.pd_reader.specs.Diagrams.{labels, IsDiagram}
use Rattle.planar_check.specs.Components.{least_labels, component_least}
use Rattle.planar_check.specs.declared.sign.Sign.{Sign}
use Rattle.planar_check.specs.declared.sign.Sign.TheVariants as signs
use Rattle.cables.specs.CableNodes.{crossing_cable}
use Rattle.cables.specs.Cables.{start, cable_nodes, loop_count, loop_nodes, loops_at, as_net}
use Rattle.cables.specs.Laws.{IsSmallNetwork}
use Rattle.cables.specs.Strands.{Strands, first_names}
use Rattle.cables.proofs.LabelNames.{zero_or_some}
use Rattle.cables.proofs.NameCounts.{times_of-append}
use Rattle.coloured_values.specs.Coloured.{colour_of, is_boxed, diagram_strands, cabled, coloured}
use Rattle.coloured_values.specs.Laws.{HasColours}
use Rattle.coloured_values.proofs.CabledDiagrams.{cabled_network}
use Rattle.diagram_moves.specs.Laws.{IsPairedDiagram}
use Rattle.diagram_moves.specs.Moves.{curl_slots, curled_loop}
use Rattle.diagram_moves.specs.Rewriting.{crossing_labels, fresh}
use Rattle.diagram_moves.proofs.Curling.{first_open, second_open, front_curl, loop_label, loop_label_k, loop_slots_four, is_loop_label, sizes-curled_loop}
use Rattle.diagram_moves.proofs.Nodes.{node}
use Rattle.diagram_moves.proofs.Paired.{loop_labels}
use Rattle.diagram_moves.proofs.PlaceLemmas.{fresh_above}
use Rattle.diagram_moves.proofs.Pushing.{crossing_label}
use Rattle.diagram_moves.proofs.Undone.{contraction_from, unique_twice}
use Rattle.move_results.proofs.ComponentLaws.{total, loop_contracts, curled_loop_components}
use Rattle.move_results.proofs.LeastLabelLists.{Contracts}
use Rattle.move_results.proofs.PairedResults.{curled_crossings}
use Rattle.cable_crossings.proofs.CabledBigon.{names_of-ungrouped, ungrouped_twice}
use Rattle.cable_crossings.proofs.StepPieces.{member_of_one, All-second}
use Rattle.coloured_moves.proofs.CurledLoops.{U, curl_stubs, curled_nodes, loops_counted}
use Rattle.coloured_moves.proofs.CurledStrands.{curl_cable, curl_twist, no_twist, condition}
use Rattle.coloured_moves.proofs.PushedCables.{unboxed_second}
use Rattle.coloured_moves.proofs.SameComponents.{contracted_colour, contracted_cable}
use Rattle.coloured_moves.proofs.StubItems.{half, at_stub, at_stub_is, stub_crossing, first_labels, first_labels_times}
use Rattle.coloured_moves.proofs.Tests.{clash, one_if}
use Rattle.coloured_moves.proofs.TurnedBoxes.{names_permuted}

-- ---- a curl whose strand is its own: it closes to a free loop
module _ (p : Parameters) (k x z : ℕ) (sign : Sign) (rest : List Node) (ok : All IsNode rest) (apart : z ≢ x)
    (twice : (u : ℕ) → 1 ≤ times_in (z ∷ z ∷ x ∷ x ∷ []) u + times_in (names_of rest) u → times_in (z ∷ z ∷ x ∷ x ∷ []) u + times_in (names_of rest) u ≡ 2) where
  abbrev V : ℕ → List Node → ℕ
  V j ns = value p.modulus (loop_value p) record { nodes = ns; free_loops = j }

  abbrev pairs : List (ℕ × ℕ)
  pairs = (z, x) ∷ (z, x) ∷ []

  abbrev to_x : ℕ → ℕ
  to_x u = cond (u == z) x u

  z_none : times_in (names_of rest) z ≡ 0
  z_none = let t = twice z (grind (arith, nat_tests)) in grind (arith, nat_tests, t, apart)

  x_none : times_in (names_of rest) x ≡ 0
  x_none = let t = twice x (grind (arith, nat_tests)) in grind (arith, nat_tests, t, apart)

  at_z : to_x z ≡ x
  at_z = grind (arith, nat_tests)

  at_x : to_x x ≡ x
  at_x = grind (arith, nat_tests)

  joined : (u : ℕ) → Joined pairs u (to_x u)
  joined u =
      let P : ℕ → Type 0 = λ y. Joined pairs y (to_x y) in
      let Q : ℕ → ℕ → Type 0 = λ y w. Joined pairs y w in
      ⊎_elim (λ s. subst P (sym s) (subst (Q z) (sym at_z) (along (0, omega arith, refl))))
      (λ s. let own : to_x u ≡ u = grind (arith, nat_tests, s) in subst (Q u) (sym own) stay)
      (cases_eq u z)

  classes : AreClassLabels pairs to_x
  classes = contraction_from pairs to_x joined (at_z ∙ sym at_x, (at_z ∙ sym at_x, tt))

  fixed : rename to_x rest ≡ rest
  fixed =
      rename_fixed to_x rest (λ u m.
      let one = times_of_member u (names_of rest) m in
      ⊎_elim (λ (s : u ≡ z). absurd (let t = ap (times_in (names_of rest)) s in let n = z_none in omega (arith, t, n, one))) (λ s. (let own : to_x u ≡ u = grind (arith, nat_tests, s) in own)) (cases_eq u z))

  out : (ls : List ℕ) (u : ℕ) → times_in ls u ≡ 0 → is_member ◌==◌ ls u ≡ false
  out ls u h = ⊎_elim (λ m. absurd (let one = times_of_member u ls m in omega (arith, one, h))) (λ m. m) (cases_Bool (is_member ◌==◌ ls u))

  names_still : map to_x (names_of rest) ≡ names_of rest
  names_still = sym (names_of-rename to_x rest) ∙ ap names_of fixed

  one_closed : closed_classes to_x pairs (names_of rest) ≡ 1
  one_closed =
      let ends : map to_x (ends_of pairs) ≡ x ∷ x ∷ x ∷ x ∷ [] = (let p1 = at_z in let p2 = at_x in cc) in
      ap (λ ns. count_by (λ end. not (is_member ◌==◌ ns end)) (unique_keys ◌==◌ (map to_x (ends_of pairs)))) names_still
      ∙ ap (λ ns. count_by (λ end. not (is_member ◌==◌ (names_of rest) end)) (unique_keys ◌==◌ ns)) ends
      ∙ ap (count_by (λ end. not (is_member ◌==◌ (names_of rest) end))) (unique_twice x (x ∷ x ∷ []) ∙ unique_twice x (x ∷ []) ∙ unique_twice x [])
      ∙ sum_by-cons (λ end. cond (not (is_member ◌==◌ (names_of rest) end)) 1 0) x []
      ∙ ap (λ c. cond (not c) 1 0 + 0) (out (names_of rest) x x_none)

  closes : V k (arcs_of pairs ++ rest) ≡ V (k + 1) rest
  closes =
      arcs_close p.modulus (loop_value p) k pairs to_x rest ok classes
      ∙ ap (λ ns. V (k + closed_classes to_x pairs (names_of rest)) ns) fixed
      ∙ ap (λ c. V (k + c) rest) one_closed

  both_x : (s : Sign) → ◌≡◌ {A = List (ℕ × ℕ)} ((z, first_open x x s) ∷ (z, second_open x x s) ∷ []) pairs
  both_x signs.Plus = refl
  both_x signs.Minus = refl

  pub own_strand : V k (node p.root (inverse_root p) (curl_slots x x z sign) ∷ rest) ≡ curl_twist p 1 sign * V (k + 1) rest % p.modulus
  own_strand =
      front_curl p.modulus (loop_value p) p.root (inverse_root p) (skein_numbers p).skein k x x z sign rest ok (curl_twist p 1 sign) (condition p sign) twice
      ∙ ap (λ es. curl_twist p 1 sign * V k (arcs_of es ++ rest) % p.modulus) (both_x sign)
      ∙ ap (λ j. curl_twist p 1 sign * j % p.modulus) closes

-- ---- diagrams
module _ (p : Parameters) (items : List Item) (pd : IsPairedDiagram items) (e : ℕ) (has_e : is_member ◌==◌ (labels item_labels items) e ≡ true) (out_e : is_member ◌==◌ (crossing_labels items) e ≡ false) (sign : Sign) (colours : List ℕ)
    (after_is : IsDiagram (curled_loop e (curl_slots e e (fresh items) sign) items)) (has : HasColours (curled_loop e (curl_slots e e (fresh items) sign) items) colours) (few_e : colour_of items colours e ≤ 1) where
  abbrev n : ℕ
  n = fresh items

  abbrev slots : List ℕ
  slots = curl_slots e e n sign

  abbrev after : List Item
  after = curled_loop e slots items

  abbrev S : Strands
  S = diagram_strands p after colours

  abbrev c : ℕ
  c = colour_of items colours e

  abbrev to : ℕ → ℕ
  to = loop_label items pd e has_e out_e sign

  contracts : Contracts after items to
  contracts = loop_contracts items pd e has_e out_e sign

  comps : least_labels after ≡ least_labels items
  comps = curled_loop_components items pd e has_e out_e sign

  there : is_member ◌==◌ (loop_labels items) e ≡ true
  there = is_loop_label items pd e has_e out_e sign

  sizes : AllByRecursion HasItsSlots after
  sizes = sizes-curled_loop e slots (loop_slots_four items pd e has_e out_e sign) items pd.sizes

  low_e : e < n
  low_e = fresh_above items e has_e

  apart : e ≢ n
  apart s = let l = low_e in omega (arith, s, l)

  out_n : is_member ◌==◌ (crossing_labels items) n ≡ false
  out_n = ⊎_elim (λ t. absurd (let l = fresh_above items n (crossing_label items n t) in omega (arith, l))) (λ t. t) (cases_Bool (is_member ◌==◌ (crossing_labels items) n))

  -- ---- the strands of the curl
  colour_at : (l : ℕ) → is_member ◌==◌ (labels item_labels after) l ≡ true → colour_of after colours l ≡ colour_of items colours (to l)
  colour_at l m = contracted_colour after items to contracts sizes pd.sizes comps colours l m

  n_in : is_member ◌==◌ (labels item_labels after) n ≡ true
  n_in = let t = total items pd e has_e out_e sign n in member_of_times n (labels item_labels after) (grind (arith, nat_tests, t))

  colour_e : colour_of after colours e ≡ c
  colour_e = colour_at e (contracts.within e has_e) ∙ ap (colour_of items colours) (contracts.fixes e has_e)

  colour_n : colour_of after colours n ≡ c
  colour_n = colour_at n n_in ∙ ap (colour_of items colours) (loop_label_k items pd e has_e out_e sign)

  small_free : (k : ℕ) (t : Bool) → k ≤ 1 → (nat_le 2 k && t) ≡ false
  small_free k t l = grind (arith, nat_tests, l)

  free_e : is_boxed after colours e ≡ false
  free_e = small_free (colour_of after colours e) (component_least after e == e) (let s = colour_e in omega (arith, s, few_e))

  free_n : is_boxed after colours n ≡ false
  free_n = small_free (colour_of after colours n) (component_least after n == n) (let s = colour_n in omega (arith, s, few_e))

  first_e : S.first e ≡ first_names c e
  first_e = ap (λ k. first_names k e) colour_e

  first_n : S.first n ≡ first_names c n
  first_n = ap (λ k. first_names k n) colour_n

  second_e : S.second e ≡ reverse (first_names c e)
  second_e = unboxed_second (colour_of after colours e) e (is_boxed after colours e) free_e ∙ ap reverse first_e

  second_n : S.second n ≡ reverse (S.first n)
  second_n = unboxed_second (colour_of after colours n) n (is_boxed after colours n) free_n

  at_low : (l : ℕ) → at_stub S (2 * l + 0) ≡ S.first l
  at_low l = at_stub_is S [] l

  at_high : (l : ℕ) → at_stub S (2 * l + 1) ≡ S.second l
  at_high l =
      let r : (2 * l + 1) % 2 ≡ 1 = omega arith in let h : half (2 * l + 1) ≡ l = omega arith in
      ap (λ k. cond (k == 1) (S.second (half (2 * l + 1))) (S.first (half (2 * l + 1)))) r ∙ ap S.second h

  told : (s : Sign) (g i : ℕ) → stub_crossing p S g i (curl_stubs e n s) ≡ curl_cable p g i s (S.first e) (S.second e) (S.first n)
  told signs.Plus g i =
      ap₂ (λ x y. crossing_cable p g i x y (at_stub S (2 * n + 0)) (at_stub S (2 * n + 1))) (at_low e) (at_high e)
      ∙ ap₂ (λ x y. crossing_cable p g i (S.first e) (S.second e) x y) (at_low n) (at_high n ∙ second_n)
  told signs.Minus g i =
      ap₂ (λ x y. crossing_cable p g i x y (at_stub S (2 * n + 1)) (at_stub S (2 * e + 1))) (at_low e) (at_low n)
      ∙ ap₂ (λ x y. crossing_cable p g i (S.first e) (S.first n) x y) (at_high n ∙ second_n) (at_high e)

  -- ---- boxes are those from before
  same_member : (xs ys : List ℕ) (u : ℕ) → times_in xs u ≡ times_in ys u → is_member ◌==◌ xs u ≡ is_member ◌==◌ ys u
  same_member xs ys u h =
      ⊎_elim
      (λ m. m ∙ sym (member_of_times u ys (let one = times_of_member u xs m in omega (arith, one, h))))
      (λ m. m ∙ sym (⊎_elim (λ k. absurd (let one = times_of_member u ys k in let none = times_none xs u m in omega (arith, one, none, h))) (λ k. k) (cases_Bool (is_member ◌==◌ ys u))))
      (cases_Bool (is_member ◌==◌ xs u))

  same_boxes : (u : ℕ) → times_in (first_labels S.boxed [] after) u ≡ times_in (first_labels S.boxed [] items) u
  same_boxes u =
      let A = is_member ◌==◌ (crossing_labels after) u in
      let I = is_member ◌==◌ (crossing_labels items) u in
      first_labels_times S.boxed [] after u
      ∙ ⊎_elim
      (λ t.
      let not_e : u ≢ e = λ s. clash (S.boxed e) (ap S.boxed (sym s) ∙ t) free_e in
      let not_n : u ≢ n = λ s. clash (S.boxed n) (ap S.boxed (sym s) ∙ t) free_n in
      let k = curled_crossings e slots items u there in
      let none : times_in slots u ≡ 0 = no_slot sign u not_e not_n in
      ap (λ b. cond (b && (S.boxed u && true)) 1 0) (same_member (crossing_labels after) (crossing_labels items) u (omega (arith, k, none))))
      (λ t. unboxed A I (S.boxed u) t)
      (cases_Bool (S.boxed u))
      ∙ sym (first_labels_times S.boxed [] items u)
    where
      no_slot : (s : Sign) (u : ℕ) → u ≢ e → u ≢ n → times_in (curl_slots e e n s) u ≡ 0
      no_slot signs.Plus u d g = grind (arith, nat_tests, d, g)
      no_slot signs.Minus u d g = grind (arith, nat_tests, d, g)

      unboxed : (a i b : Bool) → b ≡ false → one_if (a && (b && true)) ≡ one_if (i && (b && true))
      unboxed a i b t = grind (arith, t)

  -- ---- values
  abbrev nodes_A : List Node
  nodes_A = cable_nodes p S (start (as_net after)) (as_net after)

  abbrev nodes_I : List Node
  nodes_I = cable_nodes p S (start (as_net items)) (as_net items)

  abbrev free : ℕ
  free = loop_count S (as_net after)

  abbrev W : ℕ → List Node → ℕ
  W j ns = value p.modulus (loop_value p) record { nodes = ns; free_loops = j }

  small : IsSmallNetwork p.modulus (cabled p after colours)
  small = cabled_network p after colours after_is has

  ok_U : All IsNode (U nodes_A)
  ok_U = All-map IsNode without_group nodes_A small.is_network.nodes

  -- the value from before
  before : W (loop_count S (as_net items)) nodes_I ≡ coloured p items colours
  unfolding coloured
  before = sym (ap (value p.modulus (loop_value p)) (contracted_cable after items to contracts sizes pd.sizes comps colours p))

  module _ (short : loop_nodes S 0 (S.first e) ≡ []) (K : List Node) (crossing : (g i : ℕ) → U (stub_crossing p S g i (curl_stubs e n sign)) ≡ K) where
    perm : IsPermutation (U nodes_A) (K ++ U nodes_I)
    perm = curled_nodes p S items pd.sizes e n apart sign short K crossing there out_e out_n sizes same_boxes

    in_front : W free nodes_A ≡ W free (K ++ U nodes_I)
    in_front =
        (groups (loop_value p) free nodes_A (U nodes_A) (sym (ungrouped_twice nodes_A))).values p.modulus
        ∙ sym (any_order p.modulus (loop_value p) free (U nodes_A) (K ++ U nodes_I) ok_U perm)

    ok_I : All IsNode (U nodes_I)
    ok_I = All-second IsNode K (U nodes_I) (All-permutation IsNode (U nodes_A) (K ++ U nodes_I) perm ok_U)

    as_before : (j : ℕ) → j ≡ loop_count S (as_net items) → W j (U nodes_I) ≡ coloured p items colours
    as_before j h = (groups (loop_value p) j (U nodes_I) nodes_I (ungrouped_twice nodes_I)).values p.modulus ∙ ap (λ i. W i nodes_I) h ∙ before

    counted : free + loops_at (S.first e) ≡ loop_count S (as_net items)
    counted = loops_counted p S e short (curl_stubs e n sign) K crossing slots items there

    twice : (u : ℕ) → 1 ≤ times_in (names_of K) u + times_in (names_of (U nodes_I)) u → times_in (names_of K) u + times_in (names_of (U nodes_I)) u ≡ 2
    twice u h =
        let t = names_permuted u (U nodes_A) (K ++ U nodes_I) perm in
        let a = ap (λ ns. times_in ns u) (names_of-ungrouped nodes_A) in
        let s = times_of-append u K (U nodes_I) in
        let two = small.is_network.twice u (member_of_one u (names_of nodes_A) (omega (arith, t, a, s, h))) in
        omega (arith, t, a, s, two)

  reduced : value p.modulus (loop_value p) (cabled p items colours) % p.modulus ≡ value p.modulus (loop_value p) (cabled p items colours)
  unfolding value
  reduced = mod-mod _ p.modulus

  no_strand : c ≡ 0 → coloured p after colours ≡ curl_twist p c sign * coloured p items colours % p.modulus
  unfolding coloured
  no_strand none =
      let at_e : S.first e ≡ [] = first_e ∙ ap (λ k. first_names k e) none in
      let at_w : S.second e ≡ [] = second_e ∙ ap (λ k. reverse (first_names k e)) none in
      let at_n : S.first n ≡ [] = first_n ∙ ap (λ k. first_names k n) none in
      let short : loop_nodes S 0 (S.first e) ≡ [] = ap (loop_nodes S 0) at_e in
      let crossing : (g i : ℕ) → U (stub_crossing p S g i (curl_stubs e n sign)) ≡ [] =
      λ g i. ap U (told sign g i ∙ ap₂ (λ x y. curl_cable p g i sign x y (S.first n)) at_e at_w ∙ ap (curl_cable p g i sign [] []) at_n ∙ empty g i sign) in
      let l = counted short [] crossing in
      let z = ap loops_at at_e in
      in_front short [] crossing ∙ as_before short [] crossing free (omega (arith, l, z))
      ∙ sym (small_value (value p.modulus (loop_value p) (cabled p items colours)) reduced)
      ∙ ap (λ w. w * value p.modulus (loop_value p) (cabled p items colours) % p.modulus) (sym (ap (λ k. curl_twist p k sign) none ∙ no_twist p sign))
    where
      empty : (g i : ℕ) (s : Sign) → curl_cable p g i s [] [] [] ≡ []
      empty g i signs.Plus = refl
      empty g i signs.Minus = refl

      small_value : (k : ℕ) → k % p.modulus ≡ k → 1 * k % p.modulus ≡ k
      small_value k h = ap (λ j. j % p.modulus) (let e : 1 * k ≡ k = omega arith in e) ∙ h

  abbrev x : ℕ
  x = 16 * e + 2 * 0

  abbrev z : ℕ
  z = 16 * n + 2 * 0

  abbrev curl : Node
  curl = node p.root (inverse_root p) (curl_slots x x z sign)

  single : c ≡ 1 → coloured p after colours ≡ curl_twist p c sign * coloured p items colours % p.modulus
  unfolding coloured
  single one =
      let at_e : S.first e ≡ x ∷ [] = first_e ∙ ap (λ k. first_names k e) one in
      let at_w : S.second e ≡ x ∷ [] = second_e ∙ ap (λ k. reverse (first_names k e)) one in
      let at_n : S.first n ≡ z ∷ [] = first_n ∙ ap (λ k. first_names k n) one in
      let short : loop_nodes S 0 (S.first e) ≡ [] = ap (loop_nodes S 0) at_e in
      let crossing : (g i : ℕ) → U (stub_crossing p S g i (curl_stubs e n sign)) ≡ curl ∷ [] =
      λ g i. ap U (told sign g i ∙ ap₂ (λ a b. curl_cable p g i sign a b (S.first n)) at_e at_w ∙ ap (curl_cable p g i sign (x ∷ []) (x ∷ [])) at_n) ∙ one_node g i sign in
      let l = counted short (curl ∷ []) crossing in
      let q = ap loops_at at_e in
      let low = low_e in
      in_front short (curl ∷ []) crossing
      ∙ own_strand p free x z sign (U nodes_I) (ok_I short (curl ∷ []) crossing) (λ s. omega (arith, s, low))
      (λ u h. let t = twice short (curl ∷ []) crossing u in let k = ends sign u in let two = t (omega (arith, k, h)) in omega (arith, k, two))
      ∙ ap₂ (λ k w. curl_twist p k sign * w % p.modulus) (sym one) (as_before short (curl ∷ []) crossing (free + 1) (omega (arith, l, q)))
    where
      one_node : (g i : ℕ) (s : Sign) → U (curl_cable p g i s (x ∷ []) (x ∷ []) (z ∷ [])) ≡ node p.root (inverse_root p) (curl_slots x x z s) ∷ []
      one_node g i signs.Plus = refl
      one_node g i signs.Minus = refl

      ends : (s : Sign) (u : ℕ) → times_in (names_of (node p.root (inverse_root p) (curl_slots x x z s) ∷ [])) u ≡ times_in (z ∷ z ∷ x ∷ x ∷ []) u
      ends signs.Plus u = omega arith
      ends signs.Minus u = omega arith

  -- THE CURL OF AT MOST ONE STRAND, ON A LOOP
  pub few_strands : coloured p after colours ≡ curl_twist p c sign * coloured p items colours % p.modulus
  few_strands = ⊎_elim (λ e. no_strand e) (λ s. (let k = s.1 in single (omega (arith, k, few_e)))) (zero_or_some c)
