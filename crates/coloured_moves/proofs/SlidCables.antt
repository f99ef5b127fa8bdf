-- R3 keeps the coloured value, where no inner edge of the triangle has a box: in the result the places of some labels are exchanged; with
-- the names of these, its cable is the old one but for three crossings, and these count as before the move.
use Rattle.std.proofs.Common.{◌≡◌, ◌≢◌, ℕ, suc, ◌+◌, ◌%◌, ◌<◌, ◌≤◌, ◌==◌, ◌&&◌, ◌⊎◌, inl, inr, not, Bool, true, false, cond, List, [], ◌∷◌, ◌++◌, length, reverse, slice_index, Some, refl, sym, ap, ap₂, ◌∙◌, arith, ⊎_elim, All, subst}
use Rattle.std.specs.List.{AllByRecursion}
use Rattle.std.specs.List.Sorted.{IsPermutation}
use Rattle.std.specs.Set.{is_member}
use Rattle.std.proofs.lemmas.Bool.{cases_Bool, eqb-true}
use Rattle.std.proofs.lemmas.Bool.Decides.{nat_tests}
use Rattle.std.proofs.lemmas.List.Elements.{All-append}
use Rattle.std.proofs.lemmas.List.Sorted.{All-permutation, IsPermutation-append_left, IsPermutation-map, IsPermutation-trans}
use Rattle.list_lemmas.specs.Times.{times_in}
use Rattle.list_lemmas.proofs.Bools.{same_bool}
use Rattle.list_lemmas.proofs.Permuted.{permuted_times}
use Rattle.list_lemmas.proofs.Times.{member_of_times, times_of_member}
use Rattle.state_sums.specs.Networks.{Node, IsNode, names_of}
use Rattle.state_sums.specs.StateSums.{value}
use Rattle.state_sums.proofs.NetworkLaws.{any_order}
use Rattle.root_quantum.specs.Parameters.{Parameters}
use Rattle.root_quantum.specs.QuantumNumbers.{loop_value, inverse_root}
use Rattle.piece_laws.proofs.ParameterNumbers.{skein_numbers}
use Rattle.pd_reader.specs.declared.item.Item.{Item}
use Rattle.pd_reader.specs.declared.item.Item.TheVariants as item
use Rattle.pd_reader.specs.Items.{HasItsSlots}
use Rattle.pd_reader.specs.Diagrams.{IsDiagram}
use Rattle.planar_check.specs.Components.{least_labels}
use Rattle.cables.specs.Cables.{count_placed, cable, loop_count, Fits, as_net}
use Rattle.cables.specs.Nets.{projector_of, HasProjector}
use Rattle.cables.specs.Strands.{Strands}
use Rattle.cables.proofs.GridNames.{crossing_inner}
use Rattle.cables.proofs.NumberedStrands.{as_many_strands, first_length}
use Rattle.cables.proofs.PlaceNames.{AreAsMany}
use Rattle.cables.proofs.ProjectorBoxes.{projector_boxes}
use Rattle.coloured_values.specs.Coloured.{colour_of, is_boxed, diagram_strands, coloured}
use Rattle.coloured_values.specs.Laws.{HasColours}
use Rattle.coloured_values.proofs.CabledDiagrams.{few_colours}
use Rattle.diagram_moves.specs.Laws.{IsPairedDiagram}
use Rattle.diagram_moves.specs.Moves.{triangle_slots, triangle_rewritten}
use Rattle.diagram_moves.specs.Rewriting.{slot, crossing_at, crossing_labels}
use Rattle.diagram_moves.proofs.Paired.{times_labels, loop_labels}
use Rattle.diagram_moves.proofs.Rewritten.{anew, loop_labels-rewritten}
use Rattle.move_results.proofs.LeastLabelLists.{Contracts}
use Rattle.move_results.proofs.TriangleComponents.{after_members, triangle_contracts, triangle_components}
use Rattle.move_results.proofs.DiagramResults.{as_paired}
use Rattle.cable_crossings.proofs.CabledTriangle.{three_times, Bundles, cabled_triangle}
use Rattle.coloured_moves.proofs.CablePulls.{at_c, at_d, at_f, first, second, third, others, three_pulled, by_corner, corner_times, three_reversed}
use Rattle.coloured_moves.proofs.ExchangedStubs.{halved_stubbed, sizes-stubbed}
use Rattle.coloured_moves.proofs.LabelColours.{diagram_fits, opposite_colours, long_stub, opposite_stub, counts, loop_count_labels}
use Rattle.coloured_moves.proofs.PushedCables.{unboxed_second}
use Rattle.coloured_moves.proofs.SameComponents.{contracted_cable, contracted_fits}
use Rattle.cable_crossings.proofs.StepPieces.{All-first, All-second}
use Rattle.coloured_moves.proofs.StubCables.{stub_cable, stub_cable_ok, stubs_twice}
use Rattle.coloured_moves.proofs.StubItems.{half, halved, at_stub, stub_crossing, stub_nodes, boxes_of, first_labels, others_stay, anew_same, first_labels_times}
use Rattle.cable_crossings.proofs.ToldCrossings.{IsTold, retold, told_from}
use Rattle.coloured_moves.proofs.TurnedBoxes.{names_permuted, boxes_ok}
use Rattle.coloured_moves.proofs.SlidStubs as slid

-- ---- shapes
count_placed-anew : (h : ℕ → List ℕ → List ℕ) (n : ℕ) (items : List Item) → count_placed (as_net (anew h n items)) ≡ count_placed (as_net items)
count_placed-anew h n [] = refl
count_placed-anew h n (item.X ws ∷ rest) = ap suc (count_placed-anew h (n + 1) rest)
count_placed-anew h n (item.Loop l ∷ rest) = count_placed-anew h n rest

module _ (p : Parameters) (items : List Item) (is : IsDiagram items)
    (c : ℕ) (here : List ℕ) (found : crossing_at items c ≡ Some here) (d : ℕ) (there : List ℕ) (also : crossing_at items d ≡ Some there) (f : ℕ) (beyond : List ℕ) (too : crossing_at items f ≡ Some beyond)
    (apart_dc : (d == c) ≡ false) (apart_fc : (f == c) ≡ false) (apart_fd : (f == d) ≡ false) (k l j : ℕ) (low_k : k < 7) (low_l : l < 5) (low_j : j < 5)
    (edge_0 : slot there l ≡ slot here (k + 1)) (edge_1 : slot beyond j ≡ slot there (l + 1)) (edge_2 : slot here k ≡ slot beyond (j + 1)) (mixed : not (k % 2 == l % 2 && l % 2 == j % 2) ≡ true)
    (after_is : IsDiagram (triangle_rewritten items c d f here there beyond k l j)) (colours : List ℕ) (has : HasColours items colours)
    (projectors : (x : ℕ) → is_boxed items colours x ≡ true → HasProjector p (colour_of items colours x))
    (free_0 : is_boxed items colours (slot here (k + 1)) ≡ false) (free_1 : is_boxed items colours (slot there (l + 1)) ≡ false) (free_2 : is_boxed items colours (slot here k) ≡ false) where
  abbrev pd : IsPairedDiagram items
  pd = as_paired items is

  abbrev after : List Item
  after = triangle_rewritten items c d f here there beyond k l j

  abbrev delta : ℕ
  delta = loop_value p

  abbrev colour : ℕ → ℕ
  colour x = colour_of items colours x

  abbrev boxed : ℕ → Bool
  boxed x = is_boxed items colours x

  abbrev S : Strands
  S = diagram_strands p items colours

  k8 : k < 8
  k8 = omega (arith, low_k)

  l8 : l < 8
  l8 = omega (arith, low_l)

  j8 : j < 8
  j8 = omega (arith, low_j)

  few : (x : ℕ) → colour x ≤ 8
  few x = few_colours items colours has.few x

  long : (x : ℕ) → length (S.first x) ≡ colour x
  long x = first_length colour boxed (projector_of p) x

  even : AreAsMany S
  even = as_many_strands colour boxed (projector_of p)

  -- ---- the labels and their components, behind the move
  contracts : Contracts items after (λ z. z)
  contracts = triangle_contracts p.modulus delta p.root (inverse_root p) (skein_numbers p).skein items pd c here found d there also f beyond too apart_dc apart_fc apart_fd k l j k8 l8 j8 edge_0 edge_1 edge_2

  comps : least_labels after ≡ least_labels items
  comps = triangle_components p.modulus delta p.root (inverse_root p) (skein_numbers p).skein items pd c here found d there also f beyond too apart_dc apart_fc apart_fd k l j k8 l8 j8 edge_0 edge_1 edge_2

  to_S : value p.modulus delta (cable p (diagram_strands p after colours) (as_net after)) ≡ value p.modulus delta (cable p S (as_net after))
  to_S = ap (value p.modulus delta) (contracted_cable items after (λ z. z) contracts is.sizes after_is.sizes (sym comps) colours p)

  fits_items : AllByRecursion (Fits S) (as_net items)
  fits_items = diagram_fits p items is.sizes colours

  fits_after : AllByRecursion (Fits S) (as_net after)
  fits_after = contracted_fits items after (λ z. z) contracts is.sizes after_is.sizes (sym comps) colours p

  -- ---- stubs, before and behind the move
  abbrev B : List Item
  B = slid.B items pd c here found d there also f beyond too apart_dc apart_fc apart_fd k l j k8 l8 j8

  abbrev hereB : List ℕ
  hereB = slid.hereB items pd c here found d there also f beyond too apart_dc apart_fc apart_fd k l j k8 l8 j8

  abbrev thereB : List ℕ
  thereB = slid.thereB items pd c here found d there also f beyond too apart_dc apart_fc apart_fd k l j k8 l8 j8

  abbrev beyondB : List ℕ
  beyondB = slid.beyondB items pd c here found d there also f beyond too apart_dc apart_fc apart_fd k l j k8 l8 j8

  abbrev h : ℕ → List ℕ → List ℕ
  h = slid.slots_B items pd c here found d there also f beyond too apart_dc apart_fc apart_fd k l j k8 l8 j8

  abbrev D : List Item
  D = slid.D items pd c here found d there also f beyond too apart_dc apart_fc apart_fd k l j k8 l8 j8

  abbrev new_here : List ℕ
  new_here = slid.new_here items pd c here found d there also f beyond too apart_dc apart_fc apart_fd k l j k8 l8 j8

  abbrev new_there : List ℕ
  new_there = slid.new_there items pd c here found d there also f beyond too apart_dc apart_fc apart_fd k l j k8 l8 j8

  abbrev new_beyond : List ℕ
  new_beyond = slid.new_beyond items pd c here found d there also f beyond too apart_dc apart_fc apart_fd k l j k8 l8 j8

  found_B : crossing_at B c ≡ Some hereB
  found_B = slid.found_B items pd c here found d there also f beyond too apart_dc apart_fc apart_fd k l j k8 l8 j8

  also_B : crossing_at B d ≡ Some thereB
  also_B = slid.also_B items pd c here found d there also f beyond too apart_dc apart_fc apart_fd k l j k8 l8 j8

  too_B : crossing_at B f ≡ Some beyondB
  too_B = slid.too_B items pd c here found d there also f beyond too apart_dc apart_fc apart_fd k l j k8 l8 j8

  halved_D : halved D ≡ after
  halved_D = slid.halved_D items pd c here found d there also f beyond too apart_dc apart_fc apart_fd k l j k8 l8 j8

  sizes_D : AllByRecursion HasItsSlots D
  sizes_D = slid.sizes_D items pd c here found d there also f beyond too apart_dc apart_fc apart_fd k l j k8 l8 j8

  once_D : (w : ℕ) → times_in (crossing_labels D) w ≤ 1
  once_D = slid.once_D items pd c here found d there also f beyond too apart_dc apart_fc apart_fd k l j k8 l8 j8

  half_here : (i : ℕ) → half (slot hereB i) ≡ slot here i
  half_here i = slid.slot_half _ here i

  half_there : (i : ℕ) → half (slot thereB i) ≡ slot there i
  half_there i = slid.slot_half _ there i

  half_beyond : (i : ℕ) → half (slot beyondB i) ≡ slot beyond i
  half_beyond i = slid.slot_half _ beyond i

  -- ---- the loops stay
  loops_after : loop_labels after ≡ loop_labels items
  loops_after = loop_labels-rewritten (triangle_slots c d f here there beyond k l j) 1 items

  abbrev free : ℕ
  free = loop_count S (as_net items)

  behind_is : loop_count S (as_net after) ≡ free
  behind_is = loop_count_labels S after ∙ ap (counts S) loops_after ∙ sym (loop_count_labels S items)

  abbrev V : List Node → ℕ
  V ns = value p.modulus delta record { nodes = ns; free_loops = free }

  abbrev lg : ℕ
  lg = count_placed (as_net items) + 1

  -- ---- the cable behind the move: boxes and stubs
  abbrev SD : List Node
  SD = stub_nodes p S [] 1 1 0 lg D

  abbrev L : List ℕ
  L = first_labels boxed [] items

  abbrev L' : List ℕ
  L' = first_labels boxed [] after

  same_labels : IsPermutation L' L
  same_labels =
      permuted_times L L' (λ x.
      let a = first_labels_times boxed [] after x in
      let b = first_labels_times boxed [] items x in
      let u = times_labels after x in let v = times_labels items x in
      let w = after_members p.modulus delta p.root (inverse_root p) (skein_numbers p).skein items pd c here found d there also f beyond too apart_dc apart_fc apart_fd k l j k8 l8 j8 edge_0 edge_1 edge_2 x in
      let q = ap (λ ns. times_in ns x) loops_after in
      let same : times_in (crossing_labels after) x ≡ times_in (crossing_labels items) x = omega (arith, u, v, w, q) in
      let e : is_member ◌==◌ (crossing_labels after) x ≡ is_member ◌==◌ (crossing_labels items) x =
      same_bool (is_member ◌==◌ (crossing_labels after) x) (is_member ◌==◌ (crossing_labels items) x)
      (λ m. (let one = times_of_member x (crossing_labels after) m in member_of_times x (crossing_labels items) (omega (arith, one, same))))
      (λ m. (let one = times_of_member x (crossing_labels items) m in member_of_times x (crossing_labels after) (omega (arith, one, same)))) in
      a ∙ ap (λ t. cond (t && (boxed x && true)) 1 0) e ∙ sym b)

  -- ---- three crossings in front
  abbrev bx : List Node
  bx = boxes_of S L

  ok_bx : All IsNode bx
  ok_bx = boxes_ok p.modulus delta S (projector_boxes p) even L

  abbrev one : List ℕ → List Node
  one = first p S lg B c hereB found_B d thereB also_B f beyondB too_B apart_dc apart_fc apart_fd

  abbrev two : List ℕ → List Node
  two = second p S lg B c hereB found_B d thereB also_B f beyondB too_B apart_dc apart_fc apart_fd

  abbrev three : List ℕ → List Node
  three = third p S lg B c hereB found_B d thereB also_B f beyondB too_B apart_dc apart_fc apart_fd

  abbrev rest : List Node
  rest = bx ++ others p S lg B c hereB found_B d thereB also_B f beyondB too_B apart_dc apart_fc apart_fd (λ n slots. slots)

  abbrev old_front : List Node
  old_front = one hereB ++ (two thereB ++ (three beyondB ++ rest))

  abbrev new_front : List Node
  new_front = one new_here ++ (two new_there ++ (three new_beyond ++ rest))

  abbrev SB : List Node
  SB = stub_nodes p S [] 1 1 0 lg B

  perm_old : IsPermutation (bx ++ SB) old_front
  perm_old =
      let P : List Item → Type 0 = λ xs. IsPermutation (bx ++ stub_nodes p S [] 1 1 0 lg xs) old_front in
      subst P (anew_same 1 B) (three_pulled p S lg B c hereB found_B d thereB also_B f beyondB too_B apart_dc apart_fc apart_fd bx (λ n slots. slots))

  perm_new : IsPermutation (bx ++ SD) new_front
  perm_new =
      let raw = three_pulled p S lg B c hereB found_B d thereB also_B f beyondB too_B apart_dc apart_fc apart_fd bx h in
      let O = others p S lg B c hereB found_B d thereB also_B f beyondB too_B apart_dc apart_fc apart_fd h in
      let here_is = slid.here_is items pd c here found d there also f beyond too apart_dc apart_fc apart_fd k l j k8 l8 j8 in
      let there_is = slid.there_is items pd c here found d there also f beyond too apart_dc apart_fc apart_fd k l j k8 l8 j8 in
      let beyond_is = slid.beyond_is items pd c here found d there also f beyond too apart_dc apart_fc apart_fd k l j k8 l8 j8 in
      let stays = slid.stays items pd c here found d there also f beyond too apart_dc apart_fc apart_fd k l j k8 l8 j8 in
      let same : O ≡ others p S lg B c hereB found_B d thereB also_B f beyondB too_B apart_dc apart_fc apart_fd (λ n slots. slots) =
      others_stay p S h (f ∷ d ∷ c ∷ []) stays 1 1 0 lg B ∙ ap (stub_nodes p S (f ∷ d ∷ c ∷ []) 1 1 0 lg) (sym (anew_same 1 B)) in
      let P : List Node → Type 0 = λ ns. IsPermutation (bx ++ SD) ns in
      let e : one (h c hereB) ++ (two (h d thereB) ++ (three (h f beyondB) ++ (bx ++ O))) ≡ new_front =
      ap₂ (λ u v. one u ++ (two v ++ (three (h f beyondB) ++ (bx ++ O)))) here_is there_is ∙ ap₂ (λ u ns. one new_here ++ (two new_there ++ (three u ++ (bx ++ ns)))) beyond_is same in
      subst P e raw

  placed : count_placed (as_net after) ≡ count_placed (as_net items)
  placed = count_placed-anew (triangle_slots c d f here there beyond k l j) 1 items

  ok_behind : All IsNode (boxes_of S L' ++ SD)
  ok_behind =
      let P : ℕ → Type 0 = λ n. All IsNode (boxes_of S L' ++ stub_nodes p S [] 1 1 0 (n + 1) D) in
      subst P placed (stub_cable_ok p colour boxed few after after_is fits_after projectors D halved_D sizes_D once_D)

  -- THE CABLE BEHIND THE MOVE
  new_value : value p.modulus delta (cable p S (as_net after)) ≡ V new_front
  new_value =
      let turned = boxes_of S L' in
      let perm = IsPermutation-trans (turned ++ SD) (bx ++ SD) new_front (IsPermutation-append_left SD turned bx (IsPermutation-map _ L' L same_labels)) perm_new in
      stub_cable p colour boxed few after after_is fits_after projectors D halved_D sizes_D once_D
      ∙ ap₂ (λ n k. value p.modulus delta record { nodes = turned ++ stub_nodes p S [] 1 1 0 (n + 1) D; free_loops = k }) placed behind_is
      ∙ sym (any_order p.modulus delta free (turned ++ SD) new_front ok_behind perm)

  -- ---- the cable before it
  sizes_B : AllByRecursion HasItsSlots B
  sizes_B = sizes-stubbed [] items is.sizes

  once_B : (w : ℕ) → times_in (crossing_labels B) w ≤ 1
  once_B = slid.once_B items pd c here found d there also f beyond too apart_dc apart_fc apart_fd k l j k8 l8 j8

  ok_before : All IsNode (bx ++ SB)
  ok_before = stub_cable_ok p colour boxed few items is fits_items projectors B (halved_stubbed [] items) sizes_B once_B

  ok_old : All IsNode old_front
  ok_old = All-permutation IsNode (bx ++ SB) old_front perm_old ok_before

  ok_new : All IsNode new_front
  ok_new = All-permutation IsNode (bx ++ SD) new_front perm_new (All-append IsNode bx SD ok_bx (All-second IsNode (boxes_of S L') SD ok_behind))

  -- THE CABLE BEFORE THE MOVE
  old_value : value p.modulus delta (cable p S (as_net items)) ≡ V old_front
  old_value = stub_cable p colour boxed few items is fits_items projectors B (halved_stubbed [] items) sizes_B once_B ∙ sym (any_order p.modulus delta free (bx ++ SB) old_front ok_before perm_old)

  twice : (z : ℕ) → 1 ≤ times_in (names_of old_front) z → times_in (names_of old_front) z ≡ 2
  twice z one =
      let a = names_permuted z (bx ++ SB) old_front perm_old in
      let t = stubs_twice p colour boxed few items is fits_items z (omega (arith, one, a)) in
      omega (arith, a, t)

  -- ---- the bundles of the triangle
  long_at : (w : ℕ) → length (at_stub S w) ≡ colour (half w)
  long_at w = long_stub S even w ∙ long (half w)

  at_here : (i : ℕ) → length (at_stub S (slot hereB i)) ≡ colour (slot here i)
  at_here i = long_at (slot hereB i) ∙ ap colour (half_here i)

  at_there : (i : ℕ) → length (at_stub S (slot thereB i)) ≡ colour (slot there i)
  at_there i = long_at (slot thereB i) ∙ ap colour (half_there i)

  at_beyond : (i : ℕ) → length (at_stub S (slot beyondB i)) ≡ colour (slot beyond i)
  at_beyond i = long_at (slot beyondB i) ∙ ap colour (half_beyond i)

  opposite_here : (i : ℕ) → i < 8 → (colour (slot here i) ≡ colour (slot here (i + 2))) × (colour (slot here (i + 1)) ≡ colour (slot here (i + 3)))
  opposite_here i low = opposite_colours items is.sizes colours c here found i low

  opposite_there : (i : ℕ) → i < 8 → (colour (slot there i) ≡ colour (slot there (i + 2))) × (colour (slot there (i + 1)) ≡ colour (slot there (i + 3)))
  opposite_there i low = opposite_colours items is.sizes colours d there also i low

  opposite_beyond : (i : ℕ) → i < 8 → (colour (slot beyond i) ≡ colour (slot beyond (i + 2))) × (colour (slot beyond (i + 1)) ≡ colour (slot beyond (i + 3)))
  opposite_beyond i low = opposite_colours items is.sizes colours f beyond too i low

  abbrev x : ℕ
  x = colour (slot there (l + 1))

  abbrev y : ℕ
  y = colour (slot here k)

  abbrev z : ℕ
  z = colour (slot here (k + 1))

  long_here_2 : length (at_stub S (slot hereB (k + 2))) ≡ y
  long_here_2 = at_here (k + 2) ∙ sym (opposite_here k k8).0

  long_here_3 : length (at_stub S (slot hereB (k + 3))) ≡ z
  long_here_3 = at_here (k + 3) ∙ sym (opposite_here k k8).1

  long_there_0 : length (at_stub S (slot thereB l)) ≡ z
  long_there_0 = at_there l ∙ ap colour edge_0

  long_there_2 : length (at_stub S (slot thereB (l + 2))) ≡ z
  long_there_2 = at_there (l + 2) ∙ sym (opposite_there l l8).0 ∙ ap colour edge_0

  long_there_3 : length (at_stub S (slot thereB (l + 3))) ≡ x
  long_there_3 = at_there (l + 3) ∙ sym (opposite_there l l8).1

  long_beyond_0 : length (at_stub S (slot beyondB j)) ≡ x
  long_beyond_0 = at_beyond j ∙ ap colour edge_1

  long_beyond_1 : length (at_stub S (slot beyondB (j + 1))) ≡ y
  long_beyond_1 = at_beyond (j + 1) ∙ ap colour (sym edge_2)

  long_beyond_2 : length (at_stub S (slot beyondB (j + 2))) ≡ x
  long_beyond_2 = at_beyond (j + 2) ∙ sym (opposite_beyond j j8).0 ∙ ap colour edge_1

  long_beyond_3 : length (at_stub S (slot beyondB (j + 3))) ≡ y
  long_beyond_3 = at_beyond (j + 3) ∙ sym (opposite_beyond j j8).1 ∙ ap colour (sym edge_2)

  -- an inner edge has one list of names, in both directions
  plain : (w e : ℕ) → half w ≡ e → boxed e ≡ false → S.second (half w) ≡ reverse (S.first (half w))
  plain w e is_e free_e = unboxed_second (colour (half w)) (half w) (boxed (half w)) (ap boxed is_e ∙ free_e)

  bundles : Bundles x y z (at_stub S (slot hereB k)) (at_stub S (slot hereB (k + 1))) (at_stub S (slot thereB l)) (at_stub S (slot thereB (l + 1))) (at_stub S (slot beyondB j)) (at_stub S (slot beyondB (j + 1)))
      (at_stub S (slot thereB (l + 2))) (at_stub S (slot thereB (l + 3))) (at_stub S (slot beyondB (j + 2))) (at_stub S (slot beyondB (j + 3))) (at_stub S (slot hereB (k + 2))) (at_stub S (slot hereB (k + 3)))
  bundles = record {
    inner_y = opposite_stub S (slot hereB k) (slot beyondB (j + 1)) (half_here k ∙ edge_2 ∙ sym (half_beyond (j + 1))) (slid.differ_2 items pd c here found d there also f beyond too apart_dc apart_fc apart_fd k l j k8 l8 j8) (plain (slot hereB k) (slot here k) (half_here k) free_2);
    inner_z = opposite_stub S (slot hereB (k + 1)) (slot thereB l) (half_here (k + 1) ∙ sym edge_0 ∙ sym (half_there l)) (slid.differ_0 items pd c here found d there also f beyond too apart_dc apart_fc apart_fd k l j k8 l8 j8) (plain (slot hereB (k + 1)) (slot here (k + 1)) (half_here (k + 1)) free_0);
    inner_x = opposite_stub S (slot thereB (l + 1)) (slot beyondB j) (half_there (l + 1) ∙ sym edge_1 ∙ sym (half_beyond j)) (slid.differ_1 items pd c here found d there also f beyond too apart_dc apart_fc apart_fd k l j k8 l8 j8) (plain (slot thereB (l + 1)) (slot there (l + 1)) (half_there (l + 1)) free_1);
    length_yh = at_here k;
    length_yb = long_beyond_1;
    length_zh = at_here (k + 1);
    length_zt = long_there_0;
    length_xt = at_there (l + 1);
    length_xb = long_beyond_0;
    length_p = long_there_2;
    length_q = long_there_3;
    length_r = long_beyond_2;
    length_s = long_beyond_3;
    length_t = long_here_2;
    length_u = long_here_3;
  }

  -- ---- what stands around the corners behind the move
  corner_here : (i : ℕ) → slice_index (slot new_here k ∷ slot new_here (k + 1) ∷ slot new_here (k + 2) ∷ slot new_here (k + 3) ∷ []) i ≡ slice_index (slot beyondB (j + 3) ∷ slot thereB (l + 2) ∷ slot hereB k ∷ slot hereB (k + 1) ∷ []) i
  corner_here i = ap (λ ws. slice_index ws i) (slid.around_here items pd c here found d there also f beyond too apart_dc apart_fc apart_fd k l j k8 l8 j8)

  corner_there : (i : ℕ) → slice_index (slot new_there l ∷ slot new_there (l + 1) ∷ slot new_there (l + 2) ∷ slot new_there (l + 3) ∷ []) i ≡ slice_index (slot hereB (k + 3) ∷ slot beyondB (j + 2) ∷ slot thereB l ∷ slot thereB (l + 1) ∷ []) i
  corner_there i = ap (λ ws. slice_index ws i) (slid.around_there items pd c here found d there also f beyond too apart_dc apart_fc apart_fd k l j k8 l8 j8)

  corner_beyond : (i : ℕ) → slice_index (slot new_beyond j ∷ slot new_beyond (j + 1) ∷ slot new_beyond (j + 2) ∷ slot new_beyond (j + 3) ∷ []) i ≡ slice_index (slot thereB (l + 3) ∷ slot hereB (k + 2) ∷ slot beyondB j ∷ slot beyondB (j + 1) ∷ []) i
  corner_beyond i = ap (λ ws. slice_index ws i) (slid.around_beyond items pd c here found d there also f beyond too apart_dc apart_fc apart_fd k l j k8 l8 j8)

  -- ---- each slot keeps its number of strands
  abbrev Sized : List ℕ → List ℕ → ℕ → Type 0
  Sized ws us i = length (at_stub S (slice_index ws i)) ≡ length (at_stub S (slice_index us i))

  long_stub_is : (w v n : ℕ) → w ≡ v → length (at_stub S v) ≡ n → length (at_stub S w) ≡ n
  long_stub_is w v n e h = ap (λ u. length (at_stub S u)) e ∙ h

  sized_here : (Sized new_here hereB 0) × (Sized new_here hereB 1) × (Sized new_here hereB 2) × (Sized new_here hereB 3)
  sized_here =
      by_corner (Sized new_here hereB) k k8
      (long_stub_is (slot new_here k) (slot beyondB (j + 3)) y (corner_here 0) long_beyond_3 ∙ sym (at_here k))
      (long_stub_is (slot new_here (k + 1)) (slot thereB (l + 2)) z (corner_here 1) long_there_2 ∙ sym (at_here (k + 1)))
      (long_stub_is (slot new_here (k + 2)) (slot hereB k) y (corner_here 2) (at_here k) ∙ sym long_here_2)
      (long_stub_is (slot new_here (k + 3)) (slot hereB (k + 1)) z (corner_here 3) (at_here (k + 1)) ∙ sym long_here_3)

  sized_there : (Sized new_there thereB 0) × (Sized new_there thereB 1) × (Sized new_there thereB 2) × (Sized new_there thereB 3)
  sized_there =
      by_corner (Sized new_there thereB) l l8
      (long_stub_is (slot new_there l) (slot hereB (k + 3)) z (corner_there 0) long_here_3 ∙ sym long_there_0)
      (long_stub_is (slot new_there (l + 1)) (slot beyondB (j + 2)) x (corner_there 1) long_beyond_2 ∙ sym (at_there (l + 1)))
      (long_stub_is (slot new_there (l + 2)) (slot thereB l) z (corner_there 2) long_there_0 ∙ sym long_there_2)
      (long_stub_is (slot new_there (l + 3)) (slot thereB (l + 1)) x (corner_there 3) (at_there (l + 1)) ∙ sym long_there_3)

  sized_beyond : (Sized new_beyond beyondB 0) × (Sized new_beyond beyondB 1) × (Sized new_beyond beyondB 2) × (Sized new_beyond beyondB 3)
  sized_beyond =
      by_corner (Sized new_beyond beyondB) j j8
      (long_stub_is (slot new_beyond j) (slot thereB (l + 3)) x (corner_beyond 0) long_there_3 ∙ sym long_beyond_0)
      (long_stub_is (slot new_beyond (j + 1)) (slot hereB (k + 2)) y (corner_beyond 1) long_here_2 ∙ sym long_beyond_1)
      (long_stub_is (slot new_beyond (j + 2)) (slot beyondB j) x (corner_beyond 2) long_beyond_0 ∙ sym long_beyond_2)
      (long_stub_is (slot new_beyond (j + 3)) (slot beyondB (j + 1)) y (corner_beyond 3) long_beyond_1 ∙ sym long_beyond_3)

  -- opposite slots have as many strands
  abbrev Opposite : List ℕ → Type 0
  Opposite ws = (length (at_stub S (slice_index ws 0)) ≡ length (at_stub S (slice_index ws 2))) × (length (at_stub S (slice_index ws 1)) ≡ length (at_stub S (slice_index ws 3)))

  fits_here : Opposite hereB
  fits_here = (at_here 0 ∙ (opposite_here 0 (omega arith)).0 ∙ sym (at_here 2), at_here 1 ∙ (opposite_here 0 (omega arith)).1 ∙ sym (at_here 3))

  fits_there : Opposite thereB
  fits_there = (at_there 0 ∙ (opposite_there 0 (omega arith)).0 ∙ sym (at_there 2), at_there 1 ∙ (opposite_there 0 (omega arith)).1 ∙ sym (at_there 3))

  fits_beyond : Opposite beyondB
  fits_beyond = (at_beyond 0 ∙ (opposite_beyond 0 (omega arith)).0 ∙ sym (at_beyond 2), at_beyond 1 ∙ (opposite_beyond 0 (omega arith)).1 ∙ sym (at_beyond 3))

  fits_again : (ws us : List ℕ) → (Sized ws us 0) × (Sized ws us 1) × (Sized ws us 2) × (Sized ws us 3) → Opposite us → Opposite ws
  fits_again ws us s o = (s.0 ∙ o.0 ∙ sym s.2, s.1 ∙ o.1 ∙ sym s.3)

  -- ---- the six crossings are nodes
  ok_tail : All IsNode (two thereB ++ (three beyondB ++ rest))
  ok_tail = All-second IsNode (one hereB) (two thereB ++ (three beyondB ++ rest)) ok_old

  ok_one : All IsNode (one hereB)
  ok_one = All-first IsNode (one hereB) (two thereB ++ (three beyondB ++ rest)) ok_old

  ok_two : All IsNode (two thereB)
  ok_two = All-first IsNode (two thereB) (three beyondB ++ rest) ok_tail

  ok_last : All IsNode (three beyondB ++ rest)
  ok_last = All-second IsNode (two thereB) (three beyondB ++ rest) ok_tail

  ok_three : All IsNode (three beyondB)
  ok_three = All-first IsNode (three beyondB) rest ok_last

  ok_rest : All IsNode rest
  ok_rest = All-second IsNode (three beyondB) rest ok_last

  ok_new_tail : All IsNode (two new_there ++ (three new_beyond ++ rest))
  ok_new_tail = All-second IsNode (one new_here) (two new_there ++ (three new_beyond ++ rest)) ok_new

  ok_new_one : All IsNode (one new_here)
  ok_new_one = All-first IsNode (one new_here) (two new_there ++ (three new_beyond ++ rest)) ok_new

  ok_new_two : All IsNode (two new_there)
  ok_new_two = All-first IsNode (two new_there) (three new_beyond ++ rest) ok_new_tail

  ok_new_three : All IsNode (three new_beyond)
  ok_new_three = All-first IsNode (three new_beyond) rest (All-second IsNode (two new_there) (three new_beyond ++ rest) ok_new_tail)

  -- ---- and told from the south of the bundles' picture
  told_slot : (g i : ℕ) (ws : List ℕ) → Opposite ws → All IsNode (stub_crossing p S g i ws) → (s : ℕ) → s < 8 → (a b e n : ℕ) → s % 4 ≡ a % 4 → (s + 1) % 4 ≡ b % 4 → (s + 2) % 4 ≡ e % 4 → (s + 3) % 4 ≡ n % 4 → (qa qb qe qn : ℕ) →
      slot ws a ≡ qa → slot ws b ≡ qb → slot ws e ≡ qe → slot ws n ≡ qn →
      IsTold p.modulus delta (stub_crossing p S g i ws) (cond (s % 2 == 0) p.root (inverse_root p)) (cond (s % 2 == 0) (inverse_root p) p.root) (at_stub S qa) (at_stub S qb) (at_stub S qe) (at_stub S qn)
  told_slot g i ws o ok s low a b e n ea eb ee en qa qb qe qn fa fb fe fn =
      let F : ℕ → List ℕ = λ r. at_stub S (slice_index ws r) in
      retold p.modulus delta (stub_crossing p S g i ws) (cond (s % 2 == 0) p.root (inverse_root p)) (cond (s % 2 == 0) (inverse_root p) p.root) (F (s % 4)) (F ((s + 1) % 4)) (F ((s + 2) % 4)) (F ((s + 3) % 4))
      (at_stub S qa) (at_stub S qb) (at_stub S qe) (at_stub S qn) (ap F ea ∙ ap (at_stub S) fa) (ap F eb ∙ ap (at_stub S) fb) (ap F ee ∙ ap (at_stub S) fe) (ap F en ∙ ap (at_stub S) fn)
      (told_from p delta g i F o.0 o.1 ok s low)

  abbrev group_1 : ℕ
  group_1 = (at_c p S lg B c hereB found_B d thereB also_B f beyondB too_B apart_dc apart_fc apart_fd).0

  abbrev index_1 : ℕ
  index_1 = (at_c p S lg B c hereB found_B d thereB also_B f beyondB too_B apart_dc apart_fc apart_fd).1

  abbrev group_2 : ℕ
  group_2 = (at_d p S lg B c hereB found_B d thereB also_B f beyondB too_B apart_dc apart_fc apart_fd).0

  abbrev index_2 : ℕ
  index_2 = (at_d p S lg B c hereB found_B d thereB also_B f beyondB too_B apart_dc apart_fc apart_fd).1

  abbrev group_3 : ℕ
  group_3 = (at_f p S lg B c hereB found_B d thereB also_B f beyondB too_B apart_dc apart_fc apart_fd).0

  abbrev index_3 : ℕ
  index_3 = (at_f p S lg B c hereB found_B d thereB also_B f beyondB too_B apart_dc apart_fc apart_fd).1

  -- ---- how often names stand behind the move
  again : (g i w : ℕ) (ws us : List ℕ) (r : ℕ) → r < 8 → (Sized ws us 0) × (Sized ws us 1) × (Sized ws us 2) × (Sized ws us 3) → Opposite us → (q0 q1 q2 q3 : ℕ) → slot ws r ≡ q0 → slot ws (r + 1) ≡ q1 → slot ws (r + 2) ≡ q2 → slot ws (r + 3) ≡ q3 →
      times_in (names_of (stub_crossing p S g i ws)) w + times_in (at_stub S (slot us r)) w + times_in (at_stub S (slot us (r + 1))) w + times_in (at_stub S (slot us (r + 2))) w + times_in (at_stub S (slot us (r + 3))) w
      ≡ times_in (names_of (stub_crossing p S g i us)) w + times_in (at_stub S q0) w + times_in (at_stub S q1) w + times_in (at_stub S q2) w + times_in (at_stub S q3) w
  again g i w ws us r low s o q0 q1 q2 q3 e0 e1 e2 e3 =
      let F : ℕ → ℕ = λ v. times_in (at_stub S v) w in
      let new_o = fits_again ws us s o in
      let a = corner_times p S g i w ws r low new_o.0 new_o.1 in
      let b = corner_times p S g i w us r low o.0 o.1 in
      let same : crossing_inner i (length (at_stub S (slice_index ws 0))) (length (at_stub S (slice_index ws 1))) w ≡ crossing_inner i (length (at_stub S (slice_index us 0))) (length (at_stub S (slice_index us 1))) w =
      ap₂ (λ m n. crossing_inner i m n w) s.0 s.1 in
      let f0 = ap F e0 in let f1 = ap F e1 in let f2 = ap F e2 in let f3 = ap F e3 in
      omega (arith, a, b, same, f0, f1, f2, f3)

  -- the order of the crossings, before the move
  twice_reversed : (w : ℕ) → 1 ≤ times_in (names_of (three beyondB ++ (two thereB ++ (one hereB ++ rest)))) w → times_in (names_of (three beyondB ++ (two thereB ++ (one hereB ++ rest)))) w ≡ 2
  twice_reversed w one_w =
      let a = three_times w (one hereB) (two thereB) (three beyondB) rest in
      let b = three_times w (three beyondB) (two thereB) (one hereB) rest in
      let t = twice w (omega (arith, a, b, one_w)) in
      omega (arith, a, b, t)

  twice_new : (w : ℕ) → 1 ≤ times_in (names_of new_front) w → times_in (names_of new_front) w ≡ 2
  twice_new w one_w =
      let a = three_times w (one hereB) (two thereB) (three beyondB) rest in
      let b = three_times w (one new_here) (two new_there) (three new_beyond) rest in
      let u = again group_1 index_1 w new_here hereB k k8 sized_here fits_here (slot beyondB (j + 3)) (slot thereB (l + 2)) (slot hereB k) (slot hereB (k + 1)) (corner_here 0) (corner_here 1) (corner_here 2) (corner_here 3) in
      let v = again group_2 index_2 w new_there thereB l l8 sized_there fits_there (slot hereB (k + 3)) (slot beyondB (j + 2)) (slot thereB l) (slot thereB (l + 1)) (corner_there 0) (corner_there 1) (corner_there 2) (corner_there 3) in
      let q = again group_3 index_3 w new_beyond beyondB j j8 sized_beyond fits_beyond (slot thereB (l + 3)) (slot hereB (k + 2)) (slot beyondB j) (slot beyondB (j + 1)) (corner_beyond 0) (corner_beyond 1) (corner_beyond 2) (corner_beyond 3) in
      let same : times_in (names_of new_front) w ≡ times_in (names_of old_front) w = omega (arith, a, b, u, v, q) in
      let t = twice w (omega (arith, same, one_w)) in
      omega (arith, same, t)

  -- one strand is above both others, or below both
  one_above : (((j + 3) % 2 == 0) ≡ ((l + 2) % 2 == 0)) ⊎ (((l + 2) % 2 == 0) ≡ ((k + 1) % 2 == 0))
  one_above =
      ⊎_elim
      (λ t. (let e = eqb-true (l % 2) (j % 2) t in let apart = other (k % 2 == l % 2) (l % 2 == j % 2) mixed t in let differ = unequal (k % 2) (l % 2) apart in inr (ap (λ r. r == 0) (let q : (l + 2) % 2 ≡ (k + 1) % 2 = omega (arith, differ) in q))))
      (λ t. (let differ = unequal (l % 2) (j % 2) t in inl (ap (λ r. r == 0) (let q : (j + 3) % 2 ≡ (l + 2) % 2 = omega (arith, differ) in q))))
      (cases_Bool (l % 2 == j % 2))
    where
      other : (a b : Bool) → not (a && b) ≡ true → b ≡ true → a ≡ false
      other a b h t = grind (arith, h, t)

      unequal : (a b : ℕ) → (a == b) ≡ false → a ≢ b
      unequal a b h e = grind (arith, nat_tests, h, e)

  triangle_value : V (three beyondB ++ (two thereB ++ (one hereB ++ rest))) ≡ V new_front
  triangle_value =
      cabled_triangle p.modulus p.root (inverse_root p) delta (skein_numbers p).skein ((j + 3) % 2 == 0) ((l + 2) % 2 == 0) ((k + 1) % 2 == 0) one_above x y z (few (slot there (l + 1))) (few (slot here k)) (few (slot here (k + 1)))
      (at_stub S (slot hereB k)) (at_stub S (slot hereB (k + 1))) (at_stub S (slot thereB l)) (at_stub S (slot thereB (l + 1))) (at_stub S (slot beyondB j)) (at_stub S (slot beyondB (j + 1)))
      (at_stub S (slot thereB (l + 2))) (at_stub S (slot thereB (l + 3))) (at_stub S (slot beyondB (j + 2))) (at_stub S (slot beyondB (j + 3))) (at_stub S (slot hereB (k + 2))) (at_stub S (slot hereB (k + 3))) bundles
      (one hereB) (two thereB) (three beyondB) (one new_here) (two new_there) (three new_beyond)
      (told_slot group_1 index_1 hereB fits_here ok_one (k + 1) (omega (arith, low_k)) (k + 1) (k + 2) (k + 3) k refl (omega arith) (omega arith) (omega arith) (slot hereB (k + 1)) (slot hereB (k + 2)) (slot hereB (k + 3)) (slot hereB k) refl refl refl refl)
      (told_slot group_2 index_2 thereB fits_there ok_two (l + 2) (omega (arith, low_l)) (l + 2) (l + 3) l (l + 1) refl (omega arith) (omega arith) (omega arith) (slot thereB (l + 2)) (slot thereB (l + 3)) (slot thereB l) (slot thereB (l + 1)) refl refl refl refl)
      (told_slot group_3 index_3 beyondB fits_beyond ok_three (j + 3) (omega (arith, low_j)) (j + 3) j (j + 1) (j + 2) refl (omega arith) (omega arith) (omega arith) (slot beyondB (j + 3)) (slot beyondB j) (slot beyondB (j + 1)) (slot beyondB (j + 2)) refl refl refl refl)
      (told_slot group_1 index_1 new_here (fits_again new_here hereB sized_here fits_here) ok_new_one (k + 1) (omega (arith, low_k)) (k + 1) (k + 2) (k + 3) k refl (omega arith) (omega arith) (omega arith)
      (slot thereB (l + 2)) (slot hereB k) (slot hereB (k + 1)) (slot beyondB (j + 3)) (corner_here 1) (corner_here 2) (corner_here 3) (corner_here 0))
      (told_slot group_2 index_2 new_there (fits_again new_there thereB sized_there fits_there) ok_new_two (l + 2) (omega (arith, low_l)) (l + 2) (l + 3) l (l + 1) refl (omega arith) (omega arith) (omega arith)
      (slot thereB l) (slot thereB (l + 1)) (slot hereB (k + 3)) (slot beyondB (j + 2)) (corner_there 2) (corner_there 3) (corner_there 0) (corner_there 1))
      (told_slot group_3 index_3 new_beyond (fits_again new_beyond beyondB sized_beyond fits_beyond) ok_new_three (j + 3) (omega (arith, low_j)) (j + 3) j (j + 1) (j + 2) refl (omega arith) (omega arith) (omega arith)
      (slot beyondB (j + 1)) (slot thereB (l + 3)) (slot hereB (k + 2)) (slot beyondB j) (corner_beyond 3) (corner_beyond 0) (corner_beyond 1) (corner_beyond 2))
      ok_one ok_two ok_three ok_new_one ok_new_two ok_new_three free rest ok_rest twice_reversed twice_new

  -- R3 KEEPS THE COLOURED VALUE
  pub slid_coloured : coloured p after colours ≡ coloured p items colours
  unfolding coloured
  slid_coloured =
      to_S ∙ new_value ∙ sym triangle_value
      ∙ sym (three_reversed p.modulus delta free (one hereB) (two thereB) (three beyondB) rest ok_one ok_two ok_three ok_rest)
      ∙ sym old_value
