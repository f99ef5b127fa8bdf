-- The crossing of a curl that CurlUndo takes, beside the other nodes of its diagram: its strands come in at one stub, go round the loop and leave at
-- another. The diagram with one bundle of arcs in place of the crossing is one with two, which meet in the loop's label.
use Rattle.std.proofs.Common.{◌≡◌, ◌≢◌, ℕ, zero, suc, ◌+◌, ◌%◌, ◌<◌, ◌≤◌, ◌==◌, ◌&&◌, Bool, true, false, cond, List, [], ◌∷◌, ◌++◌, length, reverse, slice_index, Some, refl, sym, ap, ◌∙◌, arith, ⊎_elim, All, subst, append-nil}
use Rattle.std.specs.List.{AllByRecursion, zip}
use Rattle.std.specs.List.Sorted.{IsPermutation}
use Rattle.std.specs.Set.{is_member}
use Rattle.std.proofs.lemmas.Bool.{cases_eq, eqb-true}
use Rattle.std.proofs.lemmas.List.Sorted.{All-permutation}
use Rattle.graph_parts.specs.Ends.{ends_of}
use Rattle.list_lemmas.specs.Times.{times_in}
use Rattle.list_lemmas.proofs.Times.{times_of_member, member_of_times}
use Rattle.state_sums.specs.Networks.{Node, IsNode, names_of}
use Rattle.state_sums.specs.StateSums.{value}
use Rattle.state_sums.proofs.NetworkLaws.{any_order}
use Rattle.root_quantum.specs.Parameters.{Parameters}
use Rattle.root_quantum.specs.QuantumNumbers.{inverse_root, loop_value}
use Rattle.piece_laws.specs.Arcs.{arcs_of}
use Rattle.strand_words.specs.Grids.{crossed}
use Rattle.pd_reader.specs.declared.item.Item.{Item}
use Rattle.pd_reader.specs.Items.{item_labels, HasItsSlots}
use Rattle.pd_reader.specs.Diagrams.{labels, IsDiagram, IsLabel}
use Rattle.planar_check.specs.declared.sign.Sign.{Sign}
use Rattle.planar_check.specs.declared.sign.Sign.TheVariants as signs
use Rattle.cables.specs.CableNodes.{crossing_cable}
use Rattle.cables.specs.Cables.{count_placed, cable, loop_count, Fits, as_net}
use Rattle.cables.specs.Nets.{HasProjector, projector_of}
use Rattle.cables.specs.Strands.{Strands}
use Rattle.cables.proofs.NumberedStrands.{as_many_strands, first_length}
use Rattle.coloured_values.specs.Coloured.{colour_of, is_boxed, diagram_strands}
use Rattle.coloured_values.specs.Laws.{HasColours}
use Rattle.coloured_values.proofs.CabledDiagrams.{few_colours}
use Rattle.coloured_values.proofs.ColouredLaws.{each_label}
use Rattle.diagram_moves.specs.Laws.{IsPairedDiagram}
use Rattle.diagram_moves.specs.Moves.{is_curl}
use Rattle.diagram_moves.specs.Rewriting.{slot, around, crossing_at, crossing_labels}
use Rattle.diagram_moves.proofs.Corners.{one_times}
use Rattle.diagram_moves.proofs.Curling.{is_plus}
use Rattle.diagram_moves.proofs.Paired.{paired, times_labels}
use Rattle.diagram_moves.proofs.Rewritten.{anew}
use Rattle.move_results.proofs.DiagramResults.{as_paired}
use Rattle.cable_crossings.proofs.StepPieces.{All-first, All-second}
use Rattle.cable_crossings.proofs.ToldCrossings.{IsTold, retold, told_from}
use Rattle.coloured_moves.proofs.BundleMerges.{bundles, IsState}
use Rattle.coloured_moves.proofs.BundleMerges as merges
use Rattle.coloured_moves.proofs.BundleOrder.{chain_value}
use Rattle.coloured_moves.proofs.ExchangedStubs.{stubs_once, stubs_times, halved_stubbed, crossing_stubbed, crossing_labels-stubbed, sizes-stubbed}
use Rattle.coloured_moves.proofs.LabelColours.{label_in, loop_out, diagram_fits, opposite_colours, long_stub, opposite_stub}
use Rattle.coloured_moves.proofs.PulledBundles.{loop_labels-stubbed, straight_stubbed}
use Rattle.coloured_moves.proofs.PushedCables.{unboxed_second}
use Rattle.coloured_moves.proofs.SlidStubs.{slot_half}
use Rattle.coloured_moves.proofs.StubCables.{stub_cable, stub_cable_ok, stubs_twice}
use Rattle.coloured_moves.proofs.StubItems.{half, stubs, stubbed, at_stub, stub_crossing, stub_nodes, boxes_of, first_labels, first_labels_times, pulled, anew_same, moved_out}
use Rattle.coloured_moves.proofs.StubNames.{kept_stubs, kept_stubs-kept, Straight}
use Rattle.coloured_moves.proofs.TurnedBoxes.{names_permuted}
use Rattle.coloured_moves.proofs.Tests.{one_if, one_most, one_same}

-- the sign of the curl whose loop stands at the slots s and s+1
abbrev pub sign_at : ℕ → Sign
sign_at s = cond (s % 2 == 0) signs.Plus signs.Minus

-- a crossing of bundles told from the slot at which the strands of a curl come in
told_at : (p : Parameters) (delta g k s : ℕ) (at : ℕ → List ℕ) → s < 4 → length (at 0) ≡ length (at 2) → length (at 1) ≡ length (at 3) → All IsNode (crossing_cable p g k (at 0) (at 1) (at 2) (at 3)) →
    IsTold p.modulus delta (crossing_cable p g k (at 0) (at 1) (at 2) (at 3)) (crossed p.root (inverse_root p) (is_plus (sign_at s)) 0).straight (crossed p.root (inverse_root p) (is_plus (sign_at s)) 0).hook
    (at ((s + 2) % 4)) (at ((s + 3) % 4)) (at (s % 4)) (at ((s + 1) % 4))
told_at p delta g k zero at l l0 l1 ok = told_from p delta g k at l0 l1 ok 2 (omega arith)
told_at p delta g k (suc zero) at l l0 l1 ok = told_from p delta g k at l0 l1 ok 3 (omega arith)
told_at p delta g k (suc (suc zero)) at l l0 l1 ok = told_from p delta g k at l0 l1 ok 0 (omega arith)
told_at p delta g k (suc (suc (suc zero))) at l l0 l1 ok = told_from p delta g k at l0 l1 ok 1 (omega arith)
told_at p delta g k (suc (suc (suc (suc s)))) at l l0 l1 ok = absurd (omega (arith, l))

module _ (p : Parameters) (items : List Item) (is : IsDiagram items) (c : ℕ) (here : List ℕ) (found : crossing_at items c ≡ Some here) (s : ℕ) (low_s : s < 4) (test : is_curl here s ≡ true) (colours : List ℕ) (has : HasColours items colours)
    (projectors : (l : ℕ) → is_boxed items colours l ≡ true → HasProjector p (colour_of items colours l)) (free_x : is_boxed items colours (slot here s) ≡ false) where
  abbrev pub pd : IsPairedDiagram items
  pd = as_paired items is

  abbrev pub colour : ℕ → ℕ
  colour l = colour_of items colours l

  abbrev pub boxed : ℕ → Bool
  boxed l = is_boxed items colours l

  abbrev pub S : Strands
  S = diagram_strands p items colours

  pub few : (l : ℕ) → colour l ≤ 8
  few l = few_colours items colours has.few l

  abbrev pub lg : ℕ
  lg = count_placed (as_net items) + 1

  abbrev pub free : ℕ
  free = loop_count S (as_net items)

  abbrev pub L : List ℕ
  L = first_labels boxed [] items

  abbrev pub gone : List ℕ
  gone = c ∷ []

  abbrev pub W : List Node → ℕ
  W ns = value p.modulus (loop_value p) record { nodes = ns; free_loops = free }

  pub even : (l : ℕ) → length (S.second l) ≡ length (S.first l)
  even l = as_many_strands colour boxed (projector_of p) l

  pub long_at : (w : ℕ) → length (at_stub S w) ≡ colour (half w)
  long_at w = long_stub S even w ∙ first_length colour boxed (projector_of p) (half w)

  fits_items : AllByRecursion (Fits S) (as_net items)
  fits_items = diagram_fits p items is.sizes colours

  -- ---- stubs
  abbrev pub B : List Item
  B = stubbed [] items

  abbrev pub hereB : List ℕ
  hereB = stubs (crossing_stubbed 1 [] items c here found).0 here

  pub found_B : crossing_at B c ≡ Some hereB
  found_B = (crossing_stubbed 1 [] items c here found).1

  half_here : (i : ℕ) → half (slot hereB i) ≡ slot here i
  half_here i = slot_half _ here i

  pub sizes_B : AllByRecursion HasItsSlots B
  sizes_B = sizes-stubbed [] items is.sizes

  -- the loop's stubs, and those at which the strands come in and leave
  abbrev pub x : ℕ
  x = slot here s

  abbrev pub x0 : ℕ
  x0 = slot hereB s

  abbrev pub x1 : ℕ
  x1 = slot hereB (s + 1)

  abbrev pub u : ℕ
  u = slot hereB (s + 2)

  abbrev pub v : ℕ
  v = slot hereB (s + 3)

  pub shared : slot here (s + 1) ≡ x
  shared = sym (eqb-true (slot here s) (slot here (s + 1)) test)

  pub half_x0 : half x0 ≡ x
  half_x0 = half_here s

  pub half_x1 : half x1 ≡ x
  half_x1 = half_here (s + 1) ∙ shared

  pub half_u : half u ≡ slot here (s + 2)
  half_u = half_here (s + 2)

  pub half_v : half v ≡ slot here (s + 3)
  half_v = half_here (s + 3)

  one : half x1 ≡ half x0
  one = half_x1 ∙ sym half_x0

  -- ---- each stub stands once
  abbrev pub bundle_pairs : List (ℕ × ℕ)
  bundle_pairs = (x0, u) ∷ (x1, v) ∷ []

  abbrev pub present : ℕ → Bool
  present l = is_member ◌==◌ (crossing_labels items) l

  s8 : s < 8
  s8 = omega (arith, low_s)

  pub counted : (z : ℕ) → times_in (kept_stubs gone 1 B) z + times_in (ends_of bundle_pairs) z ≡ one_if (present (half z))
  counted z =
      let a = one_times 0 0 B sizes_B c hereB found_B s s8 z in
      let b = ap (λ ws. times_in ws z) (crossing_labels-stubbed [] items) in
      let e = stubs_times (crossing_labels items) (λ l h. paired items pd l h) z in
      let k = ap (λ ws. times_in ws z) (kept_stubs-kept gone 1 B) in
      let same : times_in (ends_of bundle_pairs) z ≡ times_in (around s hereB) z = omega arith in
      omega (arith, a, b, e, k, same)

  ends_once : (z : ℕ) → times_in (ends_of bundle_pairs) z ≤ 1
  ends_once z = let c = counted z in let m = one_most (present (half z)) in omega (arith, c, m)

  pub differ : x0 ≢ x1
  differ e = let o = ends_once x0 in let a = one_same x0 x0 refl in let b = one_same x0 x1 e in omega (arith, o, a, b)

  pub outer_apart : u ≢ v
  outer_apart e = let o = ends_once u in let a = one_same u u refl in let b = one_same u v e in omega (arith, o, a, b)

  -- an outer stub is none of the loop
  outer : (w : ℕ) → w ≢ x0 → w ≢ x1 → half w ≢ half x0
  outer w d0 d1 e = ⊎_elim (λ h. d0 h) (λ n. d1 (let h = one in let k = differ_x in omega (arith, h, e, n, k))) (cases_eq w x0)
    where
      differ_x : x0 ≢ x1
      differ_x = differ

  pub apart_u : half u ≢ half x0
  apart_u =
      outer u (λ e. (let o = ends_once u in let a = one_same u u refl in let b = one_same u x0 e in omega (arith, o, a, b))) (λ e. (let o = ends_once u in let a = one_same u u refl in let b = one_same u x1 e in omega (arith, o, a, b)))

  pub apart_v : half v ≢ half x0
  apart_v =
      outer v (λ e. (let o = ends_once v in let a = one_same v v refl in let b = one_same v x0 e in omega (arith, o, a, b))) (λ e. (let o = ends_once v in let a = one_same v v refl in let b = one_same v x1 e in omega (arith, o, a, b)))

  -- ---- the crossing in front
  abbrev SB : List Node
  SB = stub_nodes p S [] 1 1 0 lg B

  abbrev pub bx : List Node
  bx = boxes_of S L

  abbrev pub at_c : (g : ℕ) × (k : ℕ) × ((h : ℕ → List ℕ → List ℕ) → IsPermutation (stub_nodes p S [] 1 1 0 lg (anew h 1 B)) (stub_crossing p S g k (h c hereB) ++ stub_nodes p S (c ∷ []) 1 1 0 lg (anew h 1 B)))
  at_c = pulled p S [] 1 1 0 lg B c hereB found_B refl

  abbrev pub X1 : List Node
  X1 = stub_crossing p S at_c.0 at_c.1 hereB

  -- the other crossings
  abbrev pub CB : List Node
  CB = stub_nodes p S gone 1 1 0 lg B

  abbrev pub rest : List Node
  rest = bx ++ CB

  abbrev pub front : List Node
  front = X1 ++ rest

  perm : IsPermutation (bx ++ SB) front
  perm =
      let P : List Item → Type 0 = λ xs. IsPermutation (stub_nodes p S [] 1 1 0 lg xs) (X1 ++ stub_nodes p S (c ∷ []) 1 1 0 lg xs) in
      moved_out bx X1 SB CB (subst P (anew_same 1 B) (at_c.2 (λ n slots. slots)))

  once_B : (w : ℕ) → times_in (crossing_labels B) w ≤ 1
  once_B w = let e = ap (λ ws. times_in ws w) (crossing_labels-stubbed [] items) in let o = stubs_once (crossing_labels items) (λ l k. paired items pd l k) w in omega (arith, e, o)

  ok_all : All IsNode (bx ++ SB)
  ok_all = stub_cable_ok p colour boxed few items is fits_items projectors B (halved_stubbed [] items) sizes_B once_B

  pub ok_front : All IsNode front
  ok_front = All-permutation IsNode (bx ++ SB) front perm ok_all

  pub ok_X1 : All IsNode X1
  ok_X1 = All-first IsNode X1 rest ok_front

  pub ok_rest : All IsNode rest
  ok_rest = All-second IsNode X1 rest ok_front

  pub twice : (z : ℕ) → 1 ≤ times_in (names_of front) z → times_in (names_of front) z ≡ 2
  twice z one =
      let a = names_permuted z (bx ++ SB) front perm in
      let t = stubs_twice p colour boxed few items is fits_items z (omega (arith, one, a)) in
      omega (arith, a, t)

  -- THE DIAGRAM BY ITS CURL
  pub by_curl : value p.modulus (loop_value p) (cable p S (as_net items)) ≡ W front
  by_curl =
      stub_cable p colour boxed few items is fits_items projectors B (halved_stubbed [] items) sizes_B once_B
      ∙ sym (any_order p.modulus (loop_value p) free (bx ++ SB) front ok_all perm)

  -- ---- the crossing told
  opposite : (i : ℕ) → i < 8 → (colour (slot here i) ≡ colour (slot here (i + 2))) × (colour (slot here (i + 1)) ≡ colour (slot here (i + 3)))
  opposite i low = opposite_colours items is.sizes colours c here found i low

  at_here : (i : ℕ) → length (at_stub S (slot hereB i)) ≡ colour (slot here i)
  at_here i = long_at (slot hereB i) ∙ ap colour (half_here i)

  pub colour_u : colour (half u) ≡ colour x
  colour_u = ap colour half_u ∙ sym (opposite s s8).0

  pub colour_v : colour (half v) ≡ colour x
  colour_v = ap colour half_v ∙ sym (opposite s s8).1 ∙ ap colour shared

  abbrev pub into : List ℕ
  into = at_stub S u

  abbrev pub out : List ℕ
  out = at_stub S v

  abbrev pub M : List ℕ
  M = at_stub S x0

  pub long_into : length into ≡ colour x
  long_into = long_at u ∙ colour_u

  pub long_out : length out ≡ colour x
  long_out = long_at v ∙ colour_v

  pub long_M : length M ≡ colour x
  long_M = long_at x0 ∙ ap colour half_x0

  meets : at_stub S x1 ≡ reverse M
  meets = opposite_stub S x0 x1 (sym one) differ (unboxed_second (colour (half x0)) (half x0) (boxed (half x0)) (ap boxed half_x0 ∙ free_x))

  pub told : IsTold p.modulus (loop_value p) X1 (crossed p.root (inverse_root p) (is_plus (sign_at s)) 0).straight (crossed p.root (inverse_root p) (is_plus (sign_at s)) 0).hook into out M (reverse M)
  told =
      let F : ℕ → List ℕ = λ i. at_stub S (slice_index hereB i) in
      retold p.modulus (loop_value p) X1 (crossed p.root (inverse_root p) (is_plus (sign_at s)) 0).straight (crossed p.root (inverse_root p) (is_plus (sign_at s)) 0).hook
      (F ((s + 2) % 4)) (F ((s + 3) % 4)) (F (s % 4)) (F ((s + 1) % 4)) into out M (reverse M) refl refl refl meets
      (told_at p (loop_value p) at_c.0 at_c.1 s F low_s (at_here 0 ∙ (opposite 0 (omega arith)).0 ∙ sym (at_here 2)) (at_here 1 ∙ (opposite 0 (omega arith)).1 ∙ sym (at_here 3)) ok_X1)

  -- ---- two bundles, told by the loop
  pub boxes : AllByRecursion (λ l. boxed l ≡ true) L
  boxes = each_label (λ l. boxed l ≡ true) L (λ l m. (let one = times_of_member l L m in let t = first_labels_times boxed [] items l in second_test (present l) (boxed l) (omega (arith, one, t))))
    where
      second_test : (a b : Bool) → 1 ≤ cond (a && (b && true)) 1 0 → b ≡ true
      second_test true true h = refl
      second_test true false h = absurd (omega (arith, h))
      second_test false b h = absurd (omega (arith, h))

  pub straight_B : AllByRecursion (Straight S) B
  straight_B = straight_stubbed S even [] items is.sizes fits_items

  pub small : (l : ℕ) → present l ≡ true → l ≤ 2000000
  small l m =
      let one = times_of_member l (crossing_labels items) m in
      let t = times_labels items l in
      (label_in IsLabel (labels item_labels items) is.in_range l (member_of_times l (labels item_labels items) (omega (arith, one, t)))).high

  pub state : IsState p colour boxed few gone lg free L present bundle_pairs B
  state = record {
    straight = straight_B;
    once = counted;
    even = (ap colour half_x0 ∙ sym colour_u, (ap colour half_x1 ∙ sym colour_v, tt));
    small = small;
    loops = λ l m. loop_out items pd l (ap (λ ls. is_member ◌==◌ ls l) (sym (loop_labels-stubbed [] items)) ∙ m);
    nodes = ok_rest;
  }

  -- THE TWO BUNDLES ARE ONE
  pub chained : merges.V p colour boxed few gone lg free L bundle_pairs B ≡ W (arcs_of (zip into (reverse out)) ++ rest)
  chained =
      chain_value p colour boxed few gone lg free L boxes present x0 u x1 v [] B state one differ (ap boxed half_x0 ∙ free_x) apart_u apart_v
      ∙ ap (λ ps. W (arcs_of ps ++ rest)) (append-nil (zip into (reverse out)))
