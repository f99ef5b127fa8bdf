-- The two crossings of a bigon are two bundles of arcs, where no inner edge has a box; told by the inner edges they are four bundles, one for
-- each pair of labels that R2Undo makes one.
use Rattle.std.proofs.Common.{◌≡◌, ◌≢◌, ℕ, ◌+◌, ◌%◌, ◌<◌, ◌≤◌, ◌==◌, ◌&&◌, ◌⊎◌, inl, inr, not, Bool, true, false, cond, List, [], ◌∷◌, ◌++◌, length, reverse, slice_index, Some, refl, sym, ap, ◌∙◌, arith, ⊎_elim, All, subst, append-nil}
use Rattle.std.specs.List.{AllByRecursion, zip}
use Rattle.std.specs.List.Sorted.{IsPermutation}
use Rattle.std.specs.Set.{is_member}
use Rattle.std.proofs.lemmas.Bool.{cases_eq, and_parts, eqb-true}
use Rattle.std.proofs.lemmas.List.{length-reverse}
use Rattle.std.proofs.lemmas.List.Sorted.{All-permutation, IsPermutation-trans, IsPermutation-append_right}
use Rattle.graph_parts.specs.Ends.{ends_of}
use Rattle.list_lemmas.specs.Times.{times_in}
use Rattle.list_lemmas.proofs.Times.{times_of_member, member_of_times}
use Rattle.state_sums.specs.Networks.{Node, IsNode, names_of}
use Rattle.state_sums.specs.StateSums.{value}
use Rattle.state_sums.proofs.NetworkLaws.{any_order}
use Rattle.root_quantum.specs.Parameters.{Parameters}
use Rattle.root_quantum.specs.QuantumNumbers.{loop_value}
use Rattle.piece_laws.specs.Arcs.{arcs_of}
use Rattle.piece_laws.proofs.ParameterNumbers.{skein_numbers}
use Rattle.pd_reader.specs.declared.item.Item.{Item}
use Rattle.pd_reader.specs.declared.item.Item.TheVariants as item
use Rattle.pd_reader.specs.Items.{item_labels, HasItsSlots}
use Rattle.pd_reader.specs.Diagrams.{labels, IsDiagram, IsLabel}
use Rattle.cables.specs.Cables.{count_placed, cable, loop_count, Fits, as_net}
use Rattle.cables.specs.Nets.{HasProjector}
use Rattle.cables.specs.Strands.{Strands}
use Rattle.cables.proofs.NumberedStrands.{as_many_strands, first_length}
use Rattle.cables.specs.Nets.{projector_of}
use Rattle.coloured_values.specs.Coloured.{colour_of, is_boxed, diagram_strands}
use Rattle.coloured_values.specs.Laws.{HasColours}
use Rattle.coloured_values.proofs.ColouredLaws.{each_label}
use Rattle.diagram_moves.proofs.Rewritten.{anew}
use Rattle.coloured_values.proofs.CabledDiagrams.{few_colours}
use Rattle.diagram_moves.specs.Laws.{IsPairedDiagram}
use Rattle.diagram_moves.specs.Moves.{is_bigon}
use Rattle.diagram_moves.specs.Rewriting.{slot, around, crossing_at, crossing_labels}
use Rattle.diagram_moves.proofs.Corners.{two_times}
use Rattle.diagram_moves.proofs.Paired.{paired, times_labels, loop_labels}
use Rattle.move_results.proofs.DiagramResults.{as_paired}
use Rattle.cable_crossings.proofs.BigonSlots.{bigon_at_slots}
use Rattle.cable_crossings.proofs.StepPieces.{All-first, All-second}
use Rattle.coloured_moves.proofs.BundleMerges.{bundles, IsState}
use Rattle.coloured_moves.proofs.BundleMerges as merges
use Rattle.coloured_moves.proofs.BundleOrder.{later_state, later_value, chain_value, chain_state}
use Rattle.coloured_moves.proofs.ExchangedStubs.{stubs_once, stubs_times, halved_stubbed, crossing_stubbed, crossing_labels-stubbed, sizes-stubbed}
use Rattle.coloured_moves.proofs.LabelColours.{label_in, loop_out, diagram_fits, opposite_colours, long_stub, opposite_stub}
use Rattle.coloured_moves.proofs.NetAppends.{zip-append}
use Rattle.coloured_moves.proofs.PushedCables.{unboxed_second}
use Rattle.coloured_moves.proofs.SlidStubs.{slot_half}
use Rattle.coloured_moves.proofs.StubCables.{stub_cable, stub_cable_ok, stubs_twice}
use Rattle.coloured_moves.proofs.StubItems.{half, stub, stubs, seen_after, stubbed, at_stub, stub_half, stub_crossing, stub_nodes, boxes_of, first_labels, first_labels_times, pulled, anew_same, moved_out}
use Rattle.coloured_moves.proofs.StubNames.{kept_stubs, kept_stubs-kept, Straight}
use Rattle.coloured_moves.proofs.TurnedBoxes.{names_permuted}
use Rattle.coloured_moves.proofs.Tests.{one_if, one_most, one_same}

-- ---- stubs of a diagram
pub loop_labels-stubbed : (seen : List ℕ) (items : List Item) → loop_labels (stubbed seen items) ≡ loop_labels items
loop_labels-stubbed seen [] = refl
loop_labels-stubbed seen (item.X slots ∷ rest) = loop_labels-stubbed (seen_after seen slots) rest
loop_labels-stubbed seen (item.Loop l ∷ rest) = ap (λ ls. l ∷ ls) (loop_labels-stubbed seen rest)

pub straight_stubbed : (strands : Strands) → ((l : ℕ) → length (strands.second l) ≡ length (strands.first l)) → (seen : List ℕ) (items : List Item) → AllByRecursion HasItsSlots items → AllByRecursion (Fits strands) (as_net items) →
    AllByRecursion (Straight strands) (stubbed seen items)
straight_stubbed strands even seen [] sizes h = tt
straight_stubbed strands even seen (item.Loop l ∷ rest) sizes h = (tt, straight_stubbed strands even seen rest sizes.1 h.1)
straight_stubbed strands even seen (item.X (a ∷ b ∷ c ∷ d ∷ []) ∷ rest) sizes h =
    let long : (seen : List ℕ) (l : ℕ) → length (at_stub strands (stub seen l)) ≡ length (strands.first l) = λ seen l. long_stub strands even (stub seen l) ∙ ap (λ n. length (strands.first n)) (stub_half seen l) in
    ((long seen a ∙ h.0.0 ∙ sym (long (b ∷ a ∷ seen) c), long (a ∷ seen) b ∙ h.0.1 ∙ sym (long (c ∷ b ∷ a ∷ seen) d)), straight_stubbed strands even (d ∷ c ∷ b ∷ a ∷ seen) rest sizes.1 h.1)
straight_stubbed strands even seen (item.X [] ∷ rest) sizes h = absurd (omega (arith, sizes.0))
straight_stubbed strands even seen (item.X (a ∷ []) ∷ rest) sizes h = absurd (omega (arith, sizes.0))
straight_stubbed strands even seen (item.X (a ∷ b ∷ []) ∷ rest) sizes h = absurd (omega (arith, sizes.0))
straight_stubbed strands even seen (item.X (a ∷ b ∷ c ∷ []) ∷ rest) sizes h = absurd (omega (arith, sizes.0))
straight_stubbed strands even seen (item.X (a ∷ b ∷ c ∷ d ∷ e ∷ slots) ∷ rest) sizes h = absurd (omega (arith, sizes.0))

module _ (p : Parameters) (items : List Item) (is : IsDiagram items) (c : ℕ) (here : List ℕ) (found : crossing_at items c ≡ Some here) (d : ℕ) (there : List ℕ) (also : crossing_at items d ≡ Some there) (apart : (d == c) ≡ false)
    (s t : ℕ) (low_s : s < 4) (low_t : t < 4) (test : is_bigon here there (s, t) ≡ true) (colours : List ℕ) (has : HasColours items colours) (projectors : (l : ℕ) → is_boxed items colours l ≡ true → HasProjector p (colour_of items colours l))
    (free_x : is_boxed items colours (slot here s) ≡ false) (free_y : is_boxed items colours (slot there (t + 1)) ≡ false) where
  abbrev pub pd : IsPairedDiagram items
  pd = as_paired items is

  abbrev pub colour : ℕ → ℕ
  colour l = colour_of items colours l

  abbrev pub boxed : ℕ → Bool
  boxed l = is_boxed items colours l

  abbrev pub S : Strands
  S = diagram_strands p items colours

  pub few : (l : ℕ) → colour l ≤ 8
  few l = few_colours items colours has.few l

  abbrev pub lg : ℕ
  lg = count_placed (as_net items) + 1

  abbrev pub free : ℕ
  free = loop_count S (as_net items)

  abbrev pub L : List ℕ
  L = first_labels boxed [] items

  abbrev pub gone : List ℕ
  gone = d ∷ c ∷ []

  abbrev W : List Node → ℕ
  W ns = value p.modulus (loop_value p) record { nodes = ns; free_loops = free }

  even : (l : ℕ) → length (S.second l) ≡ length (S.first l)
  even l = as_many_strands colour boxed (projector_of p) l

  long_at : (w : ℕ) → length (at_stub S w) ≡ colour (half w)
  long_at w = long_stub S even w ∙ first_length colour boxed (projector_of p) (half w)

  pub fits_items : AllByRecursion (Fits S) (as_net items)
  fits_items = diagram_fits p items is.sizes colours

  -- ---- stubs
  abbrev pub B : List Item
  B = stubbed [] items

  abbrev hereB : List ℕ
  hereB = stubs (crossing_stubbed 1 [] items c here found).0 here

  abbrev thereB : List ℕ
  thereB = stubs (crossing_stubbed 1 [] items d there also).0 there

  found_B : crossing_at B c ≡ Some hereB
  found_B = (crossing_stubbed 1 [] items c here found).1

  also_B : crossing_at B d ≡ Some thereB
  also_B = (crossing_stubbed 1 [] items d there also).1

  half_here : (i : ℕ) → half (slot hereB i) ≡ slot here i
  half_here i = slot_half _ here i

  half_there : (i : ℕ) → half (slot thereB i) ≡ slot there i
  half_there i = slot_half _ there i

  sizes_B : AllByRecursion HasItsSlots B
  sizes_B = sizes-stubbed [] items is.sizes

  abbrev x0 : ℕ
  x0 = slot hereB s

  abbrev u1 : ℕ
  u1 = slot hereB (s + 2)

  abbrev x1 : ℕ
  x1 = slot thereB t

  abbrev v1 : ℕ
  v1 = slot thereB (t + 2)

  abbrev y0 : ℕ
  y0 = slot hereB (s + 3)

  abbrev u2 : ℕ
  u2 = slot hereB (s + 1)

  abbrev y1 : ℕ
  y1 = slot thereB (t + 1)

  abbrev v2 : ℕ
  v2 = slot thereB (t + 3)

  -- ---- the test
  pub shared_x : slot there t ≡ slot here s
  shared_x = let q = and_parts (slot here s == slot there t) _ test in sym (eqb-true (slot here s) (slot there t) q.0)

  pub shared_y : slot here (s + 3) ≡ slot there (t + 1)
  shared_y =
      let q = and_parts (slot here s == slot there t) _ test in
      let r = and_parts (slot here (s + 3) == slot there (t + 1)) _ q.1 in
      eqb-true (slot here (s + 3)) (slot there (t + 1)) r.0

  parity : s % 2 ≡ t % 2
  parity =
      let q = and_parts (slot here s == slot there t) _ test in
      let r = and_parts (slot here (s + 3) == slot there (t + 1)) _ q.1 in
      eqb-true (s % 2) (t % 2) r.1

  one_x : half x1 ≡ half x0
  one_x = half_there t ∙ shared_x ∙ sym (half_here s)

  one_y : half y1 ≡ half y0
  one_y = half_there (t + 1) ∙ sym shared_y ∙ sym (half_here (s + 3))

  -- ---- each stub stands once
  abbrev pub bundle_pairs : List (ℕ × ℕ)
  bundle_pairs = (x0, u1) ∷ (x1, v1) ∷ (y0, u2) ∷ (y1, v2) ∷ []

  abbrev pub present : ℕ → Bool
  present l = is_member ◌==◌ (crossing_labels items) l

  s8 : s < 8
  s8 = omega (arith, low_s)

  t8 : t < 8
  t8 = omega (arith, low_t)

  counted : (z : ℕ) → times_in (kept_stubs gone 1 B) z + times_in (ends_of bundle_pairs) z ≡ one_if (present (half z))
  counted z =
      let a = two_times 0 0 B sizes_B c hereB found_B s s8 d thereB also_B apart t t8 z in
      let b = ap (λ ws. times_in ws z) (crossing_labels-stubbed [] items) in
      let e = stubs_times (crossing_labels items) (λ l h. paired items pd l h) z in
      let k = ap (λ ws. times_in ws z) (kept_stubs-kept gone 1 B) in
      let same : times_in (ends_of bundle_pairs) z ≡ times_in (around s hereB) z + times_in (around t thereB) z = omega arith in
      omega (arith, a, b, e, k, same)

  ends_once : (z : ℕ) → times_in (ends_of bundle_pairs) z ≤ 1
  ends_once z = let c = counted z in let m = one_most (present (half z)) in omega (arith, c, m)

  differ_x : x0 ≢ x1
  differ_x e = let o = ends_once x0 in let a = one_same x0 x0 refl in let b = one_same x0 x1 e in omega (arith, o, a, b)

  differ_y : y0 ≢ y1
  differ_y e = let o = ends_once y0 in let a = one_same y0 y0 refl in let b = one_same y0 y1 e in omega (arith, o, a, b)

  -- an outer stub is none of an inner edge
  outer : (w z q : ℕ) → half q ≡ half z → z ≢ q → w ≢ z → w ≢ q → half w ≢ half z
  outer w z q one d dz dq e = ⊎_elim (λ h. dz h) (λ h. dq h) (either w z q one d e)
    where
      either : (w z q : ℕ) → half q ≡ half z → z ≢ q → half w ≡ half z → (w ≡ z) ⊎ (w ≡ q)
      either w z q one d e = ⊎_elim (λ (h : w ≡ z). inl h) (λ h. inr (omega (arith, one, d, e, h))) (cases_eq w z)

  apart_u1 : half u1 ≢ half x0
  apart_u1 =
      outer u1 x0 x1 one_x differ_x (λ e. (let o = ends_once u1 in let a = one_same u1 u1 refl in let b = one_same u1 x0 e in omega (arith, o, a, b))) (λ e. (let o = ends_once u1 in let a = one_same u1 u1 refl in let b = one_same u1 x1 e in omega (arith, o, a, b)))

  apart_v1 : half v1 ≢ half x0
  apart_v1 =
      outer v1 x0 x1 one_x differ_x (λ e. (let o = ends_once v1 in let a = one_same v1 v1 refl in let b = one_same v1 x0 e in omega (arith, o, a, b))) (λ e. (let o = ends_once v1 in let a = one_same v1 v1 refl in let b = one_same v1 x1 e in omega (arith, o, a, b)))

  apart_u2 : half u2 ≢ half y0
  apart_u2 =
      outer u2 y0 y1 one_y differ_y (λ e. (let o = ends_once u2 in let a = one_same u2 u2 refl in let b = one_same u2 y0 e in omega (arith, o, a, b))) (λ e. (let o = ends_once u2 in let a = one_same u2 u2 refl in let b = one_same u2 y1 e in omega (arith, o, a, b)))

  apart_v2 : half v2 ≢ half y0
  apart_v2 =
      outer v2 y0 y1 one_y differ_y (λ e. (let o = ends_once v2 in let a = one_same v2 v2 refl in let b = one_same v2 y0 e in omega (arith, o, a, b))) (λ e. (let o = ends_once v2 in let a = one_same v2 v2 refl in let b = one_same v2 y1 e in omega (arith, o, a, b)))

  -- ---- two crossings in front
  abbrev SB : List Node
  SB = stub_nodes p S [] 1 1 0 lg B

  abbrev bx : List Node
  bx = boxes_of S L

  abbrev h : ℕ → List ℕ → List ℕ
  h n slots = slots

  abbrev at_c : (g : ℕ) × (k : ℕ) × ((h : ℕ → List ℕ → List ℕ) → IsPermutation (stub_nodes p S [] 1 1 0 lg (anew h 1 B)) (stub_crossing p S g k (h c hereB) ++ stub_nodes p S (c ∷ []) 1 1 0 lg (anew h 1 B)))
  at_c = pulled p S [] 1 1 0 lg B c hereB found_B refl

  out_d : is_member ◌==◌ (c ∷ []) d ≡ false
  out_d = grind (arith, apart)

  abbrev at_d : (g : ℕ) × (k : ℕ) × ((h : ℕ → List ℕ → List ℕ) → IsPermutation (stub_nodes p S (c ∷ []) 1 1 0 lg (anew h 1 B)) (stub_crossing p S g k (h d thereB) ++ stub_nodes p S (d ∷ c ∷ []) 1 1 0 lg (anew h 1 B)))
  at_d = pulled p S (c ∷ []) 1 1 0 lg B d thereB also_B out_d

  abbrev first : List Node
  first = stub_crossing p S at_c.0 at_c.1 hereB

  abbrev second : List Node
  second = stub_crossing p S at_d.0 at_d.1 thereB

  abbrev rest : List Node
  rest = bx ++ stub_nodes p S gone 1 1 0 lg B

  abbrev front : List Node
  front = first ++ (second ++ rest)

  perm : IsPermutation (bx ++ SB) front
  perm =
      let s1 = stub_nodes p S (c ∷ []) 1 1 0 lg B in
      let s2 = stub_nodes p S gone 1 1 0 lg B in
      let P : List Item → Type 0 = λ xs. IsPermutation (stub_nodes p S [] 1 1 0 lg xs) (first ++ stub_nodes p S (c ∷ []) 1 1 0 lg xs) in
      let Q : List Item → Type 0 = λ xs. IsPermutation (stub_nodes p S (c ∷ []) 1 1 0 lg xs) (second ++ stub_nodes p S gone 1 1 0 lg xs) in
      let one = subst P (anew_same 1 B) (at_c.2 h) in
      let two = subst Q (anew_same 1 B) (at_d.2 h) in
      IsPermutation-trans (bx ++ SB) (first ++ (bx ++ s1)) front (moved_out bx first SB s1 one)
      (IsPermutation-append_right first (bx ++ s1) (second ++ rest) (moved_out bx second s1 s2 two))

  once_B : (w : ℕ) → times_in (crossing_labels B) w ≤ 1
  once_B w = let e = ap (λ ws. times_in ws w) (crossing_labels-stubbed [] items) in let o = stubs_once (crossing_labels items) (λ l k. paired items pd l k) w in omega (arith, e, o)

  ok_all : All IsNode (bx ++ SB)
  ok_all = stub_cable_ok p colour boxed few items is fits_items projectors B (halved_stubbed [] items) sizes_B once_B

  old_value : value p.modulus (loop_value p) (cable p S (as_net items)) ≡ W (bx ++ SB)
  old_value = stub_cable p colour boxed few items is fits_items projectors B (halved_stubbed [] items) sizes_B once_B

  ok_front : All IsNode front
  ok_front = All-permutation IsNode (bx ++ SB) front perm ok_all

  ok_tail : All IsNode (second ++ rest)
  ok_tail = All-second IsNode first (second ++ rest) ok_front

  ok_rest : All IsNode rest
  ok_rest = All-second IsNode second rest ok_tail

  twice : (z : ℕ) → 1 ≤ times_in (names_of front) z → times_in (names_of front) z ≡ 2
  twice z one =
      let a = names_permuted z (bx ++ SB) front perm in
      let t = stubs_twice p colour boxed few items is fits_items z (omega (arith, one, a)) in
      omega (arith, a, t)

  -- ---- the crossings are two bundles
  opposite_here : (i : ℕ) → i < 8 → (colour (slot here i) ≡ colour (slot here (i + 2))) × (colour (slot here (i + 1)) ≡ colour (slot here (i + 3)))
  opposite_here i low = opposite_colours items is.sizes colours c here found i low

  opposite_there : (i : ℕ) → i < 8 → (colour (slot there i) ≡ colour (slot there (i + 2))) × (colour (slot there (i + 1)) ≡ colour (slot there (i + 3)))
  opposite_there i low = opposite_colours items is.sizes colours d there also i low

  at_here : (i : ℕ) → length (at_stub S (slot hereB i)) ≡ colour (slot here i)
  at_here i = long_at (slot hereB i) ∙ ap colour (half_here i)

  at_there : (i : ℕ) → length (at_stub S (slot thereB i)) ≡ colour (slot there i)
  at_there i = long_at (slot thereB i) ∙ ap colour (half_there i)

  short : (w : ℕ) → length (at_stub S w) ≤ 8
  short w = let a = long_at w in let b = few (half w) in omega (arith, a, b)

  meets : (w v : ℕ) → half v ≡ half w → w ≢ v → boxed (half v) ≡ false → at_stub S w ≡ reverse (at_stub S v)
  meets w v e d f = opposite_stub S v w e (λ q. d (sym q)) (unboxed_second (colour (half v)) (half v) (boxed (half v)) f)

  abbrev N : ℕ → List ℕ
  N w = at_stub S w

  bigon : W front ≡ W (arcs_of (bundles S ((u2, v2) ∷ (u1, v1) ∷ [])) ++ rest)
  bigon =
      let F : ℕ → List ℕ = λ i. at_stub S (slice_index hereB i) in
      let G : ℕ → List ℕ = λ i. at_stub S (slice_index thereB i) in
      let at_s : F s ≡ N x0 = ap F (let e : s ≡ s % 4 = omega (arith, low_s) in e) in
      let at_t : N x1 ≡ G t = ap G (let e : t % 4 ≡ t = omega (arith, low_t) in e) in
      let long_2 : length (reverse (N v2)) ≡ length (N u2) =
      length-reverse (N v2) ∙ at_there (t + 3) ∙ sym (opposite_there t t8).1 ∙ ap colour (sym shared_y) ∙ sym (opposite_here s s8).1 ∙ sym (at_here (s + 1)) in
      bigon_at_slots p (loop_value p) free (skein_numbers p).skein at_c.0 at_d.0 at_c.1 at_d.1 s t F G rest low_s low_t parity
      (at_here 0 ∙ (opposite_here 0 (omega arith)).0 ∙ sym (at_here 2)) (at_here 1 ∙ (opposite_here 0 (omega arith)).1 ∙ sym (at_here 3))
      (at_there 0 ∙ (opposite_there 0 (omega arith)).0 ∙ sym (at_there 2)) (at_there 1 ∙ (opposite_there 0 (omega arith)).1 ∙ sym (at_there 3))
      (short (slice_index hereB s)) (short (slice_index hereB ((s + 3) % 4)))
      (at_s ∙ meets x0 x1 one_x differ_x (ap boxed (half_there t ∙ shared_x) ∙ free_x) ∙ ap reverse at_t)
      (meets y0 y1 one_y differ_y (ap boxed (half_there (t + 1)) ∙ free_y))
      (All-first IsNode first (second ++ rest) ok_front) (All-first IsNode second rest ok_tail) ok_rest twice
      ∙ ap (λ ps. W (arcs_of ps ++ rest)) (zip-append (N u2) (N u1) (reverse (N v2)) (reverse (N v1)) long_2 ∙ ap (λ ps. zip (N u2) (reverse (N v2)) ++ ps) (sym (append-nil (zip (N u1) (reverse (N v1))))))

  -- ---- and four, told by the inner edges
  abbrev V : List (ℕ × ℕ) → List Item → ℕ
  V = merges.V p colour boxed few gone lg free L

  pub boxes : AllByRecursion (λ l. boxed l ≡ true) L
  boxes = each_label (λ l. boxed l ≡ true) L (λ l m. (let one = times_of_member l L m in let t = first_labels_times boxed [] items l in second_test (present l) (boxed l) (omega (arith, one, t))))
    where
      second_test : (a b : Bool) → 1 ≤ cond (a && (b && true)) 1 0 → b ≡ true
      second_test true true h = refl
      second_test true false h = absurd (omega (arith, h))
      second_test false b h = absurd (omega (arith, h))

  pub state : IsState p colour boxed few gone lg free L present bundle_pairs B
  state = record {
    straight = straight_stubbed S even [] items is.sizes fits_items;
    once = counted;
    even = (
      ap colour (half_here s) ∙ (opposite_here s s8).0 ∙ ap colour (sym (half_here (s + 2))),
      (
        ap colour (half_there t) ∙ (opposite_there t t8).0 ∙ ap colour (sym (half_there (t + 2))),
        (
          ap colour (half_here (s + 3)) ∙ sym (opposite_here s s8).1 ∙ ap colour (sym (half_here (s + 1))),
          (ap colour (half_there (t + 1)) ∙ (opposite_there t t8).1 ∙ ap colour (sym (half_there (t + 3))), tt),
        ),
      ),
    );
    small = λ l m. (let one = times_of_member l (crossing_labels items) m in let t = times_labels items l in (label_in IsLabel (labels item_labels items) is.in_range l (member_of_times l (labels item_labels items) (omega (arith, one, t)))).high);
    loops = λ l m. loop_out items pd l (ap (λ ls. is_member ◌==◌ ls l) (sym (loop_labels-stubbed [] items)) ∙ m);
    nodes = ok_rest;
  }

  -- ---- the labels of the bundles
  pub bundle_halves : ((half x0 ≡ slot here s) × (half u1 ≡ slot here (s + 2))) × ((half x1 ≡ slot here s) × (half v1 ≡ slot there (t + 2))) × ((half y0 ≡ slot there (t + 1)) × (half u2 ≡ slot here (s + 1))) × ((half y1 ≡ slot there (t + 1)) × (half v2 ≡ slot there (t + 3)))
  bundle_halves = ((half_here s, half_here (s + 2)), (half_there t ∙ shared_x, half_there (t + 2)), (half_here (s + 3) ∙ shared_y, half_here (s + 1)), (half_there (t + 1), half_there (t + 3)))

  -- THE DIAGRAM BY FOUR BUNDLES
  pub pulled_bundles : value p.modulus (loop_value p) (cable p S (as_net items)) ≡ V bundle_pairs B
  pulled_bundles =
      let free_x0 : boxed (half x0) ≡ false = ap boxed (half_here s) ∙ free_x in
      let free_y0 : boxed (half y0) ≡ false = ap boxed (half_here (s + 3) ∙ shared_y) ∙ free_y in
      let todo : List (ℕ × ℕ) = (y0, u2) ∷ (y1, v2) ∷ [] in
      let present_x : ℕ → Bool = λ l. present l && not (l == half x0) in
      let state_x = chain_state p colour boxed few gone lg free L boxes present x0 u1 x1 v1 todo B state one_x differ_x free_x0 apart_u1 apart_v1 in
      let state_later = later_state p colour boxed few gone lg free L present_x (u1, v1) todo [] B state_x in
      old_value
      ∙ sym (any_order p.modulus (loop_value p) free (bx ++ SB) front ok_all perm)
      ∙ bigon
      ∙ sym (chain_value p colour boxed few gone lg free L boxes present_x y0 u2 y1 v2 ((u1, v1) ∷ []) B state_later one_y differ_y free_y0 apart_u2 apart_v2)
      ∙ sym (later_value p colour boxed few gone lg free L (u1, v1) todo [] B ok_rest)
      ∙ sym (chain_value p colour boxed few gone lg free L boxes present x0 u1 x1 v1 todo B state one_x differ_x free_x0 apart_u1 apart_v1)
