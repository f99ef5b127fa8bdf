-- The crossing of a curl that CurlUndo takes, where the component has a colour from 2 on and the edge at which its strands come in has no box: the twist
-- walks along the component to the box, so the crossing counts as mu_n to the power of the curl times the strands.
use Rattle.std.proofs.Common.{◌≡◌, ◌≢◌, ℕ, zero, suc, ◌+◌, ◌*◌, ◌/◌, ◌%◌, ◌^◌, ◌<◌, ◌≤◌, ◌==◌, ◌&&◌, ◌⊎◌, inl, inr, nat_le, nat_lt, Bool, true, false, cond, List, [], ◌∷◌, ◌++◌, length, reverse, refl, sym, ap, ap₂, ◌∙◌, arith, ⊎_elim, All, Some, subst, append_assoc}
use Rattle.std.specs.List.{zip}
use Rattle.std.specs.Set.{is_member}
use Rattle.std.proofs.lemmas.Bool.{cases_Bool, cases_eq, eq-eqb, eqb-true}
use Rattle.std.proofs.lemmas.Bool.Decides.{nat_tests}
use Rattle.std.proofs.lemmas.List.{length-reverse, map-append}
use Rattle.std.proofs.lemmas.List.Elements.{All-append, All-cons, All-head, All-tail}
use Rattle.graph_parts.specs.LeastNames.{least_label}
use Rattle.graph_parts.specs.Walks.{Joined, back}
use Rattle.graph_parts.proofs.LeastLabels.{AreLeast-labels, least_label-Joined}
use Rattle.list_lemmas.specs.Times.{times_in}
use Rattle.list_lemmas.proofs.Times.{member_of_times, times_in-cons, times_of_member}
use Rattle.state_sums.specs.Networks.{Node, Term, IsNode, names_of}
use Rattle.state_sums.specs.StateSums.{value}
use Rattle.root_quantum.specs.Parameters.{Parameters}
use Rattle.root_quantum.specs.QuantumNumbers.{inverse_root, loop_value}
use Rattle.strand_algebra.specs.Projectors.{IsProjector}
use Rattle.piece_laws.specs.Arcs.{arcs_of}
use Rattle.pd_reader.specs.declared.item.Item.{Item}
use Rattle.pd_reader.specs.Items.{item_labels, HasItsSlots}
use Rattle.pd_reader.specs.Diagrams.{labels, IsDiagram, IsLabel}
use Rattle.planar_check.specs.Components.{component_least, strand_edges}
use Rattle.planar_check.specs.declared.sign.Sign.{Sign}
use Rattle.cables.specs.CableNodes.{box_node}
use Rattle.cables.specs.Nets.{HasProjector, projector_of}
use Rattle.cables.specs.Strands.{Strands}
use Rattle.cables.proofs.NameCounts.{at, times_of-append, times-reverse}
use Rattle.cables.proofs.NumberedStrands.{first_length}
use Rattle.cables.proofs.ProjectorBoxes.{projector_boxes}
use Rattle.coloured_values.specs.Coloured.{colour_of, is_boxed}
use Rattle.coloured_values.specs.Laws.{HasColours}
use Rattle.diagram_moves.specs.Moves.{is_curl}
use Rattle.diagram_moves.specs.Rewriting.{slot, crossing_at, crossing_labels}
use Rattle.diagram_moves.proofs.Curling.{is_plus}
use Rattle.diagram_moves.proofs.Paired.{paired, times_labels, loop_labels}
use Rattle.diagram_moves.proofs.Pushing.{crossing_label}
use Rattle.move_results.proofs.LeastLabelLists.{least_is}
use Rattle.cable_crossings.proofs.BundleTurns.{runs_exchanged}
use Rattle.cable_crossings.proofs.ManyArcs.{arcs_ok}
use Rattle.cable_crossings.proofs.StepPieces.{All-first, All-second}
use Rattle.coloured_moves.proofs.CurledStrands.{curl_twist}
use Rattle.coloured_moves.proofs.DroppedCrossings.{dropped, dropped_ok, dropped_names, dropped_beside, boxes_low, old_name, low_name, high_name}
use Rattle.coloured_moves.proofs.ExchangedStubs.{halved_stubbed}
use Rattle.coloured_moves.proofs.LabelColours.{joined_colour, label_in, loop_out, opposite_stub}
use Rattle.coloured_moves.proofs.PulledBundles.{loop_labels-stubbed}
use Rattle.coloured_moves.proofs.PulledStubs.{crossing_labels-dropped, halved-dropped, loop_labels-dropped}
use Rattle.coloured_moves.proofs.PushedCables.{unboxed_second}
use Rattle.coloured_moves.proofs.StubItems.{half, halved, at_stub, at_stub_is, stub_nodes, boxes_of, first_labels_times}
use Rattle.coloured_moves.proofs.StubNames.{kept_stubs, Straight, stub_label, stub_low, stub_once, stub_nodes_times, stub_sum_none}
use Rattle.coloured_moves.proofs.Tests.{one_if, one_apart, one_most, one_same, one_shown}
use Rattle.coloured_moves.proofs.TurnedBoxes.{boxes_ok}
use Rattle.coloured_curls.proofs.BoxedEdges.{split_at}
use Rattle.coloured_curls.proofs.CutStubs.{joined_in}
use Rattle.coloured_curls.proofs.EdgeLetters.{AreNumbered, IsHigh}
use Rattle.coloured_curls.proofs.LetterSteps.{AreStubs}
use Rattle.coloured_curls.proofs.StubCurls.{curl_at_stub}
use Rattle.coloured_curls.proofs.StubWords as words
use Rattle.coloured_curls.proofs.UncurledWalks as walks
use Rattle.coloured_curls.proofs.UncurledWalks.{each_dropped}
use Rattle.coloured_curls.proofs.UndoneBundles as b
use Rattle.coloured_curls.proofs.UndoneBundles.{sign_at}
use Rattle.coloured_curls.proofs.CurlTwists as curls
use Rattle.coloured_curls.proofs.RenumberedLetters.{arcs_times}
use Rattle.coloured_curls.proofs.StubWords.{short_twist, twist_letters}
use Rattle.cable_crossings.proofs.ToldCrossings.{IsTold}
use Rattle.strand_words.specs.Grids.{crossed}
use Rattle.cables.proofs.LabelNames.{zero_or_some}
use Rattle.coloured_values.proofs.ColouredLaws.{each_label}

module _ (p : Parameters) (items : List Item) (is : IsDiagram items) (c : ℕ) (here : List ℕ) (found : crossing_at items c ≡ Some here) (s : ℕ) (low_s : s < 4) (test : is_curl here s ≡ true) (colours : List ℕ) (has : HasColours items colours)
    (projectors : (l : ℕ) → is_boxed items colours l ≡ true → HasProjector p (colour_of items colours l)) (free_x : is_boxed items colours (slot here s) ≡ false)
    (k : ℕ) (tall_k : colour_of items colours (slot here s) ≡ suc k) (tall : 1 ≤ k) (free_a : is_boxed items colours (slot here (s + 2)) ≡ false) where
  abbrev S : Strands
  S = b.S p items is c here found s low_s test colours has projectors free_x

  abbrev colour : ℕ → ℕ
  colour l = colour_of items colours l

  abbrev boxed : ℕ → Bool
  boxed l = is_boxed items colours l

  abbrev x : ℕ
  x = slot here s

  abbrev a : ℕ
  a = slot here (s + 2)

  abbrev lb : ℕ
  lb = slot here (s + 3)

  abbrev u : ℕ
  u = b.u p items is c here found s low_s test colours has projectors free_x

  abbrev v : ℕ
  v = b.v p items is c here found s low_s test colours has projectors free_x

  abbrev few : (l : ℕ) → colour l ≤ 8
  few = b.few p items is c here found s low_s test colours has projectors free_x

  abbrev gone : List ℕ
  gone = c ∷ []

  abbrev B : List Item
  B = b.B p items is c here found s low_s test colours has projectors free_x

  abbrev lg : ℕ
  lg = b.lg p items is c here found s low_s test colours has projectors free_x

  abbrev free : ℕ
  free = b.free p items is c here found s low_s test colours has projectors free_x

  abbrev present : ℕ → Bool
  present l = is_member ◌==◌ (crossing_labels items) l

  abbrev kept : List ℕ
  kept = kept_stubs gone 1 B

  abbrev W : List Node → ℕ
  W ns = value p.modulus (loop_value p) record { nodes = ns; free_loops = free }

  -- ---- the component
  abbrev fs : List (ℕ × ℕ)
  fs = strand_edges items

  abbrev R : List Item
  R = walks.R items (b.pd p items is c here found s low_s test colours has projectors free_x) c here found s low_s test

  abbrev rs : List ℕ
  rs = crossing_labels R

  counted : (z : ℕ) → times_in (crossing_labels items) z ≡ at z x + at z x + at z a + at z lb + times_in rs z
  counted = walks.counted items (b.pd p items is c here found s low_s test colours has projectors free_x) c here found s low_s test

  own : (z : ℕ) → at z z ≡ 1
  own z = grind (arith, nat_tests)

  two : (z : ℕ) → 1 ≤ times_in (crossing_labels items) z → times_in (crossing_labels items) z ≡ 2
  two z one = paired items (b.pd p items is c here found s low_s test colours has projectors free_x) z one

  x_in : present x ≡ true
  x_in = member_of_times x (crossing_labels items) (let t = counted x in let o = own x in omega (arith, t, o))

  abbrev pub l0 : ℕ
  l0 = component_least items x

  to_least : Joined fs x l0
  to_least =
      let m = crossing_label items x x_in in
      let P : ℕ → Type 0 = λ y. Joined fs x y in
      subst P (sym (least_is items is.sizes x m)) ((least_label-Joined fs x (least_label fs x)).0 (sym ((AreLeast-labels fs).itself x)))

  l0_in : present l0 ≡ true
  l0_in = (joined_in items is.sizes to_least).0 x_in

  -- labels of one component
  same_colour : (y z : ℕ) → Joined fs y z → present y ≡ true → colour y ≡ colour z
  same_colour y z j m = joined_colour items is.sizes colours y z j (crossing_label items y m) (crossing_label items z ((joined_in items is.sizes j).0 m))

  same_least : (y z : ℕ) → Joined fs y z → present y ≡ true → component_least items y ≡ component_least items z
  same_least y z j m =
      least_is items is.sizes y (crossing_label items y m) ∙ (least_label-Joined fs y z).1 j ∙ sym (least_is items is.sizes z (crossing_label items z ((joined_in items is.sizes j).0 m)))

  colour_l0 : colour l0 ≡ suc k
  colour_l0 = sym (same_colour x l0 to_least x_in) ∙ tall_k

  least_l0 : component_least items l0 ≡ l0
  least_l0 = sym (same_least x l0 to_least x_in)

  boxed_l0 : boxed l0 ≡ true
  boxed_l0 = plain (colour l0) (component_least items l0) l0 (let k = colour_l0 in omega (arith, k, tall)) least_l0
    where
      plain : (c k e : ℕ) → 2 ≤ c → k ≡ e → (nat_le 2 c && k == e) ≡ true
      plain c k e l h = grind (arith, nat_tests, l, h)

  no_box : (y : ℕ) → boxed y ≡ false → l0 ≢ y
  no_box y f e = clash (boxed l0) boxed_l0 (ap boxed e ∙ f)
    where
      clash : (t : Bool) → t ≡ true → t ≡ false → ⊥
      clash t h k = grind (arith, h, k)

  -- in the diagram without the crossing
  walk : Joined (strand_edges R) a l0
  walk =
      let j = walks.still_joined items (b.pd p items is c here found s low_s test colours has projectors free_x) c here found s low_s test to_least in
      let P : ℕ → Type 0 = λ y. Joined (strand_edges R) y l0 in
      let Q : ℕ → Type 0 = λ y. Joined (strand_edges R) (walks.to items (b.pd p items is c here found s low_s test colours has projectors free_x) c here found s low_s test x) y in
      subst P (walks.to_x items (b.pd p items is c here found s low_s test colours has projectors free_x) c here found s low_s test) (subst Q (walks.to_other items (b.pd p items is c here found s low_s test colours has projectors free_x) c here found s low_s test l0 (no_box x free_x)) j)

  l0_left : is_member ◌==◌ rs l0 ≡ true
  l0_left =
      member_of_times l0 rs
      (let t = counted l0 in
      let w = two l0 (times_of_member l0 (crossing_labels items) l0_in) in
      let d = one_apart l0 x (no_box x free_x) in
      let e = one_apart l0 a (no_box a free_a) in
      let f = one_most (l0 == lb) in
      omega (arith, t, w, d, e, f))

  a_left : is_member ◌==◌ rs a ≡ true
  a_left = (joined_in R (walks.sizes_R items (b.pd p items is c here found s low_s test colours has projectors free_x) c here found s low_s test) walk).1 l0_left

  -- the edge has its other end elsewhere
  a_apart : a ≢ lb
  a_apart e =
      let t = counted a in
      let one = times_of_member a rs a_left in
      let o = own a in
      let q : at a lb ≡ 1 = one_same a lb e in
      let w = two a (omega (arith, t, o)) in
      omega (arith, t, one, o, q, w)

  -- ---- the stub at the other end
  abbrev hu : ℕ
  hu = half u

  half_u : hu ≡ a
  half_u = b.half_u p items is c here found s low_s test colours has projectors free_x

  abbrev w : ℕ
  w = cond (u % 2 == 1) (2 * hu) (2 * hu + 1)

  other : (half w ≡ hu) × (w ≢ u)
  other =
      ⊎_elim
      (λ t.
      let e : w ≡ 2 * hu = ap (λ h. cond h (2 * hu) (2 * hu + 1)) t in
      let odd : u % 2 ≡ 1 = eqb-true (u % 2) 1 t in
      ((let d : half (2 * hu) ≡ hu = omega arith in ap half e ∙ d), (λ q. omega (arith, e, odd, q))))
      (λ t.
      let e : w ≡ 2 * hu + 1 = ap (λ h. cond h (2 * hu) (2 * hu + 1)) t in
      let even : u % 2 ≢ 1 = λ q. (let z : (u % 2 == 1) ≡ true = eq-eqb (u % 2) 1 q in grind (arith, z, t)) in
      ((let d : half (2 * hu + 1) ≡ hu = omega arith in ap half e ∙ d), (λ q. even (omega (arith, e, q)))))
      (cases_Bool (u % 2 == 1))

  stub_counted : (z : ℕ) → times_in kept z + (at z (b.x0 p items is c here found s low_s test colours has projectors free_x) + (at z u + (at z (b.x1 p items is c here found s low_s test colours has projectors free_x) + at z v))) ≡ one_if (present (half z))
  stub_counted z =
      let k = (b.counted p items is c here found s low_s test colours has projectors free_x) z in
      let i = times_in-cons (b.x0 p items is c here found s low_s test colours has projectors free_x) (u ∷ (b.x1 p items is c here found s low_s test colours has projectors free_x) ∷ v ∷ []) z in
      let j = times_in-cons u ((b.x1 p items is c here found s low_s test colours has projectors free_x) ∷ v ∷ []) z in
      let m = times_in-cons (b.x1 p items is c here found s low_s test colours has projectors free_x) (v ∷ []) z in
      let n = times_in-cons v [] z in
      omega (arith, k, i, j, m, n)

  a_in : present a ≡ true
  a_in = member_of_times a (crossing_labels items) (let t = counted a in let o = own a in omega (arith, t, o))

  abbrev D : List Item
  D = dropped gone 1 B

  stub_labels : (z : ℕ) → times_in (crossing_labels D) z ≡ times_in kept z
  stub_labels z = ap (λ ns. times_in ns z) (crossing_labels-dropped gone 1 B)

  stands : 1 ≤ times_in (crossing_labels D) w
  stands =
      let k = stub_counted w in
      let h : half w ≡ a = other.0 ∙ half_u in
      let p1 = ap one_if (ap present h ∙ a_in) in
      let e0 = one_apart w (b.x0 p items is c here found s low_s test colours has projectors free_x) (λ q. (b.apart_u p items is c here found s low_s test colours has projectors free_x) (sym other.0 ∙ ap half q)) in
      let e1 = one_apart w (b.x1 p items is c here found s low_s test colours has projectors free_x) (λ q. (b.apart_u p items is c here found s low_s test colours has projectors free_x) (sym other.0 ∙ ap half q ∙ (b.half_x1 p items is c here found s low_s test colours has projectors free_x) ∙ sym (b.half_x0 p items is c here found s low_s test colours has projectors free_x))) in
      let e2 = one_apart w u other.1 in
      let e3 = one_apart w v (λ q. a_apart (sym h ∙ ap half q ∙ (b.half_v p items is c here found s low_s test colours has projectors free_x))) in
      let l = stub_labels w in
      omega (arith, k, p1, e0, e1, e2, e3, l)

  u_gone : times_in kept u ≡ 0
  u_gone = let k = stub_counted u in let o = own u in let m = one_most (present (half u)) in omega (arith, k, o, m)

  alone : (z : ℕ) → 1 ≤ times_in (crossing_labels D) z → half z ≡ half w → z ≡ w
  alone z one e =
      ⊎_elim (λ (q : z ≡ w). q)
      (λ n. absurd
      (let o0 = other.0 in let o1 = other.1 in
      let q : z ≡ u = omega (arith, e, o0, o1, n) in
      let l = stub_labels z in
      let g = u_gone in
      let f = ap (times_in kept) q in
      omega (arith, one, l, g, f)))
      (cases_eq z w)

  abbrev A : List ℕ
  A = at_stub S w

  abbrev into : List ℕ
  into = b.into p items is c here found s low_s test colours has projectors free_x

  abbrev out : List ℕ
  out = b.out p items is c here found s low_s test colours has projectors free_x

  abbrev Ys : List ℕ
  Ys = reverse out

  into_is : into ≡ reverse A
  into_is = opposite_stub S w u other.0 other.1 (unboxed_second (colour (half w)) (half w) (boxed (half w)) (ap boxed (other.0 ∙ half_u) ∙ free_a))

  long_into : length into ≡ suc k
  long_into = (b.long_into p items is c here found s low_s test colours has projectors free_x) ∙ tall_k

  long_out : length out ≡ suc k
  long_out = (b.long_out p items is c here found s low_s test colours has projectors free_x) ∙ tall_k

  long_A : length A ≡ suc k
  long_A = sym (length-reverse A) ∙ sym (ap length into_is) ∙ long_into

  long_Ys : length Ys ≡ suc k
  long_Ys = length-reverse out ∙ long_out

  -- ---- the boxes
  abbrev L : List ℕ
  L = b.L p items is c here found s low_s test colours has projectors free_x

  l0_first : is_member ◌==◌ L l0 ≡ true
  l0_first =
      let t = first_labels_times boxed [] items l0 in
      member_of_times l0 L (plain (present l0) (boxed l0) (times_in L l0) l0_in boxed_l0 t)
    where
      plain : (s t : Bool) (k : ℕ) → s ≡ true → t ≡ true → k ≡ cond (s && (t && true)) 1 0 → 1 ≤ k
      plain s t k a b h = grind (arith, a, b, h)

  sides : (before : List ℕ) × (behind : List ℕ) × (L ≡ before ++ l0 ∷ behind)
  sides = split_at L l0 l0_first

  abbrev f0 : List Term
  f0 = S.box (length (S.first l0))

  abbrev box : Node
  box = box_node 0 f0 (at_stub S (2 * l0)) (at_stub S (2 * l0 + 1))

  abbrev B1 : List Node
  B1 = boxes_of S sides.0

  abbrev B2 : List Node
  B2 = boxes_of S sides.1

  abbrev OB : List Node
  OB = B1 ++ B2

  at_low : (l : ℕ) → at_stub S (2 * l) ≡ S.first l
  at_low l = (let e : 2 * l ≡ 2 * l + 0 = omega arith in ap (at_stub S) e) ∙ at_stub_is S [] l

  at_high : (l : ℕ) → at_stub S (2 * l + 1) ≡ S.second l
  at_high l =
      let r : (2 * l + 1) % 2 ≡ 1 = omega arith in let h : half (2 * l + 1) ≡ l = omega arith in
      ap (λ k. cond (k == 1) (S.second (half (2 * l + 1))) (S.first (half (2 * l + 1)))) r ∙ ap S.second h

  box_is : box_node 0 f0 (S.first l0) (S.second l0) ≡ box
  box_is = ap₂ (box_node 0 f0) (sym (at_low l0)) (sym (at_high l0))

  all_boxes : boxes_of S L ≡ B1 ++ (box ∷ B2)
  all_boxes =
      ap (boxes_of S) sides.2 ∙ map-append (λ l. box_node 0 (S.box (length (S.first l))) (S.first l) (S.second l)) sides.0 (l0 ∷ sides.1) ∙ ap (λ node. B1 ++ (node ∷ B2)) box_is

  ok_boxes : All IsNode (B1 ++ (box ∷ B2))
  ok_boxes = subst (All IsNode) all_boxes (boxes_ok p.modulus (loop_value p) S (projector_boxes p) (b.even p items is c here found s low_s test colours has projectors free_x) L)

  ok_B1 : All IsNode B1
  ok_B1 = All-first IsNode B1 (box ∷ B2) ok_boxes

  ok_B2 : All IsNode (box ∷ B2)
  ok_B2 = All-second IsNode B1 (box ∷ B2) ok_boxes

  ok_box : All IsNode (box ∷ [])
  ok_box = All-first IsNode (box ∷ []) B2 ok_B2

  -- ---- the other crossings, by their numbers without the crossing
  abbrev CB : List Node
  CB = b.CB p items is c here found s low_s test colours has projectors free_x

  abbrev rest : List Node
  rest = b.rest p items is c here found s low_s test colours has projectors free_x

  abbrev N : List Node
  N = stub_nodes p S [] 1 1 0 lg D

  ok_CB : All IsNode CB
  ok_CB = All-second IsNode (boxes_of S L) CB (b.ok_rest p items is c here found s low_s test colours has projectors free_x)

  at_stubs : (w : ℕ) → is_member ◌==◌ kept w ≡ true → half w ≤ 2000000
  at_stubs w m = (b.small p items is c here found s low_s test colours has projectors free_x) (half w) (let one = times_of_member w kept m in let q = stub_counted w in one_shown (present (half w)) (times_in kept w + (at w (b.x0 p items is c here found s low_s test colours has projectors free_x) + (at w u + (at w (b.x1 p items is c here found s low_s test colours has projectors free_x) + at w v)))) (omega (arith, one)) q)

  at_loops : (l : ℕ) → is_member ◌==◌ (loop_labels B) l ≡ true → l ≤ 2000000
  at_loops l m =
      (label_in IsLabel (labels item_labels items) is.in_range l
      (member_of_times l (labels item_labels items)
      (let k = times_of_member l (loop_labels items) (ap (λ ns. is_member ◌==◌ ns l) (sym (loop_labels-stubbed [] items)) ∙ m) in
      let t = times_labels items l in
      omega (arith, k, t)))).high

  abbrev f : ℕ → ℕ
  f = old_name p colour boxed (projector_of p) few gone lg lg B (b.straight_B p items is c here found s low_s test colours has projectors free_x) at_stubs at_loops

  ok_N : All IsNode N
  ok_N = dropped_ok p colour boxed (projector_of p) few gone lg lg B (b.straight_B p items is c here found s low_s test colours has projectors free_x) at_stubs at_loops ok_CB

  N_names : (z : ℕ) → times_in (names_of N) z ≡ times_in (names_of CB) (f z)
  N_names = dropped_names p colour boxed (projector_of p) few gone lg lg B (b.straight_B p items is c here found s low_s test colours has projectors free_x) at_stubs at_loops

  abbrev IsLow : List Node → Type 0
  IsLow ns = (z : ℕ) → 1 ≤ times_in (names_of ns) z → z < 2 ^ 25

  -- low names stay
  low_same : (ns : List Node) → IsLow ns → (z : ℕ) → times_in (names_of ns) z ≡ times_in (names_of ns) (f z)
  low_same ns low z =
      ⊎_elim
      (λ (l : z < 2 ^ 25). ap (times_in (names_of ns)) (sym (low_name p colour boxed (projector_of p) few gone lg lg B (b.straight_B p items is c here found s low_s test colours has projectors free_x) at_stubs at_loops z l)))
      (λ (l : 2 ^ 25 ≤ z).
      none (times_in (names_of ns) z) (λ one. (let m = low z one in omega (arith, l, m)))
      ∙ sym (none (times_in (names_of ns) (f z)) (λ one. (let m = low (f z) one in let h = high_name p colour boxed (projector_of p) few gone lg lg B (b.straight_B p items is c here found s low_s test colours has projectors free_x) at_stubs at_loops z l in omega (arith, h, m)))))
      (either z)
    where
      none : (k : ℕ) → (1 ≤ k → ⊥) → k ≡ 0
      none zero h = refl
      none (suc k) h = absurd (h (omega arith))

      either : (z : ℕ) → (z < 2 ^ 25) ⊎ (2 ^ 25 ≤ z)
      either z = ⊎_elim (λ t. (let l : z < 2 ^ 25 = grind (arith, nat_tests, t) in inl l)) (λ t. (let l : 2 ^ 25 ≤ z = grind (arith, nat_tests, t) in inr l)) (cases_Bool (nat_lt z (2 ^ 25)))

  first_test : (h i : Bool) → 1 ≤ cond (h && (i && true)) 1 0 → h ≡ true
  first_test true i h = refl
  first_test false i h = absurd (omega (arith, h))

  low_first : (l : ℕ) → 1 ≤ times_in L l → l ≤ 2000000
  low_first l one = (b.small p items is c here found s low_s test colours has projectors free_x) l (first_test (present l) (boxed l) (let t = first_labels_times boxed [] items l in omega (arith, one, t)))

  boxes_low_L : IsLow (boxes_of S L)
  boxes_low_L z one = boxes_low p colour boxed (projector_of p) few gone L (each_label (λ l. l ≤ 2000000) L (λ l m. low_first l (times_of_member l L m))) z (member_of_times z (names_of (boxes_of S L)) one)

  -- ---- names of strands
  stub_of : (w z : ℕ) → 1 ≤ times_in (at_stub S w) z → z / 16 ≡ half w
  stub_of w z one = stub_label colour boxed (projector_of p) few w z one

  low_stub : (w z : ℕ) → half w ≤ 2000000 → 1 ≤ times_in (at_stub S w) z → z < 2 ^ 25
  low_stub w z l one = stub_low colour boxed (projector_of p) few w z l one

  small_u : half u ≤ 2000000
  small_u = (b.small p items is c here found s low_s test colours has projectors free_x) (half u) (ap present half_u ∙ a_in)

  small_v : half v ≤ 2000000
  small_v = (b.small p items is c here found s low_s test colours has projectors free_x) (half v) (ap present (b.half_v p items is c here found s low_s test colours has projectors free_x) ∙ member_of_times lb (crossing_labels items) (let t = counted lb in let o = own lb in omega (arith, t, o)))

  clear_stub : (w z : ℕ) → half w ≤ 2000000 → IsHigh z → times_in (at_stub S w) z ≡ 0
  clear_stub w z l h = none (times_in (at_stub S w) z) (λ one. (let e = stub_of w z one in let a = h.0 in omega (arith, e, a, l)))
    where
      none : (k : ℕ) → (1 ≤ k → ⊥) → k ≡ 0
      none zero h = refl
      none (suc k) h = absurd (h (omega arith))

  rest_clear : (z : ℕ) → IsHigh z → times_in (names_of rest) z ≡ 0
  rest_clear z h =
      let by_label : (l : ℕ) → l ≤ 2000000 → (times_in (S.first l) z ≡ 0) × (times_in (S.second l) z ≡ 0) =
      λ l low. (
        ap (λ xs. times_in xs z) (sym (at_low l)) ∙ clear_stub (2 * l) z (let q : half (2 * l) ≡ l = omega arith in omega (arith, q, low)) h,
        ap (λ xs. times_in xs z) (sym (at_high l)) ∙ clear_stub (2 * l + 1) z (let q : half (2 * l + 1) ≡ l = omega arith in omega (arith, q, low)) h,
      ) in
      let a = words.boxes_none S L z (λ l one. by_label l (low_first l one)) in
      let low : z < 2 ^ 25 = h.1 in
      let short : (w : ℕ) → length (at_stub S w) ≤ 8 = λ w. (let i = (b.long_at p items is c here found s low_s test colours has projectors free_x) w in let j = few (half w) in omega (arith, i, j)) in
      let b = stub_nodes_times p S gone z low short 1 1 0 lg B (b.straight_B p items is c here found s low_s test colours has projectors free_x) in
      let d = stub_sum_none S kept z (λ w one. clear_stub w z (at_stubs w (member_of_times w kept one)) h) in
      let e = words.loops_none S (loop_labels B) z (λ l one. (by_label l (at_loops l (member_of_times l (loop_labels B) one))).0) in
      let t = times_of-append z (boxes_of S L) CB in
      omega (arith, a, b, d, e, t)

  -- ---- the strands beside the other crossings
  few_k : suc k ≤ 8
  few_k = let a = few x in omega (arith, a, tall_k)

  abbrev sign : Sign
  sign = sign_at s

  abbrev M : List ℕ
  M = b.M p items is c here found s low_s test colours has projectors free_x

  long_M : length M ≡ suc k
  long_M = (b.long_M p items is c here found s low_s test colours has projectors free_x) ∙ tall_k

  abbrev X1 : List Node
  X1 = b.X1 p items is c here found s low_s test colours has projectors free_x

  abbrev is_told : IsTold p.modulus (loop_value p) X1 (crossed p.root (inverse_root p) (is_plus sign) 0).straight (crossed p.root (inverse_root p) (is_plus sign) 0).hook into out M (reverse M)
  is_told = b.told p items is c here found s low_s test colours has projectors free_x

  strands_twice : (z : ℕ) → 1 ≤ times_in into z + times_in out z + times_in (names_of rest) z → times_in into z + times_in out z + times_in (names_of rest) z ≡ 2
  strands_twice = (curls.strands_twice p free k sign into out M few_k long_into long_out long_M X1 rest is_told (b.ok_rest p items is c here found s low_s test colours has projectors free_x) (b.twice p items is c here found s low_s test colours has projectors free_x))

  abbrev K0 : List Node
  K0 = box ∷ (OB ++ arcs_of (zip (reverse A) Ys))

  K0_count : (z : ℕ) → times_in (names_of K0) z ≡ times_in into z + times_in out z + times_in (names_of (boxes_of S L)) z
  K0_count z =
      let a = times_of-append z (box ∷ OB) (arcs_of (zip (reverse A) Ys)) in
      let b = arcs_times (reverse A) Ys z (long_Ys ∙ sym (length-reverse A ∙ long_A)) in
      let d = ap (λ xs. times_in xs z) into_is in
      let r = times-reverse z out in
      let g = ap (λ bs. times_in (names_of bs) z) all_boxes in
      let h = times_of-append z B1 (box ∷ B2) in
      let i = times_of-append z (box ∷ []) B2 in
      let j = times_of-append z (box ∷ []) OB in
      let k = times_of-append z B1 B2 in
      omega (arith, a, b, d, r, g, h, i, j, k)

  K0_low : IsLow K0
  K0_low z one =
      let q = K0_count z in
      ⊎_elim
      (λ (n : times_in into z ≡ 0).
      ⊎_elim
      (λ (m : times_in out z ≡ 0). boxes_low_L z (omega (arith, q, one, n, m)))
      (λ m. (let m1 = m.1 in low_stub v z small_v (omega (arith, m1))))
      (zero_or_some (times_in out z)))
      (λ n. (let n1 = n.1 in low_stub u z small_u (omega (arith, n1))))
      (zero_or_some (times_in into z))

  -- there they stand as in the diagram
  K0_names : (z : ℕ) → times_in (names_of (K0 ++ N)) z ≡ times_in into (f z) + times_in out (f z) + times_in (names_of rest) (f z)
  K0_names z =
      let t = times_of-append z K0 N in
      let l = low_same K0 K0_low z in
      let n = N_names z in
      let q = K0_count (f z) in
      let r = times_of-append (f z) (boxes_of S L) CB in
      omega (arith, t, l, n, q, r)

  ok_arcs : All IsNode (arcs_of (zip (reverse A) Ys))
  ok_arcs = arcs_ok (zip (reverse A) Ys)

  base_are : AreStubs p S K0 1 1 0 lg D
  base_are = record {
    nodes = All-append IsNode (box ∷ OB) (arcs_of (zip (reverse A) Ys)) (All-cons IsNode box OB (All-head IsNode box B2 ok_B2) (All-append IsNode B1 B2 ok_B1 (All-tail IsNode box B2 ok_B2))) ok_arcs;
    crossings = ok_N;
    sizes = each_dropped HasItsSlots gone 1 B (b.sizes_B p items is c here found s low_s test colours has projectors free_x);
    straight = each_dropped (Straight S) gone 1 B (b.straight_B p items is c here found s low_s test colours has projectors free_x);
    few = λ w. (let i = (b.long_at p items is c here found s low_s test colours has projectors free_x) w in let j = few (half w) in omega (arith, i, j));
    once = λ z. (let l = stub_labels z in let q = stub_counted z in let m = one_most (present (half z)) in omega (arith, l, q, m));
    loops = λ l z m e.
        let out_of : present (half z) ≡ false = ap present e ∙ loop_out items (b.pd p items is c here found s low_s test colours has projectors free_x) l (ap (λ ns. is_member ◌==◌ ns l) (sym (loop_labels-stubbed [] items) ∙ sym (loop_labels-dropped gone 1 B)) ∙ m) in
        let q = stub_counted z in let n = ap one_if out_of in let k = stub_labels z in
        omega (arith, q, n, k);
    twice = λ z one. (let e = K0_names z in let t = strands_twice (f z) (omega (arith, e, one)) in omega (arith, e, t));
  }

  no_high : (z : ℕ) → IsHigh z → times_in (names_of (K0 ++ N)) z ≡ 0
  no_high z h =
      let e = K0_names z in
      let l : f z ≡ z = low_name p colour boxed (projector_of p) few gone lg lg B (b.straight_B p items is c here found s low_s test colours has projectors free_x) at_stubs at_loops z h.1 in
      let h' : IsHigh (f z) = (let h0 = h.0 in let h1 = h.1 in (omega (arith, l, h0), omega (arith, l, h1))) in
      let a = clear_stub u (f z) small_u h' in
      let b = clear_stub v (f z) small_v h' in
      let d = rest_clear (f z) h' in
      omega (arith, e, a, b, d)

  numbered : AreNumbered S D
  numbered = record {
    label = stub_of;
    single = λ w z. stub_once colour boxed (projector_of p) few w z;
    small = λ w one. at_stubs w (member_of_times w kept (let l = stub_labels w in omega (arith, l, one)));
    small_loops = λ l m. at_loops l (ap (λ ns. is_member ◌==◌ ns l) (sym (loop_labels-dropped gone 1 B)) ∙ m);
  }

  -- ---- the walk
  is_projector : IsProjector p.modulus (loop_value p) (suc k) f0
  is_projector =
      let P : ℕ → ℕ → Type 0 = λ i j. IsProjector p.modulus (loop_value p) i (projector_of p j) in
      let long : length (S.first l0) ≡ suc k = first_length colour boxed (projector_of p) l0 ∙ colour_l0 in
      let t = projectors l0 boxed_l0 in
      subst (λ j. P (suc k) j) (sym long) (subst (λ j. P j j) colour_l0 t)

  halved_D : halved D ≡ R
  halved_D = halved-dropped gone 1 B ∙ ap (dropped gone 1) (halved_stubbed [] items)

  from_l0 : Joined (strand_edges (halved D)) l0 (half w)
  from_l0 =
      let P : List Item → Type 0 = λ xs. Joined (strand_edges xs) l0 (half w) in
      let Q : ℕ → Type 0 = λ y. Joined (strand_edges R) l0 y in
      subst P (sym halved_D) (subst Q (sym (other.0 ∙ half_u)) (back walk))

  plain : (l : ℕ) → Joined (strand_edges (halved D)) l0 l → (l ≡ l0) ⊎ (at_stub S (2 * l + 1) ≡ reverse (at_stub S (2 * l)))
  plain l j =
      let P : List Item → Type 0 = λ xs. Joined (strand_edges xs) l0 l in
      let before : Joined fs l0 l = walks.joined_before items (b.pd p items is c here found s low_s test colours has projectors free_x) c here found s low_s test (subst P halved_D j) in
      ⊎_elim
      (λ t. inl (sym (second (nat_le 2 (colour l)) (component_least items l) l t) ∙ sym (same_least l0 l before l0_in) ∙ least_l0))
      (λ t. inr
      (let q : half (2 * l) ≡ half (2 * l + 1) = omega arith in
      let h : half (2 * l) ≡ l = omega arith in
      opposite_stub S (2 * l) (2 * l + 1) q (λ e. omega (arith, e)) (unboxed_second (colour (half (2 * l))) (half (2 * l)) (boxed (half (2 * l))) (ap boxed h ∙ t))))
      (cases_Bool (boxed l))
    where
      second : (t : Bool) (k l : ℕ) → (t && k == l) ≡ true → k ≡ l
      second t k l h = grind (arith, nat_tests, h)

  long_l0 : (z : ℕ) → half z ≡ l0 → length (at_stub S z) ≡ suc k
  long_l0 z h = (b.long_at p items is c here found s low_s test colours has projectors free_x) z ∙ ap colour h ∙ colour_l0

  -- from the diagram to the one without the crossing, beside nodes with low names
  front : (ns : List Node) → All IsNode ns → IsLow ns → W (ns ++ rest) ≡ W ((box ∷ (OB ++ ns)) ++ N)
  front ns ok low =
      let Z = ns ++ N in
      let okZ : All IsNode Z = All-append IsNode ns N ok ok_N in
      let okB2 : All IsNode B2 = All-tail IsNode box B2 ok_B2 in
      let ok_L : All IsNode (boxes_of S L) = All-first IsNode (boxes_of S L) CB (b.ok_rest p items is c here found s low_s test colours has projectors free_x) in
      let low_all : (z : ℕ) → is_member ◌==◌ (names_of (ns ++ boxes_of S L)) z ≡ true → z < 2 ^ 25 =
      λ z m.
      let one = times_of_member z (names_of (ns ++ boxes_of S L)) m in
      let q = times_of-append z ns (boxes_of S L) in
      ⊎_elim (λ (n : times_in (names_of ns) z ≡ 0). boxes_low_L z (omega (arith, one, q, n))) (λ n. (let n1 = n.1 in low z (omega (arith, n1)))) (zero_or_some (times_in (names_of ns) z)) in
      ap W (sym (append_assoc ns (boxes_of S L) CB))
      ∙ sym (dropped_beside p colour boxed (projector_of p) few gone lg lg B (b.straight_B p items is c here found s low_s test colours has projectors free_x) at_stubs at_loops p.modulus (loop_value p) free (ns ++ boxes_of S L) low_all (All-append IsNode (ns ++ boxes_of S L) N (All-append IsNode ns (boxes_of S L) ok ok_L) ok_N))
      ∙ ap W (append_assoc ns (boxes_of S L) N)
      ∙ runs_exchanged p.modulus (loop_value p) free ns (boxes_of S L) N ok ok_L ok_N
      ∙ ap (λ bs. W (bs ++ Z)) all_boxes
      ∙ ap W (append_assoc B1 (box ∷ B2) Z)
      ∙ runs_exchanged p.modulus (loop_value p) free B1 (box ∷ []) (B2 ++ Z) ok_B1 ok_box (All-append IsNode B2 Z okB2 okZ)
      ∙ ap (λ xs. W (box ∷ xs)) (sym (append_assoc B1 B2 Z) ∙ sym (append_assoc OB ns N))

  -- A CURL WHOSE STRANDS COME IN AT AN EDGE WITHOUT A BOX
  pub walked : W (X1 ++ rest) ≡ curl_twist p (suc k) sign * W (arcs_of (zip into (reverse out)) ++ rest) % p.modulus
  walked =
      curl_at_stub p free k sign into out M few_k long_into long_out long_M X1 rest is_told (b.ok_rest p items is c here found s low_s test colours has projectors free_x) (b.twice p items is c here found s low_s test colours has projectors free_x) S D lg numbered l0 f0 is_projector long_l0 OB w stands alone from_l0 plain into_is base_are no_high
      (λ z h. (let a = clear_stub u z small_u h in let d = clear_stub v z small_v h in let e = rest_clear z h in omega (arith, a, d, e)))
      (λ z one. ⊎_elim (λ (n : times_in into z ≡ 0). low_stub v z small_v (omega (arith, one, n))) (λ n. (let n1 = n.1 in low_stub u z small_u (omega (arith, n1)))) (zero_or_some (times_in into z)))
      front
