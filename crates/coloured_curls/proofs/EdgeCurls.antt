-- Curl on an edge without a box, of a component of a colour from 2 on: the crossings of its twist walk along the component to the box, so the curl
-- counts as its factor.
use Rattle.std.proofs.Common.{◌≡◌, ◌⊎◌, ℕ, zero, suc, ◌+◌, ◌-◌, ◌*◌, ◌%◌, ◌^◌, ◌<◌, ◌≤◌, ◌==◌, ◌&&◌, inl, inr, Bool, true, false, cond, List, [], ◌∷◌, ◌++◌, length, reverse, refl, sym, ap, ap₂, ◌∙◌, arith, ⊎_elim, All, subst, append_assoc}
use Rattle.std.specs.List.{AllByRecursion, zip}
use Rattle.std.specs.List.Sorted.{IsPermutation}
use Rattle.std.specs.Set.{is_member}
use Rattle.std.proofs.lemmas.Bool.{cases_Bool}
use Rattle.std.proofs.lemmas.List.{length-reverse, map-append, reverse-reverse}
use Rattle.std.proofs.lemmas.List.Elements.{All-append, All-cons, All-head, All-tail}
use Rattle.std.proofs.lemmas.List.Sorted.{All-permutation, IsPermutation-append_right}
use Rattle.graph_parts.specs.Walks.{Joined, back}
use Rattle.list_lemmas.specs.Times.{times_in}
use Rattle.list_lemmas.proofs.Times.{member_of_times}
use Rattle.state_sums.specs.Networks.{Node, Term, IsNode, names_of}
use Rattle.state_sums.specs.StateSums.{value}
use Rattle.state_sums.proofs.NetworkLaws.{any_order}
use Rattle.root_quantum.specs.Parameters.{Parameters}
use Rattle.root_quantum.specs.QuantumNumbers.{inverse_root, loop_value}
use Rattle.strand_algebra.specs.Projectors.{IsProjector}
use Rattle.strand_words.specs.Grids.{crossed}
use Rattle.piece_laws.specs.Arcs.{arcs_of}
use Rattle.pd_reader.specs.declared.item.Item.{Item}
use Rattle.pd_reader.specs.declared.item.Item.TheVariants as item
use Rattle.pd_reader.specs.Items.{HasItsSlots}
use Rattle.pd_reader.specs.Diagrams.{IsDiagram}
use Rattle.planar_check.specs.Components.{component_least, strand_edges}
use Rattle.planar_check.specs.declared.sign.Sign.{Sign}
use Rattle.planar_check.specs.declared.sign.Sign.TheVariants as signs
use Rattle.cables.specs.CableNodes.{box_node}
use Rattle.cables.specs.Cables.{Standing, start, count_placed, as_net}
use Rattle.cables.specs.Nets.{HasProjector, projector_of}
use Rattle.cables.specs.Strands.{Strands, first_names, second_names}
use Rattle.cables.proofs.NameCounts.{times_of-append, times-reverse}
use Rattle.cables.proofs.NumberedStrands.{first_length}
use Rattle.cables.proofs.ProjectorBoxes.{projector_boxes}
use Rattle.coloured_values.specs.Coloured.{colour_of, is_boxed, coloured}
use Rattle.coloured_values.specs.Laws.{HasColours}
use Rattle.diagram_moves.specs.Laws.{IsPairedDiagram}
use Rattle.diagram_moves.specs.Moves.{curl_slots}
use Rattle.diagram_moves.specs.Rewriting.{crossing_labels, fresh}
use Rattle.diagram_moves.proofs.Curling.{is_plus}
use Rattle.diagram_moves.proofs.Paired.{loop_labels}
use Rattle.cable_crossings.proofs.BundleTurns.{runs_exchanged}
use Rattle.cable_crossings.proofs.CabledBigon.{names_of-ungrouped}
use Rattle.cable_crossings.proofs.ManyArcs.{arcs_ok}
use Rattle.cable_crossings.proofs.StepPieces.{All-first, All-second}
use Rattle.cable_crossings.proofs.ToldCrossings.{IsTold}
use Rattle.coloured_moves.proofs.ColouredSlides.{boxed_projector}
use Rattle.coloured_moves.proofs.CurledCables as cables
use Rattle.coloured_moves.proofs.CurledStrands.{curl_twist}
use Rattle.coloured_moves.proofs.ExchangedStubs.{halved_stubbed, sizes-stubbed}
use Rattle.coloured_moves.proofs.StubItems.{half, halved, boxes_of, first_boxes, first_labels, first_labels_times, at_stub, split, stub_nodes, stubbed, ungrouped_boxes}
use Rattle.coloured_moves.proofs.StubNames.{stub_sum, stub_sum_none, stub_nodes_times}
use Rattle.coloured_moves.proofs.TurnedBoxes.{boxes_ok, names_permuted, ungrouped_value}
use Rattle.coloured_curls.proofs.BoxedCurls.{curl_pairs}
use Rattle.coloured_curls.proofs.BoxedEdges.{split_at}
use Rattle.coloured_curls.proofs.CurlTwists as curls
use Rattle.coloured_curls.proofs.CutStubs as stubs
use Rattle.coloured_curls.proofs.CutStubs.{joined_in}
use Rattle.coloured_curls.proofs.EdgeLetters.{AreNumbered, IsHigh, kept_all}
use Rattle.coloured_curls.proofs.LetterSteps.{AreStubs}
use Rattle.coloured_curls.proofs.RenumberedLetters.{arcs_times}
use Rattle.cables.proofs.LabelNames.{zero_or_some}
use Rattle.coloured_curls.proofs.StubCurls.{curl_at_stub}
use Rattle.coloured_curls.proofs.StubWords.{boxes_none, loops_none}
use Rattle.coloured_curls.proofs.EdgeComponents as parts

-- ---- diagrams
module _ (p : Parameters) (items : List Item) (pd : IsPairedDiagram items) (e : ℕ) (has_e : is_member ◌==◌ (crossing_labels items) e ≡ true) (sign : Sign) (colours : List ℕ) (room : fresh items + 3 ≤ 2000000)
    (after_is : IsDiagram (cables.after p items pd e has_e sign colours room)) (has : HasColours (cables.after p items pd e has_e sign colours room) colours) (projectors : AllByRecursion (HasProjector p) colours)
    (tall : 2 ≤ colour_of items colours e) (unboxed : is_boxed items colours e ≡ false) where
  abbrev R : List Item
  R = cables.R p items pd e has_e sign colours room

  abbrev after : List Item
  after = cables.after p items pd e has_e sign colours room

  abbrev new : List Item
  new = item.X (curl_slots e (fresh items + 1) (fresh items) sign) ∷ []

  abbrev S : Strands
  S = cables.S p items pd e has_e sign colours room after_is has

  abbrev c : ℕ
  c = colour_of items colours e

  abbrev CR : List Node
  CR = cables.CR p items pd e has_e sign colours room after_is has

  abbrev X1 : List Node
  X1 = cables.X1 p items pd e has_e sign colours room after_is has

  abbrev free : ℕ
  free = cables.free p items pd e has_e sign colours room after_is has

  abbrev v : ℕ
  v = cables.v p items pd e has_e sign colours room

  abbrev M : List ℕ
  M = cables.M p items pd e has_e sign colours room after_is has

  abbrev V : List Node → ℕ
  V ns = value p.modulus (loop_value p) record { nodes = ns; free_loops = free }

  abbrev l0 : ℕ
  l0 = component_least items e

  abbrev colour : ℕ → ℕ
  colour l = colour_of after colours l

  abbrev boxed : ℕ → Bool
  boxed l = is_boxed after colours l

  abbrev es : List (ℕ × ℕ)
  es = strand_edges R

  sizes_R : AllByRecursion HasItsSlots R
  sizes_R = parts.sizes_R p items pd e has_e sign colours room after_is has projectors tall unboxed

  numbered : AreNumbered S (stubbed [] R)
  numbered = stubs.numbered p R new after_is sizes_R colours has

  -- ---- the nodes of the cut diagram: the component's box, the other boxes, and the crossings by their stubs
  abbrev D : List Item
  D = stubbed [] R

  abbrev lg : ℕ
  lg = count_placed (as_net after) + 1

  abbrev N : List Node
  N = stub_nodes p S [] 1 1 0 lg D

  abbrev ls : List ℕ
  ls = first_labels S.boxed [] R

  l0_first : is_member ◌==◌ ls l0 ≡ true
  l0_first =
      let t = first_labels_times S.boxed [] R l0 in
      member_of_times l0 ls (plain (is_member ◌==◌ (crossing_labels R) l0) (S.boxed l0) (times_in ls l0) (parts.l0_R p items pd e has_e sign colours room after_is has projectors tall unboxed) (parts.boxed_l0 p items pd e has_e sign colours room after_is has projectors tall unboxed) t)
    where
      plain : (s t : Bool) (k : ℕ) → s ≡ true → t ≡ true → k ≡ cond (s && (t && true)) 1 0 → 1 ≤ k
      plain s t k a b h = grind (arith, a, b, h)

  sides : (before : List ℕ) × (behind : List ℕ) × (ls ≡ before ++ l0 ∷ behind)
  sides = split_at ls l0 l0_first

  abbrev f0 : List Term
  f0 = S.box (length (S.first l0))

  abbrev box : Node
  box = box_node 0 f0 (at_stub S (2 * l0)) (at_stub S (2 * l0 + 1))

  abbrev B1 : List Node
  B1 = boxes_of S sides.0

  abbrev B2 : List Node
  B2 = boxes_of S sides.1

  abbrev OB : List Node
  OB = B1 ++ B2

  box_is : box_node 0 f0 (S.first l0) (S.second l0) ≡ box
  box_is = ap₂ (box_node 0 f0) (sym (stubs.at_low p R new after_is sizes_R colours has l0)) (sym (stubs.at_high p R new after_is sizes_R colours has l0))

  all_boxes : boxes_of S ls ≡ B1 ++ (box ∷ B2)
  all_boxes =
      ap (boxes_of S) sides.2 ∙ map-append (λ l. box_node 0 (S.box (length (S.first l))) (S.first l) (S.second l)) sides.0 (l0 ∷ sides.1) ∙ ap (λ node. B1 ++ (node ∷ B2)) box_is

  abbrev st0 : Standing
  st0 = start (as_net after)

  abbrev FB : List Node
  FB = first_boxes S st0 R

  perm : IsPermutation CR (FB ++ N)
  perm = split p S R st0 1 sizes_R

  ok_CR : All IsNode CR
  ok_CR = cables.ok_R p items pd e has_e sign colours room after_is has

  ok_FN : All IsNode (FB ++ N)
  ok_FN = All-permutation IsNode CR (FB ++ N) perm ok_CR

  ok_N : All IsNode N
  ok_N = All-second IsNode FB N ok_FN

  ok_boxes : All IsNode (B1 ++ (box ∷ B2))
  ok_boxes = subst (All IsNode) all_boxes (boxes_ok p.modulus (loop_value p) S (projector_boxes p) (stubs.even p R new after_is sizes_R colours has) ls)

  ok_B1 : All IsNode B1
  ok_B1 = All-first IsNode B1 (box ∷ B2) ok_boxes

  ok_B2 : All IsNode (box ∷ B2)
  ok_B2 = All-second IsNode B1 (box ∷ B2) ok_boxes

  ok_box : All IsNode (box ∷ [])
  ok_box = All-first IsNode (box ∷ []) B2 ok_B2

  -- the boxes come to the front
  front : (ns : List Node) → All IsNode ns → V (ns ++ CR) ≡ V ((box ∷ (OB ++ ns)) ++ N)
  front ns ok =
      let Z = ns ++ N in
      let okZ : All IsNode Z = All-append IsNode ns N ok ok_N in
      let okB2 : All IsNode B2 = All-tail IsNode box B2 ok_B2 in
      sym (any_order p.modulus (loop_value p) free (ns ++ CR) (ns ++ (FB ++ N)) (All-append IsNode ns CR ok ok_CR) (IsPermutation-append_right ns CR (FB ++ N) perm))
      ∙ runs_exchanged p.modulus (loop_value p) free ns FB N ok (All-first IsNode FB N ok_FN) ok_N
      ∙ ungrouped_value p.modulus (loop_value p) free S st0 R Z sizes_R
      ∙ ap (λ bs. V (bs ++ Z)) all_boxes
      ∙ ap V (append_assoc B1 (box ∷ B2) Z)
      ∙ runs_exchanged p.modulus (loop_value p) free B1 (box ∷ []) (B2 ++ Z) ok_B1 ok_box (All-append IsNode B2 Z okB2 okZ)
      ∙ ap (λ xs. V (box ∷ xs)) (sym (append_assoc B1 B2 Z) ∙ sym (append_assoc OB ns N))

  CR_count : (z : ℕ) → times_in (names_of CR) z ≡ times_in (names_of (box ∷ OB)) z + times_in (names_of N) z
  CR_count z =
      let a = names_permuted z CR (FB ++ N) perm in
      let b = times_of-append z FB N in
      let d : names_of (boxes_of S ls) ≡ names_of FB = ap names_of (sym (ungrouped_boxes S st0 R sizes_R)) ∙ names_of-ungrouped FB in
      let f = ap (λ ns. times_in ns z) d in
      let g = ap (λ bs. times_in (names_of bs) z) all_boxes in
      let h = times_of-append z B1 (box ∷ B2) in
      let i = times_of-append z (box ∷ []) B2 in
      let j = times_of-append z (box ∷ []) OB in
      let k = times_of-append z B1 B2 in
      omega (arith, a, b, f, g, h, i, j, k)

  -- ---- names past those of all labels do not stand there
  low_label : (l : ℕ) → is_member ◌==◌ (crossing_labels R) l ≡ true → l ≤ 2000000
  low_label l m = (let s = numbered.small (2 * l) (stubs.first_there p R new after_is sizes_R colours has l m) in let h : half (2 * l) ≡ l = omega arith in omega (arith, s, h))

  stub_clear : (w z : ℕ) → half w ≤ 2000000 → IsHigh z → times_in (at_stub S w) z ≡ 0
  stub_clear w z l h = zero_of (times_in (at_stub S w) z) (λ one. (let e = numbered.label w z one in let a = h.0 in omega (arith, e, a, l)))
    where
      zero_of : (k : ℕ) → (1 ≤ k → ⊥) → k ≡ 0
      zero_of zero f = refl
      zero_of (suc k) f = absurd (f (omega arith))

  CR_clear : (z : ℕ) → IsHigh z → times_in (names_of CR) z ≡ 0
  CR_clear z h =
      let by_label : (l : ℕ) → l ≤ 2000000 → (times_in (S.first l) z ≡ 0) × (times_in (S.second l) z ≡ 0) =
      λ l low. (
        ap (λ xs. times_in xs z) (sym (stubs.at_low p R new after_is sizes_R colours has l)) ∙ stub_clear (2 * l) z (let q : half (2 * l) ≡ l = omega arith in omega (arith, q, low)) h,
        ap (λ xs. times_in xs z) (sym (stubs.at_high p R new after_is sizes_R colours has l)) ∙ stub_clear (2 * l + 1) z (let q : half (2 * l + 1) ≡ l = omega arith in omega (arith, q, low)) h,
      ) in
      let a = names_permuted z CR (FB ++ N) perm in
      let b = times_of-append z FB N in
      let d : names_of (boxes_of S ls) ≡ names_of FB = ap names_of (sym (ungrouped_boxes S st0 R sizes_R)) ∙ names_of-ungrouped FB in
      let f = ap (λ ns. times_in ns z) d in
      let g = boxes_none S ls z (λ l one. by_label l (low_label l (at_crossing l one))) in
      let n = stub_nodes_times p S [] z h.1 (stubs.few_stubs p R new after_is sizes_R colours has) 1 1 0 lg D (stubs.straight p R new after_is sizes_R colours has) in
      let s = ap (λ ws. stub_sum S ws z) (kept_all 1 D) in
      let t = stub_sum_none S (crossing_labels D) z (λ w one. stub_clear w z (numbered.small w one) h) in
      let u = loops_none S (loop_labels D) z (λ l one. (by_label l (numbered.small_loops l (member_of_times l (loop_labels D) one))).0) in
      omega (arith, a, b, f, g, n, s, t, u)
    where
      at_crossing : (l : ℕ) → 1 ≤ times_in ls l → is_member ◌==◌ (crossing_labels R) l ≡ true
      at_crossing l one = let t = first_labels_times S.boxed [] R l in plain (is_member ◌==◌ (crossing_labels R) l) (S.boxed l) (times_in ls l) t one
        where
          plain : (s t : Bool) (k : ℕ) → k ≡ cond (s && (t && true)) 1 0 → 1 ≤ k → s ≡ true
          plain s t k a b = grind (arith, a, b)

  -- ---- the end of the edge at which the twist begins, and the other
  abbrev side : Sign → ℕ
  side signs.Plus = e
  side signs.Minus = v

  abbrev other : Sign → ℕ
  other signs.Plus = v
  other signs.Minus = e

  side_free : (sg : Sign) → boxed (side sg) ≡ false
  side_free signs.Plus = parts.free_e p items pd e has_e sign colours room after_is has projectors tall unboxed
  side_free signs.Minus = parts.free_v p items pd e has_e sign colours room after_is has projectors tall unboxed

  side_once : (sg : Sign) → times_in (crossing_labels R) (side sg) ≡ 1
  side_once signs.Plus = parts.once_e p items pd e has_e sign colours room after_is has projectors tall unboxed
  side_once signs.Minus = parts.once_v p items pd e has_e sign colours room after_is has projectors tall unboxed

  side_in : (sg : Sign) → is_member ◌==◌ (crossing_labels R) (side sg) ≡ true
  side_in signs.Plus = parts.e_R p items pd e has_e sign colours room after_is has projectors tall unboxed
  side_in signs.Minus = parts.v_R p items pd e has_e sign colours room after_is has projectors tall unboxed

  other_in : (sg : Sign) → is_member ◌==◌ (crossing_labels R) (other sg) ≡ true
  other_in signs.Plus = parts.v_R p items pd e has_e sign colours room after_is has projectors tall unboxed
  other_in signs.Minus = parts.e_R p items pd e has_e sign colours room after_is has projectors tall unboxed

  side_joined : (sg : Sign) → Joined es (side sg) l0
  side_joined signs.Plus = parts.from_e p items pd e has_e sign colours room after_is has projectors tall unboxed
  side_joined signs.Minus = parts.from_v p items pd e has_e sign colours room after_is has projectors tall unboxed

  module _ (k : ℕ) (tall_k : c ≡ suc k) where
    few_k : suc k ≤ 8
    few_k = let t = cables.few_c p items pd e has_e sign colours room after_is has in omega (arith, t, tall_k)

    abbrev g : ℕ
    g = (cables.st2 p items pd e has_e sign colours room after_is has).group

    abbrev i : ℕ
    i = (cables.st2 p items pd e has_e sign colours room after_is has).index

    abbrev E : List ℕ
    E = S.second e

    abbrev W : List ℕ
    W = S.second v

    long_E : length E ≡ suc k
    long_E = cables.long_e p items pd e has_e sign colours room after_is has ∙ tall_k

    long_W : length W ≡ suc k
    long_W = cables.long_v p items pd e has_e sign colours room after_is has ∙ tall_k

    long_M : length M ≡ suc k
    long_M = cables.long_M p items pd e has_e sign colours room after_is has ∙ tall_k

    ok_X1 : All IsNode X1
    ok_X1 = cables.ok_1 p items pd e has_e sign colours room after_is has

    twice : (z : ℕ) → 1 ≤ times_in (names_of (X1 ++ CR)) z → times_in (names_of (X1 ++ CR)) z ≡ 2
    twice = cables.all_twice p items pd e has_e sign colours room after_is has

    abbrev into : List ℕ
    into = curls.strands_in sign E W

    abbrev out : List ℕ
    out = curls.strands_out sign E W

    long_into : length into ≡ suc k
    long_into = curls.long_strands_in (suc k) sign E W long_E long_W

    long_out : length out ≡ suc k
    long_out = curls.long_strands_out (suc k) sign E W long_E long_W

    is_told : IsTold p.modulus (loop_value p) X1 (crossed p.root (inverse_root p) (is_plus sign) 0).straight (crossed p.root (inverse_root p) (is_plus sign) 0).hook into out M (reverse M)
    is_told = curls.told_curl p g i k sign E W M long_E long_W long_M ok_X1

    abbrev Ys : List ℕ
    Ys = reverse out

    abbrev w : ℕ
    w = 2 * side sign

    abbrev A : List ℕ
    A = at_stub S w

    -- the strands that come in are those of the stub, from the other end
    side_second : (sg : Sign) → S.second (side sg) ≡ reverse (at_stub S (2 * side sg))
    side_second sg = sym (stubs.at_high p R new after_is sizes_R colours has (side sg)) ∙ stubs.plain_stubs p R new after_is sizes_R colours has (side sg) (side_free sg)

    into_side : (sg : Sign) → curls.strands_in sg E W ≡ S.second (side sg)
    into_side signs.Plus = refl
    into_side signs.Minus = refl

    out_side : (sg : Sign) → curls.strands_out sg E W ≡ S.second (other sg)
    out_side signs.Plus = refl
    out_side signs.Minus = refl

    into_is : into ≡ reverse A
    into_is = into_side sign ∙ side_second sign

    long_A : length A ≡ suc k
    long_A = sym (length-reverse A) ∙ sym (ap length into_is) ∙ long_into

    stands : 1 ≤ times_in (crossing_labels D) w
    stands = stubs.first_there p R new after_is sizes_R colours has (side sign) (side_in sign)

    same_long : length Ys ≡ length A
    same_long = length-reverse out ∙ long_out ∙ sym long_A

    -- ---- the strands beside the cut diagram
    abbrev K0 : List Node
    K0 = box ∷ (OB ++ arcs_of (zip (reverse A) Ys))

    K0_count : (z : ℕ) → times_in (names_of (K0 ++ N)) z ≡ times_in into z + times_in out z + times_in (names_of CR) z
    K0_count z =
        let a = times_of-append z K0 N in
        let b = times_of-append z (box ∷ OB) (arcs_of (zip (reverse A) Ys)) in
        let d = arcs_times (reverse A) Ys z (same_long ∙ sym (length-reverse A)) in
        let f = CR_count z in
        let h = ap (λ xs. times_in xs z) into_is in
        let r = times-reverse z out in
        omega (arith, a, b, d, f, h, r)

    base_are : AreStubs p S K0 1 1 0 lg D
    base_are = record {
      nodes = All-append IsNode (box ∷ OB) (arcs_of (zip (reverse A) Ys)) (All-cons IsNode box OB (All-head IsNode box B2 ok_B2) (All-append IsNode B1 B2 ok_B1 (All-tail IsNode box B2 ok_B2))) (arcs_ok (zip (reverse A) Ys));
      crossings = ok_N;
      sizes = sizes-stubbed [] R sizes_R;
      straight = stubs.straight p R new after_is sizes_R colours has;
      few = stubs.few_stubs p R new after_is sizes_R colours has;
      once = stubs.once p R new after_is sizes_R colours has;
      loops = stubs.loops p R new after_is sizes_R colours has;
      twice = λ z one.
          let q = K0_count z in
          let two = curls.strands_twice p free k sign into out M few_k long_into long_out long_M X1 CR is_told ok_CR twice z (omega (arith, q, one)) in
          omega (arith, q, two);
    }

    out_clear : (z : ℕ) → IsHigh z → times_in out z ≡ 0
    out_clear z h =
        let q : half (2 * other sign + 1) ≡ other sign = omega arith in
        let low = low_label (other sign) (other_in sign) in
        ap (λ xs. times_in xs z) (out_side sign ∙ sym (stubs.at_high p R new after_is sizes_R colours has (other sign))) ∙ stub_clear (2 * other sign + 1) z (omega (arith, q, low)) h

    into_clear : (z : ℕ) → IsHigh z → times_in into z ≡ 0
    into_clear z h =
        let q : half w ≡ side sign = omega arith in
        let low = low_label (side sign) (side_in sign) in
        ap (λ xs. times_in xs z) into_is ∙ times-reverse z A ∙ stub_clear w z (omega (arith, q, low)) h

    no_high : (z : ℕ) → IsHigh z → times_in (names_of (K0 ++ N)) z ≡ 0
    no_high z h = let q = K0_count z in let a = into_clear z h in let b = out_clear z h in let d = CR_clear z h in omega (arith, q, a, b, d)

    -- ---- the walk
    is_projector : IsProjector p.modulus (loop_value p) (suc k) f0
    is_projector =
        let P : ℕ → ℕ → Type 0 = λ i j. IsProjector p.modulus (loop_value p) i (projector_of p j) in
        let long : length (S.first l0) ≡ suc k = first_length colour boxed (projector_of p) l0 ∙ parts.colour_l0 p items pd e has_e sign colours room after_is has projectors tall unboxed ∙ tall_k in
        let t = boxed_projector p after colours projectors l0 (parts.boxed_l0 p items pd e has_e sign colours room after_is has projectors tall unboxed) in
        subst (λ j. P (suc k) j) (sym long) (subst (λ j. P j j) (parts.colour_l0 p items pd e has_e sign colours room after_is has projectors tall unboxed ∙ tall_k) t)

    long_stub : (x : ℕ) → half x ≡ l0 → length (at_stub S x) ≡ suc k
    long_stub x h = stubs.long p R new after_is sizes_R colours has x ∙ ap colour h ∙ parts.colour_l0 p items pd e has_e sign colours room after_is has projectors tall unboxed ∙ tall_k

    -- the component has no other box
    plain : (l : ℕ) → Joined (strand_edges (halved D)) l0 l → (l ≡ l0) ⊎ (at_stub S (2 * l + 1) ≡ reverse (at_stub S (2 * l)))
    plain l j =
        let P : List Item → Type 0 = λ xs. Joined (strand_edges xs) l0 l in
        ⊎_elim
        (λ b. inl (parts.only_box p items pd e has_e sign colours room after_is has projectors tall unboxed l (subst P (halved_stubbed [] R) j) b))
        (λ b. inr (stubs.plain_stubs p R new after_is sizes_R colours has l b))
        (cases_Bool (boxed l))

    walk : Joined (strand_edges (halved D)) l0 (half w)
    walk =
        let P : List Item → Type 0 = λ xs. Joined (strand_edges xs) l0 (half w) in
        let Q : ℕ → Type 0 = λ y. Joined es l0 y in
        subst P (sym (halved_stubbed [] R)) (subst Q (let q : side sign ≡ half w = omega arith in q) (back (side_joined sign)))

    low_strands : (z : ℕ) → 1 ≤ times_in into z + times_in out z → z < 2 ^ 25
    low_strands z one =
        let of_stub : (y : ℕ) → half y ≤ 2000000 → 1 ≤ times_in (at_stub S y) z → z < 2 ^ 25 = λ y l h. (let q = numbered.label y z h in omega (arith, q, l)) in
        ⊎_elim
        (λ (n : times_in into z ≡ 0).
        let q : half (2 * other sign + 1) ≡ other sign = omega arith in
        let low = low_label (other sign) (other_in sign) in
        let d = ap (λ xs. times_in xs z) (out_side sign ∙ sym (stubs.at_high p R new after_is sizes_R colours has (other sign))) in
        of_stub (2 * other sign + 1) (omega (arith, q, low)) (omega (arith, one, n, d)))
        (λ n.
        let q : half w ≡ side sign = omega arith in
        let low = low_label (side sign) (side_in sign) in
        let d = ap (λ xs. times_in xs z) into_is ∙ times-reverse z A in
        let n1 = n.1 in
        of_stub w (omega (arith, q, low)) (omega (arith, d, n1)))
        (zero_or_some (times_in into z))

    curl_there : V (X1 ++ CR) ≡ curl_twist p (suc k) sign * V (arcs_of (zip into (reverse out)) ++ CR) % p.modulus
    curl_there =
        curl_at_stub p free k sign into out M few_k long_into long_out long_M X1 CR is_told ok_CR twice S D lg numbered l0 f0 is_projector long_stub OB w stands
        (stubs.alone p R new after_is sizes_R colours has (side sign) (side_once sign)) walk plain into_is base_are no_high
        (λ z h. (let a = into_clear z h in let b = out_clear z h in let d = CR_clear z h in omega (arith, a, b, d))) low_strands (λ ns ok low. front ns ok)

    -- ---- the arcs
    abbrev Pe : Bool → List (ℕ × ℕ)
    Pe = cables.Pe p items pd e has_e sign colours room after_is has

    arcs_are : (sg : Sign) → curl_pairs sg E W ≡ Pe (is_plus sg)
    arcs_are signs.Plus =
        ap₂ (λ xs ys. zip xs (reverse ys)) (cables.second_e p items pd e has_e sign colours room after_is has) (cables.second_v p items pd e has_e sign colours room after_is has)
        ∙ ap (zip (second_names c (is_boxed after colours e) e)) (reverse-reverse (first_names c v))
    arcs_are signs.Minus = ap₂ (λ xs ys. zip xs (reverse ys)) (cables.second_v p items pd e has_e sign colours room after_is has) (cables.second_e p items pd e has_e sign colours room after_is has)

    pairs_are : (sg : Sign) → zip (curls.strands_in sg E W) (reverse (curls.strands_out sg E W)) ≡ curl_pairs sg E W
    pairs_are signs.Plus = refl
    pairs_are signs.Minus = refl

    pub tall_edge : coloured p after colours ≡ curl_twist p c sign * coloured p items colours % p.modulus
    tall_edge =
        cables.curled_coloured p items pd e has_e sign colours room after_is has (curl_twist p c sign) (is_plus sign)
        (curl_there
        ∙ ap₂ (λ j ps. curl_twist p j sign * V (arcs_of ps ++ CR) % p.modulus) (sym tall_k) (pairs_are sign ∙ arcs_are sign))

  -- A CURL ON AN EDGE WITHOUT A BOX
  pub boxless_edge : coloured p after colours ≡ curl_twist p c sign * coloured p items colours % p.modulus
  boxless_edge = tall_edge (c - 1) (omega (arith, tall))
