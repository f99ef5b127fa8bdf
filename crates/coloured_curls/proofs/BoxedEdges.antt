-- Curl on the edge that has its component's box: the box is beside the new crossing, so the crossing is its factor times the strands, which close to
-- the edge from before.
use Rattle.std.proofs.Common.{◌≡◌, ℕ, suc, ◌+◌, ◌-◌, ◌*◌, ◌%◌, ◌≤◌, ◌==◌, ◌&&◌, nat_le, Bool, true, cond, List, [], ◌∷◌, ◌++◌, map, length, reverse, sym, ap, ap₂, ◌∙◌, arith, ⊎_elim, All, subst, append_assoc}
use Rattle.std.specs.List.{AllByRecursion, zip}
use Rattle.std.specs.List.Sorted.{IsPermutation}
use Rattle.std.specs.Set.{is_member}
use Rattle.std.proofs.lemmas.Bool.{eqb-true, or_cases}
use Rattle.std.proofs.lemmas.Bool.Decides.{nat_tests}
use Rattle.std.proofs.lemmas.List.{map-append, reverse-reverse}
use Rattle.std.proofs.lemmas.List.Elements.{All-append, All-map}
use Rattle.std.proofs.lemmas.List.Sorted.{All-permutation, IsPermutation-refl, IsPermutation-trans, IsPermutation-map, IsPermutation-append_right}
use Rattle.list_lemmas.specs.Times.{times_in}
use Rattle.list_lemmas.proofs.Times.{member_of_times, times_of_member}
use Rattle.state_sums.specs.Networks.{Node, IsNode, names_of}
use Rattle.state_sums.specs.StateSums.{value}
use Rattle.state_sums.proofs.NetworkLaws.{any_order}
use Rattle.piece_laws.specs.Arcs.{arcs_of}
use Rattle.piece_laws.specs.TurnedNodes.{without_group}
use Rattle.piece_laws.proofs.Ungrouped.{groups}
use Rattle.root_quantum.specs.Parameters.{Parameters}
use Rattle.root_quantum.specs.QuantumNumbers.{loop_value}
use Rattle.strand_algebra.specs.Projectors.{IsProjector}
use Rattle.pd_reader.specs.declared.item.Item.{Item}
use Rattle.pd_reader.specs.Items.{HasItsSlots}
use Rattle.pd_reader.specs.Diagrams.{IsDiagram}
use Rattle.planar_check.specs.Components.{component_least}
use Rattle.planar_check.specs.declared.sign.Sign.{Sign}
use Rattle.planar_check.specs.declared.sign.Sign.TheVariants as signs
use Rattle.cables.specs.CableNodes.{box_node}
use Rattle.cables.specs.Cables.{start, as_net}
use Rattle.cables.specs.Nets.{HasProjector, projector_of}
use Rattle.cables.specs.Strands.{Strands, first_names, second_names}
use Rattle.cables.proofs.NameCounts.{times_of-append}
use Rattle.cables.proofs.NumberedStrands.{first_length}
use Rattle.coloured_values.specs.Coloured.{colour_of, is_boxed, coloured}
use Rattle.coloured_values.specs.Laws.{HasColours}
use Rattle.diagram_moves.specs.Laws.{IsPairedDiagram}
use Rattle.diagram_moves.specs.Rewriting.{crossing_labels, fresh}
use Rattle.diagram_moves.specs.Moves.{second_place}
use Rattle.diagram_moves.proofs.Curling.{label, is_plus, sizes-curled}
use Rattle.diagram_moves.proofs.PlaceLemmas.{one_place, sizes-at_places, second_place_of, fresh_above, times_one_place, crossing_labels-at_places}
use Rattle.diagram_moves.proofs.Paired.{paired}
use Rattle.diagram_moves.proofs.Pushing.{crossing_label}
use Rattle.move_results.proofs.CurledComponents.{curled_contracts, curled_components}
use Rattle.cable_crossings.proofs.CabledBigon.{names_of-ungrouped, ungrouped_twice}
use Rattle.cable_crossings.proofs.ManyArcs.{arcs_ok}
use Rattle.cable_crossings.proofs.StepPieces.{All-second}
use Rattle.coloured_moves.proofs.ColouredSlides.{boxed_projector}
use Rattle.coloured_moves.proofs.CurledCables as cables
use Rattle.coloured_moves.proofs.CurledStrands.{curl_twist}
use Rattle.coloured_moves.proofs.SameComponents.{contracted_boxed}
use Rattle.coloured_moves.proofs.StubItems.{boxes_of, first_boxes, first_labels, first_labels_times, moved_out, split, stub_nodes, stubbed, ungrouped_boxes}
use Rattle.coloured_moves.proofs.TurnedBoxes.{names_permuted}
use Rattle.coloured_curls.proofs.BoxedCurls.{boxed_curl, curl_pairs}

abbrev U : List Node → List Node
U = map without_group

-- ---- a member of a list stands between two parts of it
pub split_at : (xs : List ℕ) (x : ℕ) → is_member ◌==◌ xs x ≡ true → (before : List ℕ) × (after : List ℕ) × (xs ≡ before ++ x ∷ after)
split_at [] x m = absurd (grind (arith, m))
split_at (y ∷ ys) x m =
    ⊎_elim (λ t. ([], ys, ap (λ z. z ∷ ys) (sym (eqb-true x y t)))) (λ t. (let r = split_at ys x t in (y ∷ r.0, r.1, ap (λ zs. y ∷ zs) r.2))) (or_cases (x == y) (is_member ◌==◌ ys x) m)

-- ---- nodes behind others, in another order and with other groups
module _ (m delta free : ℕ) (K A B : List Node) (okK : All IsNode K) (okA : All IsNode A) (perm : IsPermutation (U A) B) where
  abbrev V : List Node → ℕ
  V ns = value m delta record { nodes = ns; free_loops = free }

  okU : All IsNode (U A)
  okU = All-map IsNode without_group A okA

  pub permuted_ok : All IsNode B
  permuted_ok = All-permutation IsNode (U A) B perm okU

  pub behind_permuted : V (K ++ A) ≡ V (K ++ B)
  behind_permuted =
      (groups delta free (K ++ A) (K ++ U A) (map-append without_group K A ∙ ap (λ ns. U K ++ ns) (sym (ungrouped_twice A)) ∙ sym (map-append without_group K (U A)))).values m
      ∙ sym (any_order m delta free (K ++ U A) (K ++ B) (All-append IsNode K (U A) okK okU) (IsPermutation-append_right K (U A) B perm))

  pub permuted_times : (z : ℕ) → times_in (names_of (K ++ A)) z ≡ times_in (names_of (K ++ B)) z
  permuted_times z =
      let p = times_of-append z K A in
      let q = times_of-append z K B in
      let e = ap (λ ns. times_in ns z) (names_of-ungrouped A) in
      let t = names_permuted z (U A) B perm in
      omega (arith, p, q, e, t)

module _ (p : Parameters) (items : List Item) (pd : IsPairedDiagram items) (e : ℕ) (has_e : is_member ◌==◌ (crossing_labels items) e ≡ true) (sign : Sign)
    (colours : List ℕ) (room : fresh items + 3 ≤ 2000000) (after_is : IsDiagram (cables.after p items pd e has_e sign colours room)) (has : HasColours (cables.after p items pd e has_e sign colours room) colours)
    (projectors : AllByRecursion (HasProjector p) colours) (boxed : is_boxed items colours e ≡ true) where
  abbrev after : List Item
  after = cables.after p items pd e has_e sign colours room

  abbrev R : List Item
  R = cables.R p items pd e has_e sign colours room

  abbrev S : Strands
  S = cables.S p items pd e has_e sign colours room after_is has

  abbrev c : ℕ
  c = colour_of items colours e

  abbrev CR : List Node
  CR = cables.CR p items pd e has_e sign colours room after_is has

  abbrev X1 : List Node
  X1 = cables.X1 p items pd e has_e sign colours room after_is has

  abbrev free : ℕ
  free = cables.free p items pd e has_e sign colours room after_is has

  abbrev v : ℕ
  v = cables.v p items pd e has_e sign colours room

  abbrev M : List ℕ
  M = cables.M p items pd e has_e sign colours room after_is has

  abbrev W : List Node → ℕ
  W ns = value p.modulus (loop_value p) record { nodes = ns; free_loops = free }

  boxed_after : is_boxed after colours e ≡ true
  boxed_after =
      contracted_boxed after items (label items pd e has_e sign) (curled_contracts items pd e has_e sign) (sizes-curled items pd e has_e sign) pd.sizes (curled_components items pd e has_e sign) colours e (crossing_label items e has_e)
      ∙ boxed

  two : 2 ≤ c
  two = plain c (component_least items e == e) boxed
    where
      plain : (k : ℕ) (t : Bool) → (nat_le 2 k && t) ≡ true → 2 ≤ k
      plain k t h = grind (arith, nat_tests, h)

  long_first : length (S.first e) ≡ c
  long_first =
      first_length (colour_of after colours) (is_boxed after colours) (projector_of p) e
      ∙ sym (cables.second_long p items pd e has_e sign colours room after_is has e)
      ∙ cables.long_e p items pd e has_e sign colours room after_is has

  sizes_R : AllByRecursion HasItsSlots R
  sizes_R = sizes-at_places (one_place (second_place items e) v) 0 items pd.sizes

  -- the edge is still there
  e_R : is_member ◌==◌ (crossing_labels R) e ≡ true
  e_R =
      let se = second_place_of items e has_e in
      let low = fresh_above items e (crossing_label items e has_e) in
      let t = times_one_place (crossing_labels items) (second_place items e) v e e se.0 se.1 in
      let same = ap (λ ns. times_in ns e) (crossing_labels-at_places (one_place (second_place items e) v) 0 items) in
      let w = paired items pd e (times_of_member e (crossing_labels items) has_e) in
      member_of_times e (crossing_labels R) (plain (times_in (crossing_labels R) e) (times_in (crossing_labels items) e) e v (omega (arith, t, same)) w)
    where
      plain : (t k e v : ℕ) → t + cond (e == e) 1 0 ≡ k + cond (e == v) 1 0 → k ≡ 2 → 1 ≤ t
      plain t k e v h w = grind (arith, nat_tests, h, w)

  -- ---- the box of the edge comes to the front
  abbrev ls : List ℕ
  ls = first_labels S.boxed [] R

  e_first : is_member ◌==◌ ls e ≡ true
  e_first =
      let t = first_labels_times S.boxed [] R e in
      member_of_times e ls (plain (is_member ◌==◌ (crossing_labels R) e) (S.boxed e) (times_in ls e) e_R boxed_after t)
    where
      plain : (s t : Bool) (k : ℕ) → s ≡ true → t ≡ true → k ≡ cond (s && (t && true)) 1 0 → 1 ≤ k
      plain s t k a b h = grind (arith, a, b, h)

  parts : (before : List ℕ) × (behind : List ℕ) × (ls ≡ before ++ e ∷ behind)
  parts = split_at ls e e_first

  abbrev box_e : Node
  box_e = box_node 0 (S.box (length (S.first e))) (S.first e) (S.second e)

  abbrev stubs_of : List Node
  stubs_of = U (stub_nodes p S [] 1 (start (as_net after)).group (start (as_net after)).index (start (as_net after)).loop_group (stubbed [] R))

  abbrev others : List Node
  others = boxes_of S parts.0 ++ (boxes_of S parts.1 ++ stubs_of)

  perm : IsPermutation (U CR) (box_e ∷ others)
  perm =
      let st = start (as_net after) in
      let boxes = first_boxes S st R in
      let sn = stub_nodes p S [] 1 st.group st.index st.loop_group (stubbed [] R) in
      let P : List Node → Type 0 = λ ns. IsPermutation (U CR) ns in
      let lists : U boxes ++ stubs_of ≡ boxes_of S parts.0 ++ (box_e ∷ (boxes_of S parts.1 ++ stubs_of)) =
      ap (λ ns. ns ++ stubs_of) (ungrouped_boxes S st R sizes_R ∙ ap (boxes_of S) parts.2 ∙ map-append (λ l. box_node 0 (S.box (length (S.first l))) (S.first l) (S.second l)) parts.0 (e ∷ parts.1))
      ∙ append_assoc (boxes_of S parts.0) (box_e ∷ boxes_of S parts.1) stubs_of in
      IsPermutation-trans (U CR) (boxes_of S parts.0 ++ (box_e ∷ (boxes_of S parts.1 ++ stubs_of))) (box_e ∷ others)
      (subst P (map-append without_group boxes sn ∙ lists) (IsPermutation-map without_group CR (boxes ++ sn) (split p S R st 1 sizes_R)))
      (moved_out (boxes_of S parts.0) (box_e ∷ []) (box_e ∷ (boxes_of S parts.1 ++ stubs_of)) (boxes_of S parts.1 ++ stubs_of) (IsPermutation-refl (box_e ∷ (boxes_of S parts.1 ++ stubs_of))))

  ok_R : All IsNode CR
  ok_R = cables.ok_R p items pd e has_e sign colours room after_is has

  ok_1 : All IsNode X1
  ok_1 = cables.ok_1 p items pd e has_e sign colours room after_is has

  ok_others : All IsNode others
  ok_others = All-second IsNode (box_e ∷ []) others (permuted_ok p.modulus (loop_value p) free [] CR (box_e ∷ others) (λ i d l. absurd (omega (arith, l))) ok_R perm)

  twice : (z : ℕ) → 1 ≤ times_in (names_of (X1 ++ (box_e ∷ others))) z → times_in (names_of (X1 ++ (box_e ∷ others))) z ≡ 2
  twice z one =
      let t = permuted_times p.modulus (loop_value p) free X1 CR (box_e ∷ others) ok_1 ok_R perm z in
      let k = cables.all_twice p items pd e has_e sign colours room after_is has z (omega (arith, t, one)) in
      omega (arith, t, k)

  -- ---- the arcs
  abbrev Pe : Bool → List (ℕ × ℕ)
  Pe = cables.Pe p items pd e has_e sign colours room after_is has

  arcs_are : (sg : Sign) → curl_pairs sg (S.second e) (S.second v) ≡ Pe (is_plus sg)
  arcs_are signs.Plus =
      ap₂ (λ xs ys. zip xs (reverse ys)) (cables.second_e p items pd e has_e sign colours room after_is has) (cables.second_v p items pd e has_e sign colours room after_is has)
      ∙ ap (zip (second_names c (is_boxed after colours e) e)) (reverse-reverse (first_names c v))
  arcs_are signs.Minus = ap₂ (λ xs ys. zip xs (reverse ys)) (cables.second_v p items pd e has_e sign colours room after_is has) (cables.second_e p items pd e has_e sign colours room after_is has)

  module _ (k : ℕ) (tall : c ≡ suc k) where
    few_k : suc k ≤ 8
    few_k = let t = cables.few_c p items pd e has_e sign colours room after_is has in omega (arith, t, tall)

    is_projector : IsProjector p.modulus (loop_value p) (suc k) (S.box (length (S.first e)))
    is_projector =
        let P : ℕ → ℕ → Type 0 = λ i j. IsProjector p.modulus (loop_value p) i (projector_of p j) in
        subst (λ j. P (suc k) j) (sym (long_first ∙ tall)) (subst (λ j. P j j) tall (boxed_projector p items colours projectors e boxed))

    beside : W (X1 ++ (box_e ∷ others)) ≡ curl_twist p (suc k) sign * W (arcs_of (curl_pairs sign (S.second e) (S.second v)) ++ (box_e ∷ others)) % p.modulus
    beside =
        boxed_curl p free (cables.st2 p items pd e has_e sign colours room after_is has).group (cables.st2 p items pd e has_e sign colours room after_is has).index k sign (S.second e) (S.second v) M (S.first e) 0 few_k
        (cables.long_e p items pd e has_e sign colours room after_is has ∙ tall) (cables.long_v p items pd e has_e sign colours room after_is has ∙ tall) (cables.long_M p items pd e has_e sign colours room after_is has ∙ tall) (long_first ∙ tall)
        (S.box (length (S.first e))) is_projector others ok_1 ok_others twice

    pub tall_edge : coloured p after colours ≡ curl_twist p c sign * coloured p items colours % p.modulus
    tall_edge =
        cables.curled_coloured p items pd e has_e sign colours room after_is has (curl_twist p c sign) (is_plus sign)
        (behind_permuted p.modulus (loop_value p) free X1 CR (box_e ∷ others) ok_1 ok_R perm
        ∙ beside
        ∙ ap₂ (λ j es. curl_twist p j sign * W (arcs_of es ++ (box_e ∷ others)) % p.modulus) (sym tall) (arcs_are sign)
        ∙ ap (λ j. curl_twist p c sign * j % p.modulus) (sym (behind_permuted p.modulus (loop_value p) free (arcs_of (Pe (is_plus sign))) CR (box_e ∷ others) (arcs_ok (Pe (is_plus sign))) ok_R perm)))

  -- A CURL ON THE EDGE WITH THE BOX
  pub boxed_edge : coloured p after colours ≡ curl_twist p c sign * coloured p items colours % p.modulus
  boxed_edge = tall_edge (c - 1) (let t = two in omega (arith, t))
