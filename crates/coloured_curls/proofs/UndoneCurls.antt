-- CurlUndo on a component of any colour multiplies the coloured value by mu_n to the power of the factor's curl: the crossing that goes counts as mu_n to the
-- power of the curl that it is times the strands. Where the strands come in at the component's box it absorbs the twist; else the twist walks to it.
use Rattle.std.proofs.Common.{◌≡◌, ℕ, zero, suc, ◌+◌, ◌*◌, ◌%◌, ◌<◌, ◌≤◌, ◌==◌, ◌&&◌, Bool, true, false, cond, List, [], ◌∷◌, ◌++◌, length, reverse, Some, refl, sym, ap, ap₂, ◌∙◌, arith, ⊎_elim, All, subst, append_assoc}
use Rattle.std.specs.List.{zip}
use Rattle.std.specs.Set.{is_member}
use Rattle.std.proofs.lemmas.Bool.{cases_Bool}
use Rattle.std.proofs.lemmas.Bool.Decides.{nat_tests}
use Rattle.std.proofs.lemmas.List.{map-append}
use Rattle.std.proofs.lemmas.List.Elements.{All-append, All-cons, All-head, All-nil, All-tail}
use Rattle.list_lemmas.specs.Times.{times_in}
use Rattle.list_lemmas.proofs.Times.{member_of_times, times_in-append}
use Rattle.state_sums.specs.Networks.{Node, Term, IsNode, names_of}
use Rattle.state_sums.specs.StateSums.{value}
use Rattle.root_quantum.specs.Parameters.{Parameters}
use Rattle.root_quantum.specs.QuantumNumbers.{inverse_root, loop_value}
use Rattle.strand_algebra.specs.Projectors.{IsProjector}
use Rattle.piece_laws.specs.Arcs.{arcs_of}
use Rattle.strand_words.specs.Grids.{crossed}
use Rattle.pd_reader.specs.declared.item.Item.{Item}
use Rattle.pd_reader.specs.Diagrams.{IsDiagram}
use Rattle.planar_check.specs.declared.sign.Sign.{Sign}
use Rattle.cables.specs.CableNodes.{box_node}
use Rattle.cables.specs.Nets.{HasProjector, projector_of}
use Rattle.cables.specs.Strands.{Strands}
use Rattle.cables.proofs.NameCounts.{times_of-append}
use Rattle.cables.proofs.NumberedStrands.{first_length}
use Rattle.cables.proofs.ProjectorBoxes.{projector_boxes}
use Rattle.coloured_values.specs.Coloured.{colour_of, is_boxed}
use Rattle.coloured_values.specs.Laws.{HasColours}
use Rattle.diagram_moves.specs.Moves.{is_curl}
use Rattle.diagram_moves.specs.Rewriting.{slot, crossing_at, crossing_labels}
use Rattle.diagram_moves.proofs.Curling.{is_plus}
use Rattle.cable_crossings.proofs.BundleTurns.{runs_exchanged}
use Rattle.cable_crossings.proofs.CrossingSteps.{crossing_nodes}
use Rattle.cable_crossings.proofs.ManyArcs.{arcs_ok}
use Rattle.cable_crossings.proofs.StepPieces.{All-first, All-second}
use Rattle.coloured_moves.proofs.CurledStrands.{curl_twist, no_twist}
use Rattle.coloured_moves.proofs.StubItems.{half, boxes_of, first_labels_times}
use Rattle.coloured_moves.proofs.TurnedBoxes.{box_ok, boxes_ok}
use Rattle.coloured_curls.proofs.AbsorbedTwists.{once}
use Rattle.coloured_curls.proofs.BoxedCurls.{boxed_into}
use Rattle.coloured_curls.proofs.BoxedEdges.{split_at}
use Rattle.coloured_curls.proofs.BoxedLoops.{half_turned}
use Rattle.coloured_curls.proofs.CurlTwists as curls
use Rattle.coloured_curls.proofs.UncurledWalks as walks
use Rattle.coloured_curls.proofs.UndoneBundles as b
use Rattle.coloured_curls.proofs.UndoneBundles.{sign_at}
use Rattle.coloured_curls.proofs.UndoneWalks.{walked}
use Rattle.cables.proofs.NameCounts.{at}
use Rattle.cable_crossings.proofs.ToldCrossings.{IsTold}
use Rattle.std.proofs.Math.Nat.{pow-zero}

no_names : (xs : List ℕ) → length xs ≡ 0 → xs ≡ []
no_names [] h = refl
no_names (x ∷ xs) h = absurd (omega (arith, h))

module _ (p : Parameters) (items : List Item) (is : IsDiagram items) (c : ℕ) (here : List ℕ) (found : crossing_at items c ≡ Some here) (s : ℕ) (low_s : s < 4) (test : is_curl here s ≡ true) (colours : List ℕ) (has : HasColours items colours)
    (projectors : (l : ℕ) → is_boxed items colours l ≡ true → HasProjector p (colour_of items colours l)) (free_x : is_boxed items colours (slot here s) ≡ false) where
  abbrev S : Strands
  S = b.S p items is c here found s low_s test colours has projectors free_x

  abbrev colour : ℕ → ℕ
  colour l = colour_of items colours l

  abbrev boxed : ℕ → Bool
  boxed l = is_boxed items colours l

  abbrev n : ℕ
  n = colour (slot here s)

  abbrev sign : Sign
  sign = sign_at s

  abbrev free : ℕ
  free = b.free p items is c here found s low_s test colours has projectors free_x

  abbrev W : List Node → ℕ
  W ns = value p.modulus (loop_value p) record { nodes = ns; free_loops = free }

  abbrev X1 : List Node
  X1 = b.X1 p items is c here found s low_s test colours has projectors free_x

  abbrev rest : List Node
  rest = b.rest p items is c here found s low_s test colours has projectors free_x

  abbrev into : List ℕ
  into = b.into p items is c here found s low_s test colours has projectors free_x

  abbrev out : List ℕ
  out = b.out p items is c here found s low_s test colours has projectors free_x

  abbrev M : List ℕ
  M = b.M p items is c here found s low_s test colours has projectors free_x

  abbrev arcs : List Node
  arcs = arcs_of (zip into (reverse out))

  ok_arcs : All IsNode arcs
  ok_arcs = arcs_ok (zip into (reverse out))

  abbrev x : ℕ
  x = (crossed p.root (inverse_root p) (is_plus sign) 0).straight

  abbrev y : ℕ
  y = (crossed p.root (inverse_root p) (is_plus sign) 0).hook

  abbrev is_told : IsTold p.modulus (loop_value p) X1 x y into out M (reverse M)
  is_told = b.told p items is c here found s low_s test colours has projectors free_x

  -- ---- no strand
  none : n ≡ 0 → W (X1 ++ rest) ≡ curl_twist p 0 sign * W (arcs ++ rest) % p.modulus
  none h =
      let empty : into ≡ [] = no_names into ((b.long_into p items is c here found s low_s test colours has projectors free_x) ∙ h) in
      is_told.same free rest (b.ok_rest p items is c here found s low_s test colours has projectors free_x)
      ∙ ap₂ (λ i j. W (crossing_nodes x y is_told.v is_told.h i j ++ rest)) ((b.long_out p items is c here found s low_s test colours has projectors free_x) ∙ h) ((b.long_into p items is c here found s low_s test colours has projectors free_x) ∙ h)
      ∙ sym
      (ap₂ (λ k xs. k * W (arcs_of (zip xs (reverse out)) ++ rest) % p.modulus) (no_twist p sign) empty
      ∙ once p.modulus (loop_value p) free rest)

  -- ---- one strand has no twist
  one_strand : n ≡ 1 → W (X1 ++ rest) ≡ curl_twist p 1 sign * W (arcs ++ rest) % p.modulus
  one_strand h =
      let Z = W (arcs ++ rest) in
      (curls.curl_counts p free zero sign into out M (omega arith) ((b.long_into p items is c here found s low_s test colours has projectors free_x) ∙ h) ((b.long_out p items is c here found s low_s test colours has projectors free_x) ∙ h) ((b.long_M p items is c here found s low_s test colours has projectors free_x) ∙ h) X1 rest is_told (b.ok_rest p items is c here found s low_s test colours has projectors free_x) (b.twice p items is c here found s low_s test colours has projectors free_x)) Z
      (ap (λ ns. W (ns ++ rest)) ((curls.A_is p free zero sign into out M (omega arith) ((b.long_into p items is c here found s low_s test colours has projectors free_x) ∙ h) ((b.long_out p items is c here found s low_s test colours has projectors free_x) ∙ h) ((b.long_M p items is c here found s low_s test colours has projectors free_x) ∙ h) X1 rest is_told (b.ok_rest p items is c here found s low_s test colours has projectors free_x) (b.twice p items is c here found s low_s test colours has projectors free_x)) ∙ ap₂ (λ xs ys. arcs_of (zip xs ys)) (curls.into_list p free zero sign into out M (omega arith) ((b.long_into p items is c here found s low_s test colours has projectors free_x) ∙ h) ((b.long_out p items is c here found s low_s test colours has projectors free_x) ∙ h) ((b.long_M p items is c here found s low_s test colours has projectors free_x) ∙ h) X1 rest is_told (b.ok_rest p items is c here found s low_s test colours has projectors free_x) (b.twice p items is c here found s low_s test colours has projectors free_x)) (curls.leaves_list p free zero sign into out M (omega arith) ((b.long_into p items is c here found s low_s test colours has projectors free_x) ∙ h) ((b.long_out p items is c here found s low_s test colours has projectors free_x) ∙ h) ((b.long_M p items is c here found s low_s test colours has projectors free_x) ∙ h) X1 rest is_told (b.ok_rest p items is c here found s low_s test colours has projectors free_x) (b.twice p items is c here found s low_s test colours has projectors free_x)))
      ∙ sym (ap (λ j. j * Z % p.modulus) (pow-zero x) ∙ once p.modulus (loop_value p) free (arcs ++ rest)))

  -- ---- some strands
  module _ (k : ℕ) (tall_k : n ≡ suc k) where
    few_k : suc k ≤ 8
    few_k = let a = (b.few p items is c here found s low_s test colours has projectors free_x) (slot here s) in omega (arith, a, tall_k)

    long_into : length into ≡ suc k
    long_into = (b.long_into p items is c here found s low_s test colours has projectors free_x) ∙ tall_k

    long_out : length out ≡ suc k
    long_out = (b.long_out p items is c here found s low_s test colours has projectors free_x) ∙ tall_k

    long_M : length M ≡ suc k
    long_M = (b.long_M p items is c here found s low_s test colours has projectors free_x) ∙ tall_k

    -- ---- the strands come in at the box
    module _ (boxed_a : boxed (slot here (s + 2)) ≡ true) where
      abbrev u : ℕ
      u = b.u p items is c here found s low_s test colours has projectors free_x

      abbrev a : ℕ
      a = half u

      boxed_u : boxed a ≡ true
      boxed_u = ap boxed (b.half_u p items is c here found s low_s test colours has projectors free_x) ∙ boxed_a

      colour_a : colour a ≡ suc k
      colour_a = (b.colour_u p items is c here found s low_s test colours has projectors free_x) ∙ tall_k

      abbrev L : List ℕ
      L = b.L p items is c here found s low_s test colours has projectors free_x

      abbrev first : List ℕ
      first = S.first a

      abbrev second : List ℕ
      second = S.second a

      abbrev f0 : List Term
      f0 = S.box (length first)

      long_first : length first ≡ suc k
      long_first = first_length colour boxed (projector_of p) a ∙ colour_a

      long_second : length second ≡ suc k
      long_second = (b.even p items is c here found s low_s test colours has projectors free_x) a ∙ long_first

      is_projector : IsProjector p.modulus (loop_value p) (suc k) f0
      is_projector =
          let P : ℕ → ℕ → Type 0 = λ i j. IsProjector p.modulus (loop_value p) i (projector_of p j) in
          subst (λ j. P (suc k) j) (sym long_first) (subst (λ j. P j j) colour_a (projectors a boxed_u))

      a_first : is_member ◌==◌ L a ≡ true
      a_first =
          let t = first_labels_times boxed [] items a in
          member_of_times a L (plain (is_member ◌==◌ (crossing_labels items) a) (boxed a) (times_in L a) a_in boxed_u t)
        where
          plain : (s t : Bool) (k : ℕ) → s ≡ true → t ≡ true → k ≡ cond (s && (t && true)) 1 0 → 1 ≤ k
          plain s t k a b h = grind (arith, a, b, h)

          a_in : is_member ◌==◌ (crossing_labels items) a ≡ true
          a_in =
              ap (is_member ◌==◌ (crossing_labels items)) (b.half_u p items is c here found s low_s test colours has projectors free_x)
              ∙ member_of_times (slot here (s + 2)) (crossing_labels items)
              (let t = walks.counted items (b.pd p items is c here found s low_s test colours has projectors free_x) c here found s low_s test (slot here (s + 2)) in
              let o : at (slot here (s + 2)) (slot here (s + 2)) ≡ 1 = grind (arith, nat_tests) in
              omega (arith, t, o))

      sides : (before : List ℕ) × (behind : List ℕ) × (L ≡ before ++ a ∷ behind)
      sides = split_at L a a_first

      abbrev B1 : List Node
      B1 = boxes_of S sides.0

      abbrev B2 : List Node
      B2 = boxes_of S sides.1

      abbrev box : Node
      box = box_node 0 f0 first second

      abbrev CB : List Node
      CB = b.CB p items is c here found s low_s test colours has projectors free_x

      abbrev Q : List Node
      Q = B1 ++ (B2 ++ CB)

      all_boxes : boxes_of S L ≡ B1 ++ (box ∷ B2)
      all_boxes = ap (boxes_of S) sides.2 ∙ map-append (λ l. box_node 0 (S.box (length (S.first l))) (S.first l) (S.second l)) sides.0 (a ∷ sides.1)

      ok_boxes : All IsNode (B1 ++ (box ∷ B2))
      ok_boxes = subst (All IsNode) all_boxes (boxes_ok p.modulus (loop_value p) S (projector_boxes p) (b.even p items is c here found s low_s test colours has projectors free_x) L)

      ok_B1 : All IsNode B1
      ok_B1 = All-first IsNode B1 (box ∷ B2) ok_boxes

      ok_B2 : All IsNode (box ∷ B2)
      ok_B2 = All-second IsNode B1 (box ∷ B2) ok_boxes

      ok_CB : All IsNode CB
      ok_CB = All-second IsNode (boxes_of S L) CB (b.ok_rest p items is c here found s low_s test colours has projectors free_x)

      ok_tail : All IsNode (B2 ++ CB)
      ok_tail = All-append IsNode B2 CB (All-tail IsNode box B2 ok_B2) ok_CB

      ok_Q : All IsNode Q
      ok_Q = All-append IsNode B1 (B2 ++ CB) ok_B1 ok_tail

      ok_box : IsNode box
      ok_box = All-head IsNode box B2 ok_B2

      one_box : All IsNode (box ∷ [])
      one_box = All-cons IsNode box [] ok_box (All-nil IsNode)

      ok_turned : IsNode (box_node 0 f0 second first)
      ok_turned = box_ok p.modulus (projector_of p) (projector_boxes p) 0 (length first) second first ((b.even p items is c here found s low_s test colours has projectors free_x) a) refl

      -- the box comes to the front of the others
      to_box : (ns : List Node) → All IsNode ns → W (ns ++ rest) ≡ W (ns ++ (box ∷ Q))
      to_box ns ok =
          ap (λ bs. W (ns ++ (bs ++ CB))) all_boxes
          ∙ ap (λ xs. W (ns ++ xs)) (append_assoc B1 (box ∷ B2) CB)
          ∙ ap W (sym (append_assoc ns B1 (box ∷ (B2 ++ CB))))
          ∙ runs_exchanged p.modulus (loop_value p) free (ns ++ B1) (box ∷ []) (B2 ++ CB) (All-append IsNode ns B1 ok ok_B1) one_box ok_tail
          ∙ ap (λ xs. W (box ∷ xs)) (append_assoc ns B1 (B2 ++ CB))
          ∙ runs_exchanged p.modulus (loop_value p) free (box ∷ []) ns Q one_box ok ok_Q

      rest_count : (z : ℕ) → times_in (names_of rest) z ≡ times_in first z + times_in second z + times_in (names_of Q) z
      rest_count z =
          let t = times_of-append z (boxes_of S L) CB in
          let g = ap (λ bs. times_in (names_of bs) z) all_boxes in
          let h = times_of-append z B1 (box ∷ B2) in
          let i = times_in-append (first ++ second) (names_of B2) z in
          let j = times_in-append first second z in
          let q = times_of-append z B1 (B2 ++ CB) in
          let r = times_of-append z B2 CB in
          omega (arith, t, g, h, i, j, q, r)

      twice_beside : (F E : List ℕ) → ((z : ℕ) → times_in F z + times_in E z ≡ times_in first z + times_in second z) → (z : ℕ) →
          1 ≤ times_in (names_of (X1 ++ (box_node 0 f0 F E ∷ Q))) z → times_in (names_of (X1 ++ (box_node 0 f0 F E ∷ Q))) z ≡ 2
      twice_beside F E same z one =
          let a = times_of-append z X1 (box_node 0 f0 F E ∷ Q) in
          let d = times_in-append (F ++ E) (names_of Q) z in
          let e = times_in-append F E z in
          let h = same z in
          let i = rest_count z in
          let j = times_of-append z X1 rest in
          let two = (b.twice p items is c here found s low_s test colours has projectors free_x) z (omega (arith, a, d, e, h, i, j, one)) in
          omega (arith, a, d, e, h, i, j, two)

      at_side : (t : Bool) → (u % 2 == 1) ≡ t → into ≡ cond t second first
      at_side t e = ap (λ h. cond h second first) e

      beside : W (X1 ++ rest) ≡ curl_twist p (suc k) sign * W (arcs ++ rest) % p.modulus
      beside =
          ⊎_elim
          (λ t.
          to_box X1 (b.ok_X1 p items is c here found s low_s test colours has projectors free_x)
          ∙ boxed_into p free k sign into out M first second 0 few_k long_into long_out long_M long_first long_second f0 is_projector X1 Q is_told ok_Q (twice_beside first second (λ z. refl)) (at_side true t)
          ∙ ap (λ j. curl_twist p (suc k) sign * j % p.modulus) (sym (to_box arcs ok_arcs)))
          (λ t.
          let turned : (ns : List Node) → All IsNode ns → W (ns ++ (box ∷ Q)) ≡ W (ns ++ (box_node 0 f0 second first ∷ Q)) =
          λ ns ok. half_turned p.modulus (loop_value p) free (suc k) f0 first second ns Q some few_k is_projector long_first long_second ok ok_Q ok_box ok_turned in
          to_box X1 (b.ok_X1 p items is c here found s low_s test colours has projectors free_x)
          ∙ turned X1 (b.ok_X1 p items is c here found s low_s test colours has projectors free_x)
          ∙ boxed_into p free k sign into out M second first 0 few_k long_into long_out long_M long_second long_first f0 is_projector X1 Q is_told ok_Q (twice_beside second first (λ z. omega arith)) (at_side false t)
          ∙ ap (λ j. curl_twist p (suc k) sign * j % p.modulus) (sym (turned arcs ok_arcs) ∙ sym (to_box arcs ok_arcs)))
          (cases_Bool (u % 2 == 1))
        where
          some : 0 < p.modulus
          some = let h = p.meets.modulus.0 in omega (arith, h)

    -- ---- either way
    some_strands : 1 ≤ k → W (X1 ++ rest) ≡ curl_twist p (suc k) sign * W (arcs ++ rest) % p.modulus
    some_strands tall = ⊎_elim (λ t. beside t) (λ t. walked p items is c here found s low_s test colours has projectors free_x k tall_k tall t) (cases_Bool (boxed (slot here (s + 2))))

  -- THE CROSSING THAT GOES
  pub undone : W (X1 ++ rest) ≡ curl_twist p n sign * W (arcs_of (zip into (reverse out)) ++ rest) % p.modulus
  undone = by_colour n refl
    where
      by_colour : (k : ℕ) → n ≡ k → W (X1 ++ rest) ≡ curl_twist p n sign * W (arcs ++ rest) % p.modulus
      by_colour zero e = none e ∙ ap (λ k. curl_twist p k sign * W (arcs ++ rest) % p.modulus) (sym e)
      by_colour (suc zero) e = one_strand e ∙ ap (λ k. curl_twist p k sign * W (arcs ++ rest) % p.modulus) (sym e)
      by_colour (suc (suc k)) e = some_strands (suc k) e (omega arith) ∙ ap (λ k. curl_twist p k sign * W (arcs ++ rest) % p.modulus) (sym e)
