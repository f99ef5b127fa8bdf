-- The crossing of a curl beside a projector's box, at any names: mu_n to the power of the curl times the strands. The crossing is a twist, and the box
-- absorbs it: from its beginning where the strands come in at the box, and from its end where they leave there.
use Rattle.std.proofs.Common.{◌≡◌, ℕ, zero, suc, ◌+◌, ◌-◌, ◌*◌, ◌%◌, ◌^◌, ◌<◌, ◌≤◌, nat_lt, Bool, cond, List, [], ◌∷◌, ◌++◌, map, length, reverse, slice_index, refl, sym, ap, ap₂, ◌∙◌, arith, All, append_assoc, subst}
use Rattle.std.specs.List.{range_with_len, zip}
use Rattle.std.proofs.lemmas.Bool.Decides.{nat_tests}
use Rattle.std.proofs.lemmas.List.{length-reverse, map-append}
use Rattle.std.proofs.lemmas.List.Elements.{All-append, All-cons, All-nil}
use Rattle.std.proofs.lemmas.List.FromFn.{length-map-range_with_len}
use Rattle.list_lemmas.specs.Times.{times_in}
use Rattle.list_lemmas.proofs.Times.{times_of_member, times_in-append}
use Rattle.root_quantum.specs.Parameters.{Parameters}
use Rattle.root_quantum.specs.QuantumNumbers.{inverse_root, loop_value}
use Rattle.state_sums.specs.Networks.{Node, Term, IsNode, names_of}
use Rattle.state_sums.specs.StateSums.{value}
use Rattle.strand_algebra.specs.Projectors.{IsProjector}
use Rattle.piece_laws.specs.Arcs.{arcs_of}
use Rattle.piece_laws.proofs.RenamedNodes.{rename_fixed}
use Rattle.planar_check.specs.declared.sign.Sign.{Sign}
use Rattle.planar_check.specs.declared.sign.Sign.TheVariants as signs
use Rattle.strand_words.specs.Grids.{crossed}
use Rattle.strand_words.specs.Words.{Letter}
use Rattle.strand_words.specs.Boxes as words
use Rattle.diagram_moves.proofs.Curling.{is_plus}
use Rattle.cables.specs.CableNodes.{box_node}
use Rattle.cables.proofs.NameCounts.{times-reverse, times_of-append}
use Rattle.cable_crossings.proofs.BundleTurns.{runs_exchanged}
use Rattle.cable_crossings.proofs.CabledBigon.{names_of_arcs, zip-times}
use Rattle.cable_crossings.proofs.CrossingSteps.{long}
use Rattle.cable_crossings.proofs.ManyArcs.{joined_all, arcs_ok}
use Rattle.cable_crossings.proofs.StepPieces.{member_of_one}
use Rattle.cable_crossings.proofs.ThroughArcs.{turned_arcs}
use Rattle.cable_crossings.proofs.ToldCrossings.{IsTold, listed, ranged}
use Rattle.coloured_moves.proofs.ArcMerges.{merged_arcs, joined_first, joined_other, map_fixed}
use Rattle.coloured_moves.proofs.CurledStrands.{curl_cable, curl_twist}
use Rattle.coloured_curls.specs.Boxes.{round, box_at, names_behind}
use Rattle.coloured_curls.proofs.AbsorbedTwists.{absorbed_front, absorbed_back, box_ok, letters_ok, count, twist_of}
use Rattle.coloured_curls.proofs.CurlTwists as curls
use Rattle.coloured_curls.proofs.GridCounts.{among}
use Rattle.coloured_curls.proofs.LetterCounts.{letter_counts, behind_most, given}
use Rattle.coloured_curls.proofs.LetterNets.{twist_among}
use Rattle.coloured_curls.proofs.PieceCounts.{same_range}
use Rattle.coloured_curls.proofs.StrandLists.{range_split, range_further, reversed_list}

-- ---- a box, by lists
module _ (group c : ℕ) (f : List Term) where
  abbrev n : ℕ
  n = suc c

  abbrev R : (ℕ → ℕ) → List ℕ
  R g = map g (range_with_len 0 n)

  pub box_lists : (bottoms tops : ℕ → ℕ) → box_at group n f bottoms tops ≡ box_node group f (R bottoms) (R (λ j. tops (c - j)))
  box_lists bottoms tops =
      let g : ℕ → ℕ = round n bottoms tops in
      ap (λ es. record { group = group; ends = es; terms = f })
      (range_split g 0 n n
      ∙ ap₂ (λ xs ys. xs ++ ys)
      (same_range g bottoms 0 n (λ j lo hi. low_end j n (bottoms j) (tops (n + n - 1 - j)) (omega (arith, hi))))
      (range_further g n 0 n
      ∙ same_range (λ j. g (j + n)) (λ j. tops (c - j)) 0 n (λ j lo hi. high_end (j + n) n (bottoms (j + n)) (tops (n + n - 1 - (j + n))) (omega arith) ∙ ap tops (let t : n + n - 1 - (j + n) ≡ c - j = omega arith in t))))
    where
      low_end : (j n p q : ℕ) → j < n → cond (nat_lt j n) p q ≡ p
      low_end j n p q h = grind (arith, nat_tests, h)

      high_end : (j n p q : ℕ) → n ≤ j → cond (nat_lt j n) p q ≡ q
      high_end j n p q h = grind (arith, nat_tests, h)

  reversed_R : (g : ℕ → ℕ) → reverse (R g) ≡ R (λ j. g (c - j))
  reversed_R g = listed (λ j. g (c - j)) (reverse (R g)) n (length-reverse (R g) ∙ length-map-range_with_len g 0 n) (λ i l. reversed_list (R g) c i (length-map-range_with_len g 0 n) l ∙ ranged g n (c - i) (omega arith))

-- arcs from a box's names go into the box
pub box_merged : (m delta free group : ℕ) (f : List Term) (F E Y : List ℕ) (rest : List Node) → length E ≡ length Y → All IsNode (box_node group f F E ∷ rest) →
    ((z : ℕ) → 1 ≤ times_in E z + times_in Y z + (times_in F z + times_in E z) + times_in (names_of rest) z → times_in E z + times_in Y z + (times_in F z + times_in E z) + times_in (names_of rest) z ≡ 2) →
    value m delta record { nodes = arcs_of (zip E Y) ++ (box_node group f F E ∷ rest); free_loops = free } ≡ value m delta record { nodes = box_node group f F Y ∷ rest; free_loops = free }
box_merged m delta free group f F E Y rest long ok twice =
    let J = joined_all (zip E Y) in
    let once : (z : ℕ) → 1 ≤ times_in E z → (times_in E z ≡ 1) × (times_in Y z ≡ 0) × (times_in F z ≡ 0) × (times_in (names_of rest) z ≡ 0) =
    λ z h. (let t = twice z (omega (arith, h)) in (omega (arith, t, h), omega (arith, t, h), omega (arith, t, h), omega (arith, t, h))) in
    let fixed : (z : ℕ) → times_in E z ≡ 0 → J z ≡ z = λ z h. joined_other E Y z h in
    let away : (xs : List ℕ) → ((z : ℕ) → 1 ≤ times_in E z → times_in xs z ≡ 0) → (z : ℕ) → 1 ≤ times_in xs z → times_in E z ≡ 0 = λ xs h z o. none (times_in E z) (λ k. (let t = h z k in omega (arith, t, o))) in
    let most : (z : ℕ) → times_in E z ≤ 1 = λ z. at_most (times_in E z) (λ h. (once z h).0) in
    merged_arcs m delta free E Y (box_node group f F E ∷ rest) long most (λ z h. (once z h).1) ok
    (λ z h. member_of_one z (names_of (box_node group f F E ∷ rest))
    (let a = times_in-append (F ++ E) (names_of rest) z in let b = times_in-append F E z in let o = times_of_member z E h in omega (arith, a, b, o)))
    ∙ ap₂ (λ es ns. value m delta record { nodes = record { group = group; ends = es; terms = f } ∷ ns; free_loops = free })
    (map-append J F E ∙ ap₂ (λ xs ys. xs ++ ys) (map_fixed J F (λ z h. fixed z (away F (λ z k. (once z k).2) z h))) (joined_first E Y long most))
    (rename_fixed J rest (λ z h. fixed z (away (names_of rest) (λ z k. (once z k).3) z (times_of_member z (names_of rest) h))))
  where
    none : (k : ℕ) → (1 ≤ k → ⊥) → k ≡ 0
    none zero h = refl
    none (suc k) h = absurd (h (omega arith))

    at_most : (k : ℕ) → (1 ≤ k → k ≡ 1) → k ≤ 1
    at_most zero h = omega arith
    at_most (suc k) h = let t = h (omega arith) in omega (arith, t)

-- the arcs that the strands of a curl are, in the order of the twist
abbrev pub curl_pairs : Sign → List ℕ → List ℕ → List (ℕ × ℕ)
curl_pairs signs.Plus E W = zip E (reverse W)
curl_pairs signs.Minus E W = zip W (reverse E)

-- ---- a crossing told as that of a curl, and a box with the names E
module _ (p : Parameters) (free c : ℕ) (sign : Sign) (into out M F E : List ℕ) (group : ℕ) (few : suc c ≤ 8) (long_into : length into ≡ suc c) (long_out : length out ≡ suc c) (long_M : length M ≡ suc c) (long_F : length F ≡ suc c) (long_E : length E ≡ suc c)
    (f : List Term) (is : IsProjector p.modulus (loop_value p) (suc c) f) (X1 rest : List Node)
    (t : IsTold p.modulus (loop_value p) X1 (crossed p.root (inverse_root p) (is_plus sign) 0).straight (crossed p.root (inverse_root p) (is_plus sign) 0).hook into out M (reverse M)) (ok : All IsNode rest)
    (twice : (z : ℕ) → 1 ≤ times_in (names_of (X1 ++ (box_node group f F E ∷ rest))) z → times_in (names_of (X1 ++ (box_node group f F E ∷ rest))) z ≡ 2) where
  abbrev m : ℕ
  m = p.modulus

  abbrev delta : ℕ
  delta = loop_value p

  abbrev s : Bool
  s = is_plus sign

  abbrev N : ℕ
  N = suc c

  abbrev x : ℕ
  x = (crossed p.root (inverse_root p) s 0).straight

  abbrev V : List Node → ℕ
  V ns = value m delta record { nodes = ns; free_loops = free }

  abbrev R0 : List Node
  R0 = box_node group f F E ∷ rest

  abbrev bot : ℕ → ℕ
  bot j = slice_index F j

  some : 0 < m
  some = let h = p.meets.modulus.0 in omega (arith, h)

  abbrev L1 : (ℕ → ℕ) → List ℕ
  L1 q = map q (range_with_len 0 N)

  -- a box with F below
  box_is : (Y : List ℕ) (tops : ℕ → ℕ) → Y ≡ L1 (λ j. tops (c - j)) → box_node group f F Y ≡ box_at group N f bot tops
  box_is Y tops e = ap₂ (box_node group f) (listed bot F N long_F (λ i l. refl)) e ∙ sym (box_lists group c f bot tops)

  boxed_ok : (Y : List ℕ) (tops : ℕ → ℕ) → Y ≡ L1 (λ j. tops (c - j)) → IsNode (box_node group f F Y)
  boxed_ok Y tops e = subst IsNode (sym (box_is Y tops e)) (box_ok m delta group c f some few is bot x free bot tops)

  own_list : (Y : List ℕ) → length Y ≡ N → Y ≡ L1 (λ j. slice_index Y (c - (c - j)))
  own_list Y l = listed (λ j. slice_index Y (c - (c - j))) Y N l (λ i h. ap (slice_index Y) (let e : i ≡ c - (c - i) = omega (arith, h) in e))

  list_ok : (Y : List ℕ) → length Y ≡ N → IsNode (box_node group f F Y)
  list_ok Y l = boxed_ok Y (λ j. slice_index Y (c - j)) (own_list Y l)

  pub ok_0 : All IsNode R0
  ok_0 = All-cons IsNode (box_node group f F E) rest (list_ok E long_E) ok

  -- ---- the twist
  abbrev v : ℕ → ℕ → ℕ
  v = curls.v p free c sign into out M few long_into long_out long_M X1 R0 t ok_0 twice

  abbrev big : ℕ
  big = curls.big p free c sign into out M few long_into long_out long_M X1 R0 t ok_0 twice

  abbrev u : List Letter
  u = words.twist p.root (inverse_root p) s 0 c N

  abbrev T : ℕ → ℕ
  T = names_behind u (v 0) big

  abbrev L : List Node
  L = curls.L p free c sign into out M few long_into long_out long_M X1 R0 t ok_0 twice

  abbrev A : List Node
  A = curls.A p free c sign into out M few long_into long_out long_M X1 R0 t ok_0 twice

  A_is : A ≡ arcs_of (zip (L1 T) (reverse out))
  A_is = (curls.A_is p free c sign into out M few long_into long_out long_M X1 R0 t ok_0 twice) ∙ ap (λ ys. arcs_of (zip (L1 T) ys)) (curls.leaves_list p free c sign into out M few long_into long_out long_M X1 R0 t ok_0 twice)

  into_list : L1 (v 0) ≡ into
  into_list = curls.into_list p free c sign into out M few long_into long_out long_M X1 R0 t ok_0 twice

  Lok : All IsNode L
  Lok = letters_ok m delta group c f some few is bot x free u (v 0) big

  Aok : All IsNode A
  Aok = subst (All IsNode) (sym A_is) (arcs_ok (zip (L1 T) (reverse out)))

  long_list : (q : ℕ → ℕ) → length (L1 q) ≡ N
  long_list q = length-map-range_with_len q 0 N

  -- how often a name stands
  A_times : (z : ℕ) → times_in (names_of A) z ≡ among T 0 N z + times_in out z
  A_times z =
      ap (λ ns. times_in (names_of ns) z) A_is ∙ ap (λ ns. times_in ns z) (names_of_arcs (zip (L1 T) (reverse out))) ∙ zip-times z (L1 T) (reverse out) (length-reverse out ∙ long_out ∙ sym (long_list T))
      ∙ ap (λ k. among T 0 N z + k) (times-reverse z out)

  into_times : (z : ℕ) → among (v 0) 0 N z ≡ times_in into z
  into_times z = ap (λ ns. times_in ns z) into_list

  R0_times : (z : ℕ) → times_in (names_of R0) z ≡ times_in F z + times_in E z + times_in (names_of rest) z
  R0_times z = let p1 = times_in-append (F ++ E) (names_of rest) z in let p2 = times_in-append F E z in omega (arith, p1, p2)

  total : (z : ℕ) → 1 ≤ times_in (names_of L) z + (among T 0 N z + times_in out z) + (times_in F z + times_in E z + times_in (names_of rest) z) →
      times_in (names_of L) z + (among T 0 N z + times_in out z) + (times_in F z + times_in E z + times_in (names_of rest) z) ≡ 2
  total z one =
      let p1 = times_of-append z L A in
      let p2 = A_times z in
      let p3 = R0_times z in
      let two = (curls.turned_twice p free c sign into out M few long_into long_out long_M X1 R0 t ok_0 twice) z (omega (arith, p1, p2, p3, one)) in
      omega (arith, p1, p2, p3, two)

  letters_times : (z : ℕ) → times_in (names_of L) z + among T 0 N z ≡ times_in into z + 2 * given u big z
  letters_times z = let t = letter_counts N u (v 0) big z (twist_among p.root (inverse_root p) s N 0 c N (omega arith)) in let e = into_times z in omega (arith, t, e)

  most : (z : ℕ) → among T 0 N z ≤ times_in into z + given u big z
  most z = let t = behind_most N u (v 0) big z (twist_among p.root (inverse_root p) s N 0 c N (omega arith)) in let e = into_times z in omega (arith, t, e)

  pub before : (z : ℕ) → 1 ≤ times_in into z + times_in out z + (times_in F z + times_in E z) + times_in (names_of rest) z → times_in into z + times_in out z + (times_in F z + times_in E z) + times_in (names_of rest) z ≡ 2
  before z one = let q = R0_times z in let two = (curls.strands_twice p free c sign into out M few long_into long_out long_M X1 R0 t ok_0 twice) z (omega (arith, q, one)) in omega (arith, q, two)

  abbrev B : Node
  B = box_node group f F E

  Bok : All IsNode (B ∷ [])
  Bok = All-cons IsNode B [] (list_ok E long_E) (All-nil IsNode)

  -- ---- where the strands come in at the box
  module _ (ins : into ≡ E) where
    e_times : (z : ℕ) → times_in into z ≡ times_in E z
    e_times z = ap (λ xs. times_in xs z) ins

    strands_in : V (arcs_of (zip into (reverse out)) ++ R0) ≡ V (box_node group f F (reverse out) ∷ rest)
    strands_in =
        ap (λ xs. V (arcs_of (zip xs (reverse out)) ++ R0)) ins
        ∙ box_merged m delta free group f F E (reverse out) rest (long_E ∙ sym (length-reverse out ∙ long_out)) ok_0
        (λ z one. (let r = times-reverse z out in let e = e_times z in let two = before z (omega (arith, r, e, one)) in omega (arith, r, e, two)))

    absorbed_in : V ((L ++ A) ++ R0) ≡ x ^ count u * V (box_node group f F (reverse out) ∷ rest) % m
    absorbed_in =
        let tops : ℕ → ℕ = λ j. v 0 (c - j) in
        let E_list : E ≡ L1 (λ j. tops (c - j)) = sym ins ∙ sym into_list ∙ same_range (v 0) (λ j. tops (c - j)) 0 N (λ j lo hi. ap (v 0) (let e : j ≡ c - (c - j) = omega (arith, hi) in e)) in
        let B_is = box_is E tops E_list in
        let Ar_ok : All IsNode (A ++ rest) = All-append IsNode A rest Aok ok in
        let T_list : L1 T ≡ L1 (λ j. T (c - (c - j))) = same_range T (λ j. T (c - (c - j))) 0 N (λ j lo hi. ap T (let e : j ≡ c - (c - j) = omega (arith, hi) in e)) in
        let B2 = box_node group f F (L1 T) in
        let B2_ok = boxed_ok (L1 T) (λ j. T (c - j)) T_list in
        ap V (append_assoc L A (B ∷ rest))
        ∙ runs_exchanged m delta free L A (B ∷ rest) Lok Aok ok_0
        ∙ ap (λ ns. V (A ++ ns)) (sym (append_assoc L (B ∷ []) rest))
        ∙ runs_exchanged m delta free A (L ++ B ∷ []) rest Aok (All-append IsNode L (B ∷ []) Lok Bok) ok
        ∙ ap V (append_assoc L (B ∷ []) (A ++ rest))
        ∙ ap (λ node. V (L ++ (node ∷ (A ++ rest)))) B_is
        ∙ absorbed_front m delta group c f some few is bot x free u (v 0) big (A ++ rest) Ar_ok (twist_of p.root (inverse_root p) s N 0 c N (omega arith))
        (λ z one. (
        let d : times_in ((box_at group N f bot tops).ends) z ≡ times_in (F ++ E) z = ap (λ node. times_in node.ends z) (sym B_is) in
        let p1 = times_in-append F E z in let p2 = times_of-append z A rest in let p3 = A_times z in
        let two = total z (omega (arith, d, p1, p2, p3, one)) in omega (arith, d, p1, p2, p3, two)))
        ∙ ap (λ j. x ^ count u * j % m)
        (ap (λ node. V (node ∷ (A ++ rest))) (sym (box_is (L1 T) (λ j. T (c - j)) T_list))
        ∙ runs_exchanged m delta free (B2 ∷ []) A rest (All-cons IsNode B2 [] B2_ok (All-nil IsNode)) Aok ok
        ∙ ap (λ ns. V (ns ++ (B2 ∷ rest))) A_is
        ∙ box_merged m delta free group f F (L1 T) (reverse out) rest (long_list T ∙ sym (length-reverse out ∙ long_out)) (All-cons IsNode B2 rest B2_ok ok)
        (λ z one. (
        let r = times-reverse z out in let q = letters_times z in let w = most z in let ez = e_times z in
        let two = total z (omega (arith, r, q, w, ez, one)) in omega (arith, r, q, w, ez, two, one))))

    -- A CURL WHOSE STRANDS COME IN AT A BOX
    pub boxed_into : V (X1 ++ R0) ≡ curl_twist p (suc c) sign * V (arcs_of (zip into (reverse out)) ++ R0) % p.modulus
    boxed_into = (curls.curl_counts p free c sign into out M few long_into long_out long_M X1 R0 t ok_0 twice) (V (box_node group f F (reverse out) ∷ rest)) absorbed_in ∙ ap (λ j. curl_twist p N sign * j % m) (sym strands_in)

  -- ---- where they leave at the box
  module _ (outs : out ≡ E) where
    o_times : (z : ℕ) → times_in out z ≡ times_in E z
    o_times z = ap (λ xs. times_in xs z) outs

    strands_out : V (arcs_of (zip into (reverse out)) ++ R0) ≡ V (box_node group f F (reverse into) ∷ rest)
    strands_out =
        ap (λ xs. V (arcs_of (zip into (reverse xs)) ++ R0)) outs
        ∙ turned_arcs m delta free N into E R0 long_into long_E ok_0
        ∙ box_merged m delta free group f F E (reverse into) rest (long_E ∙ sym (length-reverse into ∙ long_into)) ok_0
        (λ z one. (let r = times-reverse z into in let e = o_times z in let two = before z (omega (arith, r, e, one)) in omega (arith, r, e, two)))

    absorbed_out : V ((L ++ A) ++ R0) ≡ x ^ count u * V (box_node group f F (reverse into) ∷ rest) % m
    absorbed_out =
        let back = reverse (L1 T) in
        let back_list : back ≡ L1 (λ j. T (c - j)) = reversed_R group c f T in
        let W_list : reverse into ≡ L1 (λ j. v 0 (c - j)) = ap reverse (sym into_list) ∙ reversed_R group c f (v 0) in
        let B2 = box_node group f F back in
        let B2_ok = boxed_ok back T back_list in
        let Lr_ok : All IsNode (L ++ rest) = All-append IsNode L rest Lok ok in
        let BLr_ok : All IsNode (B ∷ (L ++ rest)) = All-cons IsNode B (L ++ rest) (list_ok E long_E) Lr_ok in
        ap V (append_assoc L A (B ∷ rest))
        ∙ ap (λ ns. V (L ++ ns)) (sym (append_assoc A (B ∷ []) rest))
        ∙ runs_exchanged m delta free L (A ++ B ∷ []) rest Lok (All-append IsNode A (B ∷ []) Aok Bok) ok
        ∙ ap V (append_assoc A (B ∷ []) (L ++ rest))
        ∙ ap (λ ns. V (ns ++ (B ∷ (L ++ rest)))) (A_is ∙ ap (λ ys. arcs_of (zip (L1 T) (reverse ys))) outs)
        ∙ turned_arcs m delta free N (L1 T) E (B ∷ (L ++ rest)) (long_list T) long_E BLr_ok
        ∙ box_merged m delta free group f F E back (L ++ rest) (long_E ∙ sym (length-reverse (L1 T) ∙ long_list T)) BLr_ok
        (λ z one. (
        let r = times-reverse z (L1 T) in let p1 = times_of-append z L rest in let oz = o_times z in
        let two = total z (omega (arith, r, p1, oz, one)) in omega (arith, r, p1, oz, two)))
        ∙ runs_exchanged m delta free (B2 ∷ []) L rest (All-cons IsNode B2 [] B2_ok (All-nil IsNode)) Lok ok
        ∙ ap (λ node. V (L ++ (node ∷ rest))) (box_is back T back_list)
        ∙ absorbed_back m delta group c f some few is bot x free u (v 0) big rest ok (twist_of p.root (inverse_root p) s N 0 c N (omega arith))
        (λ z one. (
        let d : times_in ((box_at group N f bot T).ends) z ≡ times_in (F ++ back) z = ap (λ node. times_in node.ends z) (sym (box_is back T back_list)) in
        let p1 = times_in-append F back z in let r = times-reverse z (L1 T) in let oz = o_times z in
        let two = total z (omega (arith, d, p1, r, oz, one)) in omega (arith, d, p1, r, oz, two, one)))
        ∙ ap (λ node. x ^ count u * V (node ∷ rest) % m) (sym (box_is (reverse into) (v 0) W_list))

    -- A CURL WHOSE STRANDS LEAVE AT A BOX
    pub boxed_out : V (X1 ++ R0) ≡ curl_twist p (suc c) sign * V (arcs_of (zip into (reverse out)) ++ R0) % p.modulus
    boxed_out = (curls.curl_counts p free c sign into out M few long_into long_out long_M X1 R0 t ok_0 twice) (V (box_node group f F (reverse into) ∷ rest)) absorbed_out ∙ ap (λ j. curl_twist p N sign * j % m) (sym strands_out)

-- ---- the curl that Curl makes beside a box with the names E, where its strands come in or leave there
pub before_curl : (p : Parameters) (free g k c : ℕ) (sign : Sign) (E W M F : List ℕ) (group : ℕ) → suc c ≤ 8 → length E ≡ suc c → length W ≡ suc c → length M ≡ suc c → length F ≡ suc c → (f : List Term) → IsProjector p.modulus (loop_value p) (suc c) f → (rest : List Node) → All IsNode (curl_cable p g k sign E W M) → All IsNode rest →
    ((z : ℕ) → 1 ≤ times_in (names_of (curl_cable p g k sign E W M ++ (box_node group f F E ∷ rest))) z → times_in (names_of (curl_cable p g k sign E W M ++ (box_node group f F E ∷ rest))) z ≡ 2) →
    (z : ℕ) → 1 ≤ times_in E z + times_in W z + (times_in F z + times_in E z) + times_in (names_of rest) z → times_in E z + times_in W z + (times_in F z + times_in E z) + times_in (names_of rest) z ≡ 2
before_curl p free g k c signs.Plus E W M F group few lE lW lM lF f is rest okX ok twice z one = before p free c signs.Plus E W M F E group few lE lW lM lF lE f is (curl_cable p g k signs.Plus E W M) rest (curls.told_curl p g k c signs.Plus E W M lE lW lM okX) ok twice z one
before_curl p free g k c signs.Minus E W M F group few lE lW lM lF f is rest okX ok twice z one =
    let two = before p free c signs.Minus W E M F E group few lW lE lM lF lE f is (curl_cable p g k signs.Minus E W M) rest (curls.told_curl p g k c signs.Minus E W M lE lW lM okX) ok twice z (omega (arith, one)) in
    omega (arith, two)

pub boxed_curl : (p : Parameters) (free g k c : ℕ) (sign : Sign) (E W M F : List ℕ) (group : ℕ) → suc c ≤ 8 → length E ≡ suc c → length W ≡ suc c → length M ≡ suc c → length F ≡ suc c → (f : List Term) → IsProjector p.modulus (loop_value p) (suc c) f → (rest : List Node) → All IsNode (curl_cable p g k sign E W M) → All IsNode rest →
    ((z : ℕ) → 1 ≤ times_in (names_of (curl_cable p g k sign E W M ++ (box_node group f F E ∷ rest))) z → times_in (names_of (curl_cable p g k sign E W M ++ (box_node group f F E ∷ rest))) z ≡ 2) →
    value p.modulus (loop_value p) record { nodes = curl_cable p g k sign E W M ++ (box_node group f F E ∷ rest); free_loops = free } ≡ curl_twist p (suc c) sign * value p.modulus (loop_value p) record { nodes = arcs_of (curl_pairs sign E W) ++ (box_node group f F E ∷ rest); free_loops = free } % p.modulus
boxed_curl p free g k c signs.Plus E W M F group few lE lW lM lF f is rest okX ok twice = boxed_into p free c signs.Plus E W M F E group few lE lW lM lF lE f is (curl_cable p g k signs.Plus E W M) rest (curls.told_curl p g k c signs.Plus E W M lE lW lM okX) ok twice refl
boxed_curl p free g k c signs.Minus E W M F group few lE lW lM lF f is rest okX ok twice = boxed_out p free c signs.Minus W E M F E group few lW lE lM lF lE f is (curl_cable p g k signs.Minus E W M) rest (curls.told_curl p g k c signs.Minus E W M lE lW lM okX) ok twice refl

-- in one order of the arcs for both signs
pub beside_box : (p : Parameters) (free g k c : ℕ) (sign : Sign) (E W M F : List ℕ) (group : ℕ) → suc c ≤ 8 → length E ≡ suc c → length W ≡ suc c → length M ≡ suc c → length F ≡ suc c → (f : List Term) → IsProjector p.modulus (loop_value p) (suc c) f → (rest : List Node) → All IsNode (curl_cable p g k sign E W M) → All IsNode rest →
    ((z : ℕ) → 1 ≤ times_in (names_of (curl_cable p g k sign E W M ++ (box_node group f F E ∷ rest))) z → times_in (names_of (curl_cable p g k sign E W M ++ (box_node group f F E ∷ rest))) z ≡ 2) →
    value p.modulus (loop_value p) record { nodes = curl_cable p g k sign E W M ++ (box_node group f F E ∷ rest); free_loops = free } ≡ curl_twist p (suc c) sign * value p.modulus (loop_value p) record { nodes = arcs_of (zip E (reverse W)) ++ (box_node group f F E ∷ rest); free_loops = free } % p.modulus
beside_box p free g k c signs.Plus E W M F group few lE lW lM lF f is rest okX ok twice = boxed_curl p free g k c signs.Plus E W M F group few lE lW lM lF f is rest okX ok twice
beside_box p free g k c signs.Minus E W M F group few lE lW lM lF f is rest okX ok twice =
    boxed_curl p free g k c signs.Minus E W M F group few lE lW lM lF f is rest okX ok twice
    ∙ ap (λ j. curl_twist p (suc c) signs.Minus * j % p.modulus)
    (turned_arcs p.modulus (loop_value p) free (suc c) W E (box_node group f F E ∷ rest) lW lE
    (ok_0 p free c signs.Minus W E M F E group few lW lE lM lF lE f is (curl_cable p g k signs.Minus E W M) rest (curls.told_curl p g k c signs.Minus E W M lE lW lM okX) ok twice))
