-- Bundles between the two stubs of one label close to loops: without a box to a free loop or to none, with a box to the box that a loop has.
--
--     shut_labels pairs       the labels of bundles
--     loop_boxes ls           the boxes of loops with these labels
use Rattle.std.proofs.Common.{◌≡◌, ◌≢◌, ℕ, ◌+◌, ◌/◌, ◌%◌, ◌≤◌, ◌==◌, not, nat_le, Bool, true, false, cond, List, [], ◌∷◌, ◌++◌, map, length, reverse, refl, sym, ap, ap₂, ◌∙◌, arith, ⊎_elim, All, append_assoc}
use Rattle.std.specs.List.{AllByRecursion, zip, filter, count_by}
use Rattle.std.specs.Set.{is_member}
use Rattle.std.proofs.lemmas.Bool.{cases_Bool, cases_eq, eqb-true}
use Rattle.std.proofs.lemmas.Bool.Decides.{nat_tests}
use Rattle.std.proofs.lemmas.List.{length-reverse, map-append, reverse-reverse}
use Rattle.std.proofs.lemmas.List.Elements.{All-append, All-cons, All-nil}
use Rattle.std.proofs.lemmas.List.Sums.{sum_by-cons}
use Rattle.graph_parts.specs.Ends.{ends_of}
use Rattle.graph_parts.specs.Walks.{stay}
use Rattle.list_lemmas.specs.Times.{times_in}
use Rattle.list_lemmas.proofs.Times.{times_in-cons, times_in-append, times_in-filter, times_of_member}
use Rattle.state_sums.specs.LocalSums.{rename}
use Rattle.state_sums.specs.Networks.{Node, IsNode, names_of}
use Rattle.state_sums.specs.StateSums.{value}
use Rattle.piece_laws.specs.Arcs.{arcs_of, closed_classes}
use Rattle.piece_laws.proofs.Closing.{arcs_close}
use Rattle.piece_laws.proofs.NameCounts.{member_mapped}
use Rattle.piece_laws.proofs.RenamedNodes.{rename_fixed}
use Rattle.root_quantum.specs.Parameters.{Parameters}
use Rattle.root_quantum.specs.QuantumNumbers.{loop_value}
use Rattle.cables.specs.CableNodes.{box_node}
use Rattle.cables.specs.Cables.{loops_at}
use Rattle.cables.specs.Nets.{projector_of}
use Rattle.cables.specs.Strands.{Strands, strands_of}
use Rattle.cables.proofs.LabelNames.{zero_or_some}
use Rattle.cables.proofs.NameCounts.{times-reverse, times_of-append}
use Rattle.cables.proofs.NumberedStrands.{as_many_strands, first_length, first_label, second_label, second_once, box_once}
use Rattle.cables.proofs.ProjectorBoxes.{projector_boxes}
use Rattle.diagram_moves.proofs.Undone.{contraction_from, unique_twice}
use Rattle.cable_crossings.proofs.BundleTurns.{runs_exchanged}
use Rattle.cable_crossings.proofs.CabledBigon.{names_of_arcs}
use Rattle.cable_crossings.proofs.ManyArcs.{joined_all, arcs_ok}
use Rattle.cable_crossings.proofs.StepPieces.{member_of_one}
use Rattle.cable_crossings.proofs.ThroughArcs.{turned_arcs}
use Rattle.coloured_moves.proofs.ArcMerges.{map_fixed, joined_first, joined_other, merged_arcs}
use Rattle.coloured_moves.proofs.BundleMerges.{bundles, bundles_times}
use Rattle.coloured_moves.proofs.LabelColours.{long_stub, opposite_stub, counts}
use Rattle.coloured_moves.proofs.NetAppends.{arcs_of-append}
use Rattle.coloured_moves.proofs.PushedCables.{unboxed_second}
use Rattle.coloured_moves.proofs.StubItems.{half, at_stub, boxes_of}
use Rattle.coloured_moves.proofs.StubNames.{stub_sum_none, stub_label, stub_apart}
use Rattle.coloured_moves.proofs.TurnedBoxes.{box_ok, boxes_ok}
use Rattle.coloured_moves.proofs.Tests.{one_apart, one_if, one_same}

abbrev pub shut_labels : List (ℕ × ℕ) → List ℕ
shut_labels pairs = map (λ (pair : ℕ × ℕ). half pair.0) pairs

-- ---- arcs from a name to itself
circle : (m delta free z : ℕ) (rest : List Node) → All IsNode rest → times_in (names_of rest) z ≡ 0 →
    value m delta record { nodes = arcs_of ((z, z) ∷ []) ++ rest; free_loops = free } ≡ value m delta record { nodes = rest; free_loops = free + 1 }
circle m delta free z rest ok none =
    let pairs : List (ℕ × ℕ) = (z, z) ∷ [] in
    let id : ℕ → ℕ = λ x. x in
    let p : ℕ → Bool = λ end. not (is_member ◌==◌ (map id (names_of rest)) end) in
    let out : is_member ◌==◌ (map id (names_of rest)) z ≡ false =
    ⊎_elim
    (λ t. absurd (let r = member_mapped id (names_of rest) z t in let one = times_of_member r.0 (names_of rest) r.1 in let e = ap (times_in (names_of rest)) r.2 in omega (arith, none, one, e)))
    (λ t. t)
    (cases_Bool (is_member ◌==◌ (map id (names_of rest)) z)) in
    let s = sum_by-cons (λ x. cond (p x) 1 0) z [] in
    let here : one_if (p z) ≡ 1 = ap (λ b. one_if (not b)) out in
    let once : count_by p (z ∷ []) ≡ 1 = omega (arith, s, here) in
    let closed : closed_classes id pairs (names_of rest) ≡ 1 = ap (count_by p) (unique_twice z []) ∙ once in
    arcs_close m delta free pairs id rest ok (contraction_from pairs id (λ x. stay) (refl, tt))
    ∙ ap₂ (λ ns k. value m delta record { nodes = ns; free_loops = k }) (rename_fixed id rest (λ x q. refl)) (omega (arith, closed))

circles : (m delta free : ℕ) (xs : List ℕ) (rest : List Node) → length xs ≤ 1 → All IsNode rest → ((z : ℕ) → 1 ≤ times_in xs z → times_in (names_of rest) z ≡ 0) →
    value m delta record { nodes = arcs_of (zip xs xs) ++ rest; free_loops = free } ≡ value m delta record { nodes = rest; free_loops = free + length xs }
circles m delta free [] rest few ok none = ap (λ k. value m delta record { nodes = rest; free_loops = k }) (let e : free ≡ free + 0 = omega arith in e)
circles m delta free (z ∷ []) rest few ok none = circle m delta free z rest ok (none z (let c = times_in-cons z [] z in let t : one_if (z == z) ≡ 1 = grind (arith, nat_tests) in omega (arith, c, t)))
circles m delta free (z ∷ y ∷ xs) rest few ok none = absurd (omega (arith, few))

few_loops : (xs : List ℕ) → length xs ≤ 1 → loops_at xs ≡ length xs
few_loops [] l = refl
few_loops (x ∷ []) l = refl
few_loops (x ∷ y ∷ xs) l = absurd (omega (arith, l))

no_loops : (xs : List ℕ) → 2 ≤ length xs → loops_at xs ≡ 0
no_loops [] l = absurd (omega (arith, l))
no_loops (x ∷ []) l = absurd (omega (arith, l))
no_loops (x ∷ y ∷ xs) l = refl

-- ---- the sides of stubs
odd_even : (u v : ℕ) → half u ≡ half v → u ≢ v → (u % 2 == 1) ≡ true → (v % 2 == 1) ≡ false
odd_even u v e d t = ⊎_elim (λ s. absurd (let p = eqb-true (u % 2) 1 t in let q = eqb-true (v % 2) 1 s in d (omega (arith, e, p, q)))) (λ s. s) (cases_Bool (v % 2 == 1))

even_odd : (u v : ℕ) → half u ≡ half v → u ≢ v → (u % 2 == 1) ≡ false → (v % 2 == 1) ≡ true
even_odd u v e d t = ⊎_elim (λ s. s) (λ s. absurd (let p = even u t in let q = even v s in d (omega (arith, e, p, q)))) (cases_Bool (v % 2 == 1))
  where
    even : (v : ℕ) → (v % 2 == 1) ≡ false → v % 2 ≡ 0
    even v t = grind (arith, nat_tests, t)

module _ (p : Parameters) (colour : ℕ → ℕ) (boxed : ℕ → Bool) (few : (l : ℕ) → colour l ≤ 8) where
  abbrev S : Strands
  S = strands_of colour boxed (projector_of p)

  abbrev N : ℕ → List ℕ
  N w = at_stub S w

  abbrev delta : ℕ
  delta = loop_value p

  abbrev W : ℕ → List Node → ℕ
  W free ns = value p.modulus delta record { nodes = ns; free_loops = free }

  abbrev box_at : ℕ → Node
  box_at l = box_node 0 (projector_of p (length (S.first l))) (S.first l) (S.second l)

  abbrev loop_box : ℕ → Node
  loop_box l = box_node 0 (projector_of p (length (S.first l))) (S.first l) (reverse (S.first l))

  abbrev pub loop_boxes : List ℕ → List Node
  loop_boxes ls = map loop_box ls

  long : (l : ℕ) → length (S.first l) ≡ colour l
  long l = first_length colour boxed (projector_of p) l

  even : (l : ℕ) → length (S.second l) ≡ length (S.first l)
  even l = as_many_strands colour boxed (projector_of p) l

  -- the label's names do not stand in the nodes
  abbrev pub IsFreeOf : List Node → ℕ → Type 0
  IsFreeOf nodes l = (z : ℕ) → z / 16 ≡ l → times_in (names_of nodes) z ≡ 0

  box_at_ok : (l : ℕ) → IsNode (box_at l)
  box_at_ok l = box_ok p.modulus (projector_of p) (projector_boxes p) 0 (length (S.first l)) (S.first l) (S.second l) refl (even l)

  loop_box_ok : (l : ℕ) → IsNode (loop_box l)
  loop_box_ok l = box_ok p.modulus (projector_of p) (projector_boxes p) 0 (length (S.first l)) (S.first l) (reverse (S.first l)) refl (length-reverse (S.first l))

  pub loop_boxes_ok : (ls : List ℕ) → All IsNode (loop_boxes ls)
  loop_boxes_ok [] = All-nil IsNode
  loop_boxes_ok (l ∷ ls) = All-cons IsNode (loop_box l) (loop_boxes ls) (loop_box_ok l) (loop_boxes_ok ls)

  module _ (free u v : ℕ) (one : half u ≡ half v) (differ : u ≢ v) (rest : List Node) (ok : All IsNode rest) (out : IsFreeOf rest (half u)) where
    abbrev l : ℕ
    l = half u

    -- WITHOUT A BOX
    close_plain : boxed l ≡ false → colour l ≤ 1 → W free (arcs_of (zip (N u) (reverse (N v))) ++ rest) ≡ W (free + loops_at (S.first l)) rest
    close_plain plain low =
        let turned : N v ≡ reverse (N u) = opposite_stub S u v one differ (unboxed_second (colour l) l (boxed l) plain) in
        let long_u : length (N u) ≡ length (S.first l) = long_stub S even u in
        let short : length (N u) ≤ 1 = (let a = long_u in let b = long l in omega (arith, a, b, low)) in
        ap (λ xs. W free (arcs_of (zip (N u) xs) ++ rest)) (ap reverse turned ∙ reverse-reverse (N u))
        ∙ circles p.modulus delta free (N u) rest short ok (λ z h. out z (stub_label colour boxed (projector_of p) few u z h))
        ∙ ap (λ k. W (free + k) rest) (long_u ∙ sym (few_loops (S.first l) (let a = long_u in omega (arith, a, short))))

    -- the arcs from the second place to the first
    from_second : (nodes : List Node) → All IsNode nodes → W free (arcs_of (zip (N u) (reverse (N v))) ++ nodes) ≡ W free (arcs_of (zip (S.second l) (reverse (S.first l))) ++ nodes)
    from_second nodes fine =
        let A : ℕ → Bool → List ℕ = λ n b. cond b (S.second n) (S.first n) in
        ⊎_elim
        (λ t.
        let at_u : N u ≡ S.second l = ap (A l) t in
        let at_v : N v ≡ S.first l = ap (A (half v)) (odd_even u v one differ t) ∙ ap S.first (sym one) in
        ap₂ (λ xs ys. W free (arcs_of (zip xs (reverse ys)) ++ nodes)) at_u at_v)
        (λ t.
        let at_u : N u ≡ S.first l = ap (A l) t in
        let at_v : N v ≡ S.second l = ap (A (half v)) (even_odd u v one differ t) ∙ ap S.second (sym one) in
        ap₂ (λ xs ys. W free (arcs_of (zip xs (reverse ys)) ++ nodes)) at_u at_v
        ∙ turned_arcs p.modulus delta free (length (S.first l)) (S.first l) (S.second l) nodes refl (even l) fine)
        (cases_Bool (u % 2 == 1))

    -- WITH A BOX
    close_box : boxed l ≡ true → W free (arcs_of (zip (N u) (reverse (N v))) ++ (box_at l ∷ rest)) ≡ W free (loop_box l ∷ rest)
    close_box full =
        let xs = S.second l in
        let ys = reverse (S.first l) in
        let J = joined_all (zip xs ys) in
        let nodes = box_at l ∷ rest in
        let fine = All-cons IsNode (box_at l) rest (box_at_ok l) ok in
        let long_lists : length xs ≡ length ys = even l ∙ sym (length-reverse (S.first l)) in
        let once : (z : ℕ) → times_in xs z ≤ 1 = λ z. second_once colour boxed (projector_of p) z l in
        let apart : (z : ℕ) → times_in (S.first l) z + times_in xs z ≤ 1 = λ z. box_once colour boxed (projector_of p) z l full in
        let become : map J xs ≡ ys = joined_first xs ys long_lists once in
        let keep : map J (S.first l) ≡ S.first l = map_fixed J (S.first l) (λ z h. joined_other xs ys z (let a = apart z in omega (arith, a, h))) in
        let fixed : rename J rest ≡ rest =
        rename_fixed J rest (λ z m. joined_other xs ys z (⊎_elim (λ (e : times_in xs z ≡ 0). e)
        (λ k. absurd (let k1 = k.1 in let s = out z (second_label colour boxed (projector_of p) z few l (omega (arith, k1))) in let q = times_of_member z (names_of rest) m in omega (arith, s, q))) (zero_or_some (times_in xs z)))) in
        from_second nodes fine
        ∙ merged_arcs p.modulus delta free xs ys nodes long_lists once (λ z h. times-reverse z (S.first l) ∙ (let a = apart z in omega (arith, a, h))) fine
        (λ z m. member_of_one z (names_of nodes)
        (let q = times_of_member z xs m in
        let t = times_in-append (S.first l ++ xs) (names_of rest) z in
        let s = times_in-append (S.first l) xs z in
        omega (arith, q, t, s)))
        ∙ ap₂ (λ ends ns. W free (record { group = 0; ends = ends; terms = projector_of p (length (S.first l)) } ∷ ns))
        (map-append J (S.first l) xs ∙ ap₂ (λ x y. x ++ y) keep become) fixed

  -- ---- names of other labels
  pub boxes_free : (l : ℕ) (ls : List ℕ) → times_in ls l ≡ 0 → IsFreeOf (boxes_of S ls) l
  boxes_free l [] h z e = refl
  boxes_free l (k ∷ ls) h z e =
      let c = times_in-cons k ls l in
      let ih = boxes_free l ls (omega (arith, c, h)) z e in
      let t = times_in-append (S.first k ++ S.second k) (names_of (boxes_of S ls)) z in
      let s = times_in-append (S.first k) (S.second k) z in
      let apart : l ≢ k = λ q. (let o : one_if (l == k) ≡ 1 = grind (arith, nat_tests, q) in omega (arith, c, h, o)) in
      let a : times_in (S.first k) z ≡ 0 = ⊎_elim (λ (n : times_in (S.first k) z ≡ 0). n) (λ n. absurd (let n1 = n.1 in apart (sym e ∙ first_label colour boxed (projector_of p) z few k (omega (arith, n1))))) (zero_or_some (times_in (S.first k) z)) in
      let b : times_in (S.second k) z ≡ 0 = ⊎_elim (λ (n : times_in (S.second k) z ≡ 0). n) (λ n. absurd (let n1 = n.1 in apart (sym e ∙ second_label colour boxed (projector_of p) z few k (omega (arith, n1))))) (zero_or_some (times_in (S.second k) z)) in
      omega (arith, ih, t, s, a, b)

  loop_box_free : (l k : ℕ) → l ≢ k → IsFreeOf (loop_box k ∷ []) l
  loop_box_free l k apart z e =
      let t = times_in-append (S.first k ++ reverse (S.first k)) [] z in
      let s = times_in-append (S.first k) (reverse (S.first k)) z in
      let r = times-reverse z (S.first k) in
      let a : times_in (S.first k) z ≡ 0 = ⊎_elim (λ (n : times_in (S.first k) z ≡ 0). n) (λ n. absurd (let n1 = n.1 in apart (sym e ∙ first_label colour boxed (projector_of p) z few k (omega (arith, n1))))) (zero_or_some (times_in (S.first k) z)) in
      omega (arith, t, s, r, a)

  ends_labels : (pairs : List (ℕ × ℕ)) → AllByRecursion (λ (pair : ℕ × ℕ). half pair.0 ≡ half pair.1) pairs → (w : ℕ) → 1 ≤ times_in (ends_of pairs) w → 1 ≤ times_in (shut_labels pairs) (half w)
  ends_labels [] h w l = l
  ends_labels (pair ∷ pairs) h w l =
      let a = times_in-cons pair.0 (pair.1 ∷ ends_of pairs) w in
      let b = times_in-cons pair.1 (ends_of pairs) w in
      let c = times_in-cons (half pair.0) (shut_labels pairs) (half w) in
      ⊎_elim
      (λ (e : w ≡ pair.0). (let o : one_if (half w == half pair.0) ≡ 1 = one_same (half w) (half pair.0) (ap half e) in omega (arith, c, o)))
      (λ d. ⊎_elim
      (λ (e : w ≡ pair.1). (let o : one_if (half w == half pair.0) ≡ 1 = one_same (half w) (half pair.0) (ap half e ∙ sym h.0) in omega (arith, c, o)))
      (λ f. (let x : one_if (w == pair.0) ≡ 0 = one_apart w pair.0 d in let y : one_if (w == pair.1) ≡ 0 = one_apart w pair.1 f in let ih = ends_labels pairs h.1 w (omega (arith, a, b, x, y, l)) in omega (arith, c, ih)))
      (cases_eq w pair.1))
      (cases_eq w pair.0)

  bundles_free : (l : ℕ) (pairs : List (ℕ × ℕ)) → AllByRecursion (λ (pair : ℕ × ℕ). half pair.0 ≡ half pair.1) pairs → times_in (shut_labels pairs) l ≡ 0 → IsFreeOf (arcs_of (bundles S pairs)) l
  bundles_free l pairs closed none z e =
      ap (λ ns. times_in ns z) (names_of_arcs (bundles S pairs))
      ∙ bundles_times S z pairs (lengths pairs closed)
      ∙ stub_sum_none S (ends_of pairs) z (λ w h. stub_apart colour boxed (projector_of p) few w z (λ s. (let k = ends_labels pairs closed w h in let q = ap (times_in (shut_labels pairs)) (sym e ∙ s) in omega (arith, none, k, q))))
    where
      lengths : (pairs : List (ℕ × ℕ)) → AllByRecursion (λ (pair : ℕ × ℕ). half pair.0 ≡ half pair.1) pairs → AllByRecursion (λ (pair : ℕ × ℕ). length (at_stub S pair.0) ≡ length (at_stub S pair.1)) pairs
      lengths [] h = tt
      lengths (pair ∷ pairs) h = (long_stub S even pair.0 ∙ ap (λ n. length (S.first n)) h.0 ∙ sym (long_stub S even pair.1), lengths pairs h.1)

  free_both : (l : ℕ) (xs ys : List Node) → IsFreeOf xs l → IsFreeOf ys l → IsFreeOf (xs ++ ys) l
  free_both l xs ys a b z e = let t = times_of-append z xs ys in let x = a z e in let y = b z e in omega (arith, t, x, y)

  -- ALL BUNDLES CLOSE
  pub close_all : (pairs : List (ℕ × ℕ)) → AllByRecursion (λ pair. half pair.0 ≡ half pair.1) pairs → AllByRecursion (λ pair. pair.0 ≢ pair.1) pairs → AllByRecursion (λ pair. boxed (half pair.0) ≡ nat_le 2 (colour (half pair.0))) pairs →
      ((l : ℕ) → times_in (shut_labels pairs) l ≤ 1) → (rest : List Node) → All IsNode rest → ((z : ℕ) → 1 ≤ times_in (shut_labels pairs) (z / 16) → times_in (names_of rest) z ≡ 0) → (free : ℕ) →
      value p.modulus (loop_value p) record { nodes = arcs_of (bundles S pairs) ++ (boxes_of S (filter boxed (shut_labels pairs)) ++ rest); free_loops = free }
      ≡ value p.modulus (loop_value p) record { nodes = loop_boxes (filter boxed (shut_labels pairs)) ++ rest; free_loops = free + counts S (shut_labels pairs) }
  close_all [] closed differ whole once rest ok out free = ap (λ k. W k rest) (let e : free ≡ free + 0 = omega arith in e)
  close_all (pair ∷ pairs) closed differ whole once rest ok out free =
      let u = pair.0 in let v = pair.1 in
      let l = half u in
      let ls = shut_labels pairs in
      let F = filter boxed ls in
      let A = arcs_of (zip (N u) (reverse (N v))) in
      let B = arcs_of (bundles S pairs) in
      let ok_A = arcs_ok (zip (N u) (reverse (N v))) in
      let ok_B = arcs_ok (bundles S pairs) in
      let ok_F = boxes_ok p.modulus delta S (projector_boxes p) even F in
      let c : (k : ℕ) → times_in (l ∷ ls) k ≡ one_if (k == l) + times_in ls k = λ k. times_in-cons l ls k in
      let own : one_if (l == l) ≡ 1 = grind (arith, nat_tests) in
      let none : times_in ls l ≡ 0 = (let a = c l in let o = once l in omega (arith, a, o, own)) in
      let later : (k : ℕ) → times_in ls k ≤ 1 = λ k. (let a = c k in let o = once k in omega (arith, a, o)) in
      let here : IsFreeOf rest l = λ z e. out z (let a = c (z / 16) in let o = ap (λ x. one_if (x == l)) e in omega (arith, a, o, own)) in
      let others : (z : ℕ) → 1 ≤ times_in ls (z / 16) → times_in (names_of rest) z ≡ 0 = λ z h. out z (let a = c (z / 16) in omega (arith, a, h)) in
      let no_box : times_in F l ≡ 0 = filtered l ls none in
      let Y = boxes_of S F ++ rest in
      let ok_Y = All-append IsNode (boxes_of S F) rest ok_F ok in
      let R1 = B ++ Y in
      let ok_R1 = All-append IsNode B Y ok_B ok_Y in
      let free_R1 = free_both l B Y (bundles_free l pairs closed.1 none) (free_both l (boxes_of S F) rest (boxes_free l F no_box) here) in
      let flat : (ns : List Node) → W free (arcs_of (zip (N u) (reverse (N v)) ++ bundles S pairs) ++ ns) ≡ W free (A ++ (B ++ ns)) =
      λ ns. ap (λ xs. W free (xs ++ ns)) (arcs_of-append (zip (N u) (reverse (N v))) (bundles S pairs)) ∙ ap (W free) (append_assoc A B ns) in
      let L : Bool → ℕ → ℕ = λ b k. W k (arcs_of (zip (N u) (reverse (N v)) ++ bundles S pairs) ++ (boxes_of S (cond b (l ∷ F) F) ++ rest)) in
      let G : Bool → ℕ → ℕ = λ b k. W k (loop_boxes (cond b (l ∷ F) F) ++ rest) in
      ⊎_elim
      (λ (t : boxed l ≡ true).
      let bx = box_at l ∷ [] in
      let lb = loop_box l ∷ [] in
      let ok_bx = All-cons IsNode (box_at l) [] (box_at_ok l) (All-nil IsNode) in
      let ok_lb = All-cons IsNode (loop_box l) [] (loop_box_ok l) (All-nil IsNode) in
      let tall : 2 ≤ length (S.first l) = (let a = sym whole.0 ∙ t in let b : 2 ≤ colour l = grind (arith, nat_tests, a) in let d = long l in omega (arith, b, d)) in
      let no = no_loops (S.first l) tall in
      let ih = close_all pairs closed.1 differ.1 whole.1 later (lb ++ rest) (All-append IsNode lb rest ok_lb ok)
      (λ z h. (let a = times_of-append z lb rest in let b = others z h in let d = loop_box_free (z / 16) l (λ s. (let q = ap (times_in ls) s in omega (arith, h, q, none))) z refl in omega (arith, a, b, d))) free in
      ap (λ b. L b free) t
      ∙ flat (bx ++ Y)
      ∙ ap (W free) (sym (append_assoc A B (bx ++ Y)))
      ∙ runs_exchanged p.modulus delta free (A ++ B) bx Y (All-append IsNode A B ok_A ok_B) ok_bx ok_Y
      ∙ ap (λ ns. W free (bx ++ ns)) (append_assoc A B Y)
      ∙ runs_exchanged p.modulus delta free bx A R1 ok_bx ok_A ok_R1
      ∙ close_box free u v closed.0 differ.0 R1 ok_R1 free_R1 t
      ∙ ap (λ ns. W free (lb ++ ns)) (sym (append_assoc B (boxes_of S F) rest))
      ∙ runs_exchanged p.modulus delta free lb (B ++ boxes_of S F) rest ok_lb (All-append IsNode B (boxes_of S F) ok_B ok_F) ok
      ∙ ap (W free) (append_assoc B (boxes_of S F) (lb ++ rest))
      ∙ ih
      ∙ runs_exchanged p.modulus delta (free + counts S ls) (loop_boxes F) lb rest (loop_boxes_ok F) ok_lb ok
      ∙ ap (λ k. W k (lb ++ (loop_boxes F ++ rest))) (let e : free + counts S ls ≡ free + counts S (l ∷ ls) = omega (arith, no) in e)
      ∙ sym (ap (λ b. G b (free + counts S (l ∷ ls))) t))
      (λ (t : boxed l ≡ false).
      let low : colour l ≤ 1 = (let a = sym whole.0 ∙ t in grind (arith, nat_tests, a)) in
      ap (λ b. L b free) t
      ∙ flat Y
      ∙ close_plain free u v closed.0 differ.0 R1 ok_R1 free_R1 t low
      ∙ close_all pairs closed.1 differ.1 whole.1 later rest ok others (free + loops_at (S.first l))
      ∙ ap (λ k. W k (loop_boxes F ++ rest)) (let e : free + loops_at (S.first l) + counts S ls ≡ free + counts S (l ∷ ls) = omega arith in e)
      ∙ sym (ap (λ b. G b (free + counts S (l ∷ ls))) t))
      (cases_Bool (boxed l))
    where
      filtered : (l : ℕ) (ls : List ℕ) → times_in ls l ≡ 0 → times_in (filter boxed ls) l ≡ 0
      filtered l ls h = times_filtered l ls ∙ nothing (boxed l) (times_in ls l) h
        where
          times_filtered : (l : ℕ) (ls : List ℕ) → times_in (filter boxed ls) l ≡ cond (boxed l) (times_in ls l) 0
          times_filtered l ls = times_in-filter boxed ls l

          nothing : (b : Bool) (n : ℕ) → n ≡ 0 → cond b n 0 ≡ 0
          nothing true n e = e
          nothing false n e = refl
