-- A crossing of two neighbouring strands walks along a component, crossing by crossing and edge by edge, to the component's box, which absorbs it: so at
-- each stub of the component it counts as its weight of going straight on.
use Rattle.std.proofs.Common.{◌≡◌, ℕ, zero, suc, ◌+◌, ◌-◌, ◌*◌, ◌%◌, ◌<◌, ◌≤◌, ◌⊎◌, inl, inr, Bool, List, [], ◌∷◌, ◌++◌, length, reverse, refl, sym, ap, ◌∙◌, arith, ⊎_elim, All, subst, length-append, Contains}
use Rattle.std.specs.List.{AllByRecursion}
use Rattle.std.proofs.lemmas.Bool.Decides.{nat_tests}
use Rattle.std.proofs.lemmas.List.{length-reverse}
use Rattle.std.proofs.lemmas.List.Elements.{All-append, All-cons, All-head, All-nil, All-tail}
use Rattle.graph_parts.specs.Walks.{Joined, along, stay, back, on}
use Rattle.list_lemmas.specs.Times.{times_in}
use Rattle.list_lemmas.proofs.Times.{times_in-append}
use Rattle.state_sums.specs.Networks.{Node, Term, IsNode, IsPairing, names_of}
use Rattle.state_sums.specs.StateSums.{value}
use Rattle.strand_algebra.specs.Projectors.{IsProjector}
use Rattle.root_quantum.specs.Parameters.{Parameters}
use Rattle.root_quantum.specs.QuantumNumbers.{loop_value}
use Rattle.pd_reader.specs.declared.item.Item.{Item}
use Rattle.pd_reader.specs.declared.item.Item.TheVariants as item
use Rattle.pd_reader.specs.Items.{HasItsSlots}
use Rattle.planar_check.specs.Components.{strand_edges}
use Rattle.cables.specs.CableNodes.{box_node}
use Rattle.cables.specs.Strands.{Strands}
use Rattle.cables.proofs.NameCounts.{at}
use Rattle.diagram_moves.specs.Rewriting.{crossing_labels}
use Rattle.coloured_moves.proofs.StubItems.{half, halved, at_stub, stub_nodes}
use Rattle.coloured_curls.proofs.BoxedLoops.{half_turned}
use Rattle.coloured_curls.proofs.BoxSteps.{box_step}
use Rattle.coloured_curls.proofs.EdgeLetters.{AreNumbered, IsHigh}
use Rattle.coloured_curls.proofs.EdgeSteps.{changed_ok, edge_step}
use Rattle.coloured_curls.proofs.LetterSteps.{AreNew, AreStubs, labels_times, weight, other_weight, with_letter, opposite_lengths, first_to_third, second_to_fourth}
use Rattle.coloured_curls.proofs.StubLetters.{changed, even_or_odd, four_times, put}
use Rattle.coloured_curls.proofs.StubSlides.{letter_at}

-- ---- the crossing of a strand's edge
edge_item : (D : List Item) → AllByRecursion HasItsSlots D → (a b : ℕ) → Contains (strand_edges (halved D)) (a, b) →
    (pre : List Item) × (post : List Item) × (w0 : ℕ) × (w1 : ℕ) × (w2 : ℕ) × (w3 : ℕ) × (D ≡ pre ++ item.X (w0 ∷ w1 ∷ w2 ∷ w3 ∷ []) ∷ post) × (((half w0 ≡ a) × (half w2 ≡ b)) ⊎ ((half w1 ≡ a) × (half w3 ≡ b)))
edge_item [] sizes a b w = absurd (omega (arith, w.1))
edge_item (item.Loop l ∷ rest) sizes a b w =
    let r = edge_item rest sizes.1 a b w in
    (item.Loop l ∷ r.0, r.1, r.2, r.3, r.4, r.5, ap (λ is. item.Loop l ∷ is) r.6, r.7)
edge_item (item.X (s0 ∷ s1 ∷ s2 ∷ s3 ∷ []) ∷ rest) sizes a b (zero, l, q) = ([], rest, s0, s1, s2, s3, refl, inl (ap (λ (z : ℕ × ℕ). z.0) q, ap (λ (z : ℕ × ℕ). z.1) q))
edge_item (item.X (s0 ∷ s1 ∷ s2 ∷ s3 ∷ []) ∷ rest) sizes a b (suc zero, l, q) = ([], rest, s0, s1, s2, s3, refl, inr (ap (λ (z : ℕ × ℕ). z.0) q, ap (λ (z : ℕ × ℕ). z.1) q))
edge_item (item.X (s0 ∷ s1 ∷ s2 ∷ s3 ∷ []) ∷ rest) sizes a b (suc (suc i), l, q) =
    let slots = s0 ∷ s1 ∷ s2 ∷ s3 ∷ [] in
    let r = edge_item rest sizes.1 a b (i, omega (arith, l), q) in
    (item.X slots ∷ r.0, r.1, r.2, r.3, r.4, r.5, ap (λ is. item.X slots ∷ is) r.6, r.7)
edge_item (item.X [] ∷ rest) sizes a b w = absurd (omega (arith, sizes.0))
edge_item (item.X (s0 ∷ []) ∷ rest) sizes a b w = absurd (omega (arith, sizes.0))
edge_item (item.X (s0 ∷ s1 ∷ []) ∷ rest) sizes a b w = absurd (omega (arith, sizes.0))
edge_item (item.X (s0 ∷ s1 ∷ s2 ∷ []) ∷ rest) sizes a b w = absurd (omega (arith, sizes.0))
edge_item (item.X (s0 ∷ s1 ∷ s2 ∷ s3 ∷ s4 ∷ slots) ∷ rest) sizes a b w = absurd (omega (arith, sizes.0))

-- ---- stubs at which a small crossing counts as its weight
module _ (p : Parameters) (free : ℕ) (t : Bool) (S : Strands) (K : List Node) (n0 g0 i0 lg0 : ℕ) where
  abbrev V : List Node → ℕ
  V ns = value p.modulus (loop_value p) record { nodes = ns; free_loops = free }

  abbrev pub IsFree : List Item → ℕ → Type 0
  IsFree D w =
      (k u v : ℕ) → k + 1 < length (at_stub S w) → IsHigh u → IsHigh v → AreNew (names_of (K ++ stub_nodes p S [] n0 g0 i0 lg0 D)) u v →
      V (with_letter p t S K n0 g0 i0 lg0 D w k u v) ≡ weight p t * V (K ++ stub_nodes p S [] n0 g0 i0 lg0 D) % p.modulus

  at_crossing : (D pre post : List Item) (w0 w1 w2 w3 : ℕ) → D ≡ pre ++ item.X (w0 ∷ w1 ∷ w2 ∷ w3 ∷ []) ∷ post → AreStubs p S K n0 g0 i0 lg0 D →
      (IsFree D w0 → IsFree D w2) × (IsFree D w2 → IsFree D w0) × (IsFree D w1 → IsFree D w3) × (IsFree D w3 → IsFree D w1)
  at_crossing D pre post w0 w1 w2 w3 e are =
      let E = pre ++ item.X (w0 ∷ w1 ∷ w2 ∷ w3 ∷ []) ∷ post in
      let P : List Item → Type 0 = λ D. AreStubs p S K n0 g0 i0 lg0 D → (IsFree D w0 → IsFree D w2) × (IsFree D w2 → IsFree D w0) × (IsFree D w1 → IsFree D w3) × (IsFree D w3 → IsFree D w1) in
      subst P (sym e) (λ here.
      let long = opposite_lengths S pre post w0 w1 w2 w3 here.straight in
      let la = long.0 in let lb = long.1 in
      let a = length (at_stub S w0) in
      let b = length (at_stub S w1) in (
        (λ f k u v l hu hv new.
            let back : a - 2 - (a - 2 - k) ≡ k = omega (arith, l, la) in
            ap (λ j. V (with_letter p t S K n0 g0 i0 lg0 E w2 j u v)) (sym back) ∙ sym (first_to_third p free t S K n0 g0 i0 lg0 pre post w0 w1 w2 w3 here (a - 2 - k) u v new (omega (arith, l, la)))
            ∙ f (a - 2 - k) u v (omega (arith, l, la)) hu hv new),
        (λ f k u v l hu hv new. first_to_third p free t S K n0 g0 i0 lg0 pre post w0 w1 w2 w3 here k u v new l ∙ f (a - 2 - k) u v (omega (arith, l, la)) hu hv new),
        (λ f k u v l hu hv new.
            let back : b - 2 - (b - 2 - k) ≡ k = omega (arith, l, lb) in
            ap (λ j. V (with_letter p t S K n0 g0 i0 lg0 E w3 j u v)) (sym back) ∙ sym (second_to_fourth p free t S K n0 g0 i0 lg0 pre post w0 w1 w2 w3 here (b - 2 - k) u v new (omega (arith, l, lb)))
            ∙ f (b - 2 - k) u v (omega (arith, l, lb)) hu hv new),
        (λ f k u v l hu hv new. second_to_fourth p free t S K n0 g0 i0 lg0 pre post w0 w1 w2 w3 here k u v new l ∙ f (b - 2 - k) u v (omega (arith, l, lb)) hu hv new),
      )) are

  -- ---- along the edges
  module _ (D : List Item) (are : AreStubs p S K n0 g0 i0 lg0 D) (numbered : AreNumbered S D) where
    abbrev base : List ℕ
    base = names_of (K ++ stub_nodes p S [] n0 g0 i0 lg0 D)

    abbrev Stands : ℕ → Type 0
    Stands w = 1 ≤ times_in (crossing_labels D) w

    abbrev IsPlain : ℕ → Type 0
    IsPlain l = Stands (2 * l) → Stands (2 * l + 1) → at_stub S (2 * l + 1) ≡ reverse (at_stub S (2 * l))

    abbrev pub AllFree : ℕ → Type 0
    AllFree l = (Stands (2 * l) → IsFree D (2 * l)) × (Stands (2 * l + 1) → IsFree D (2 * l + 1))

    exchanged_new : (u v : ℕ) → AreNew base u v → AreNew base v u
    exchanged_new u v new = record { apart = λ e. new.apart (sym e); no_left = new.no_right; no_right = new.no_left }

    to_first : (l : ℕ) → IsPlain l → Stands (2 * l) → Stands (2 * l + 1) → IsFree D (2 * l + 1) → IsFree D (2 * l)
    to_first l plain one two f k u v h hu hv new =
        let e = plain one two in
        let n = length (at_stub S (2 * l)) in
        let long : length (at_stub S (2 * l + 1)) ≡ n = ap length e ∙ length-reverse (at_stub S (2 * l)) in
        edge_step p free t S K n0 g0 i0 lg0 D are numbered l one two e k h u v hu hv new
        ∙ f (n - 2 - k) v u (omega (arith, h, long)) hv hu (exchanged_new u v new)

    to_second : (l : ℕ) → IsPlain l → Stands (2 * l) → Stands (2 * l + 1) → IsFree D (2 * l) → IsFree D (2 * l + 1)
    to_second l plain one two f k u v h hu hv new =
        let e = plain one two in
        let n = length (at_stub S (2 * l)) in
        let long : length (at_stub S (2 * l + 1)) ≡ n = ap length e ∙ length-reverse (at_stub S (2 * l)) in
        let back : n - 2 - (n - 2 - k) ≡ k = omega (arith, h, long) in
        ap (λ j. V (with_letter p t S K n0 g0 i0 lg0 D (2 * l + 1) j u v)) (sym back)
        ∙ sym (edge_step p free t S K n0 g0 i0 lg0 D are numbered l one two e (n - 2 - k) (omega (arith, h, long)) v u hv hu (exchanged_new u v new))
        ∙ f (n - 2 - k) v u (omega (arith, h, long)) hv hu (exchanged_new u v new)

    spread : (w : ℕ) → (AllFree (half w)) ⊎ (IsPlain (half w)) → Stands w → IsFree D w → AllFree (half w)
    spread w (inl all) h f = all
    spread w (inr plain) h f =
        let F : ℕ → Type 0 = λ i. IsFree D i in
        let G : ℕ → Type 0 = λ i. Stands i in
        ⊎_elim
        (λ e. (let g = subst F e.0 f in let s = subst G e.0 h in ((λ o. g), (λ o. to_second (half w) plain s o g))))
        (λ e. (let g = subst F e.0 f in let s = subst G e.0 h in ((λ o. to_first (half w) plain o s g), (λ o. g))))
        (even_or_odd w)

    pub at_label : (w : ℕ) → Stands w → AllFree (half w) → IsFree D w
    at_label w h all =
        let F : ℕ → Type 0 = λ i. IsFree D i in
        let G : ℕ → Type 0 = λ i. Stands i in
        ⊎_elim (λ e. subst F (sym e.0) (all.0 (subst G e.0 h))) (λ e. subst F (sym e.0) (all.1 (subst G e.0 h))) (even_or_odd w)

    module _ (R : List Item) (is : halved D ≡ R) (start : ℕ) (cases : (l : ℕ) → Joined (strand_edges R) start l → (AllFree l) ⊎ (IsPlain l)) where
      stands_at : (pre post : List Item) (w0 w1 w2 w3 w : ℕ) → D ≡ pre ++ item.X (w0 ∷ w1 ∷ w2 ∷ w3 ∷ []) ∷ post → 1 ≤ at w w0 + at w w1 + at w w2 + at w w3 → Stands w
      stands_at pre post w0 w1 w2 w3 w e h =
          let a = ap (λ xs. times_in (crossing_labels xs) w) e in
          let b = labels_times pre (item.X (w0 ∷ w1 ∷ w2 ∷ w3 ∷ []) ∷ post) w in
          let c = times_in-append (w0 ∷ w1 ∷ w2 ∷ w3 ∷ []) (crossing_labels post) w in
          let d = four_times w w0 w1 w2 w3 in
          omega (arith, a, b, c, d, h)

      own : (w : ℕ) → at w w ≡ 1
      own w = grind (arith, nat_tests)

      from_to : (w v a b : ℕ) → half w ≡ a → half v ≡ b → Stands w → Stands v → (IsFree D w → IsFree D v) → Joined (strand_edges R) start b → AllFree a → AllFree b
      from_to w v a b ea eb sw sv f here all =
          let P : ℕ → Type 0 = λ i. AllFree i in
          let Q : ℕ → Type 0 = λ i. Joined (strand_edges R) start i in
          subst P eb (spread v (cases (half v) (subst Q (sym eb) here)) sv (f (at_label w sw (subst P (sym ea) all))))

      one_edge : (a b : ℕ) → Contains (strand_edges R) (a, b) → Joined (strand_edges R) start a → (AllFree a → AllFree b) × (AllFree b → AllFree a)
      one_edge a b w here =
          let there : Joined (strand_edges R) start b = on here (along w) in
          let P : List Item → Type 0 = λ xs. Contains (strand_edges xs) (a, b) in
          let r = edge_item D are.sizes a b (subst P (sym is) w) in
          let pre = r.0 in let post = r.1 in let w0 = r.2 in let w1 = r.3 in let w2 = r.4 in let w3 = r.5 in
          let e : D ≡ pre ++ item.X (w0 ∷ w1 ∷ w2 ∷ w3 ∷ []) ∷ post = r.6 in
          let c = at_crossing D pre post w0 w1 w2 w3 e are in
          let s0 = stands_at pre post w0 w1 w2 w3 w0 e (let o = own w0 in omega (arith, o)) in
          let s1 = stands_at pre post w0 w1 w2 w3 w1 e (let o = own w1 in omega (arith, o)) in
          let s2 = stands_at pre post w0 w1 w2 w3 w2 e (let o = own w2 in omega (arith, o)) in
          let s3 = stands_at pre post w0 w1 w2 w3 w3 e (let o = own w3 in omega (arith, o)) in
          ⊎_elim
          (λ h. (from_to w0 w2 a b h.0 h.1 s0 s2 c.0 there, from_to w2 w0 b a h.1 h.0 s2 s0 c.1 here))
          (λ h. (from_to w1 w3 a b h.0 h.1 s1 s3 c.2 there, from_to w3 w1 b a h.1 h.0 s3 s1 c.3 here))
          r.7

      -- ALONG A COMPONENT
      pub along_component : {x y : ℕ} → Joined (strand_edges R) x y → Joined (strand_edges R) start x → (AllFree x → AllFree y) × (AllFree y → AllFree x)
      along_component (along {x = x} {y = y} w) here = one_edge x y w here
      along_component stay here = ((λ a. a), (λ a. a))
      along_component (back j) here = let r = along_component j (on here (back j)) in (r.1, r.0)
      along_component (on i j) here = let r = along_component i here in let s = along_component j (on here i) in ((λ a. s.0 (r.0 a)), (λ a. r.1 (s.1 a)))

-- ---- the label with the box
module _ (p : Parameters) (free : ℕ) (t : Bool) (S : Strands) (K : List Node) (n0 g0 i0 lg0 : ℕ) (D : List Item) (f0 : List Term) (l c : ℕ) (is : IsProjector p.modulus (loop_value p) (suc c) f0)
    (long_first : length (at_stub S (2 * l)) ≡ suc c) (long_second : length (at_stub S (2 * l + 1)) ≡ suc c)
    (are : AreStubs p S (box_node 0 f0 (at_stub S (2 * l)) (at_stub S (2 * l + 1)) ∷ K) n0 g0 i0 lg0 D) (numbered : AreNumbered S D) where
  abbrev F : List ℕ
  F = at_stub S (2 * l)

  abbrev E : List ℕ
  E = at_stub S (2 * l + 1)

  abbrev N : List Node
  N = stub_nodes p S [] n0 g0 i0 lg0 D

  abbrev W : List Node → ℕ
  W ns = value p.modulus (loop_value p) record { nodes = ns; free_loops = free }

  few_c : suc c ≤ 8
  few_c = let a = are.few (2 * l) in omega (arith, a, long_first)

  some : 0 < p.modulus
  some = let h = p.meets.modulus.0 in omega (arith, h)

  ok_box : IsNode (box_node 0 f0 F E)
  ok_box = All-head IsNode (box_node 0 f0 F E) K are.nodes

  ok_K : All IsNode K
  ok_K = All-tail IsNode (box_node 0 f0 F E) K are.nodes

  ok_turned : IsNode (box_node 0 f0 E F)
  ok_turned =
      let a = length-append E F in let b = length-append F E in
      subst (λ k. All (λ term. IsPairing term.partner × (length term.partner ≡ k)) f0) (let e : length (F ++ E) ≡ length (E ++ F) = omega (arith, a, b) in e) ok_box

  turned_counts : (z : ℕ) → times_in (names_of ((box_node 0 f0 E F ∷ K) ++ N)) z ≡ times_in (names_of ((box_node 0 f0 F E ∷ K) ++ N)) z
  turned_counts z =
      let a = times_in-append (E ++ F) (names_of (K ++ N)) z in let b = times_in-append E F z in
      let c = times_in-append (F ++ E) (names_of (K ++ N)) z in let d = times_in-append F E z in
      omega (arith, a, b, c, d)

  turned_are : AreStubs p S (box_node 0 f0 E F ∷ K) n0 g0 i0 lg0 D
  turned_are = record {
    nodes = All-cons IsNode (box_node 0 f0 E F) K ok_turned ok_K;
    crossings = are.crossings;
    sizes = are.sizes;
    straight = are.straight;
    few = are.few;
    once = are.once;
    loops = are.loops;
    twice = λ z one. (let e = turned_counts z in let two = are.twice z (omega (arith, e, one)) in omega (arith, e, two));
  }

  turned_new : (u v : ℕ) → AreNew (names_of ((box_node 0 f0 F E ∷ K) ++ N)) u v → AreNew (names_of ((box_node 0 f0 E F ∷ K) ++ N)) u v
  turned_new u v new = record { apart = new.apart; no_left = turned_counts u ∙ new.no_left; no_right = turned_counts v ∙ new.no_right }

  -- AT THE LABEL OF THE BOX
  pub boxed_label : AllFree p free t S (box_node 0 f0 F E ∷ K) n0 g0 i0 lg0 D are numbered l
  boxed_label = (
    (λ h k u v inside hu hv new.
        let A = letter_at (weight p t) (other_weight p t) F k u v in
        let M = stub_nodes p (put S (2 * l) (changed F k u v)) [] n0 g0 i0 lg0 D in
        let all = changed_ok p free t S (box_node 0 f0 F E ∷ K) n0 g0 i0 lg0 D are numbered (2 * l) k u v h in
        let ok_A : All IsNode (A ∷ []) = All-cons IsNode A [] (All-head IsNode A ((box_node 0 f0 F E ∷ K) ++ M) all) (All-nil IsNode) in
        let ok_KM : All IsNode (K ++ M) = All-tail IsNode (box_node 0 f0 F E) (K ++ M) (All-tail IsNode A (box_node 0 f0 F E ∷ (K ++ M)) all) in
        half_turned p.modulus (loop_value p) free (suc c) f0 F E (A ∷ []) (K ++ M) some few_c is long_first long_second ok_A ok_KM ok_box ok_turned
        ∙ box_step p free t S K n0 g0 i0 lg0 D f0 (2 * l + 1) (2 * l) (omega arith) (λ e. omega (arith, e)) turned_are numbered h c is long_second long_first k (omega (arith, inside, long_first)) u v hu hv (turned_new u v new)
        ∙ ap (λ j. weight p t * j % p.modulus)
        (sym (half_turned p.modulus (loop_value p) free (suc c) f0 F E [] (K ++ N) some few_c is long_first long_second (All-nil IsNode) (All-append IsNode K N ok_K are.crossings) ok_box ok_turned))),
    (λ h k u v inside hu hv new.
        box_step p free t S K n0 g0 i0 lg0 D f0 (2 * l) (2 * l + 1) (omega arith) (λ e. omega (arith, e)) are numbered h c is long_first long_second k (omega (arith, inside, long_second)) u v hu hv new),
  )
