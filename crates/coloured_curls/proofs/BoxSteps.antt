-- A crossing of two neighbouring strands at a stub of an edge with a box is absorbed by the box, at either side.
use Rattle.std.proofs.Common.{◌≡◌, ◌≢◌, ℕ, suc, ◌+◌, ◌-◌, ◌*◌, ◌%◌, ◌^◌, ◌<◌, ◌≤◌, ◌==◌, Bool, true, cond, List, [], ◌∷◌, ◌++◌, map, length, slice_index, refl, sym, ap, ap₂, ◌∙◌, arith, ⊎_elim, All, subst, length-append}
use Rattle.std.specs.Set.{is_member}
use Rattle.std.proofs.lemmas.Bool.{cases_eq}
use Rattle.std.proofs.lemmas.Bool.Decides.{nat_tests}
use Rattle.std.proofs.lemmas.List.{map-append}
use Rattle.std.proofs.lemmas.List.Elements.{All-cons, All-head, All-nil, All-tail}
use Rattle.list_lemmas.specs.Times.{times_in}
use Rattle.list_lemmas.proofs.Times.{times_in-append, times_in-cons, times_of_member}
use Rattle.state_sums.specs.LocalSums.{crossing, rename}
use Rattle.state_sums.specs.Networks.{Node, Term, IsNode, IsPairing, names_of}
use Rattle.state_sums.specs.StateSums.{value}
use Rattle.state_sums.proofs.WrittenNodes.{IsNode-crossing}
use Rattle.strand_algebra.specs.Projectors.{IsProjector}
use Rattle.root_quantum.specs.Parameters.{Parameters}
use Rattle.root_quantum.specs.QuantumNumbers.{loop_value}
use Rattle.piece_laws.proofs.RenamedNodes.{rename-append}
use Rattle.pd_reader.specs.declared.item.Item.{Item}
use Rattle.cables.specs.CableNodes.{box_node}
use Rattle.cables.specs.Strands.{Strands}
use Rattle.cables.proofs.NameCounts.{at, times_of-append}
use Rattle.diagram_moves.specs.Rewriting.{crossing_labels}
use Rattle.diagram_moves.proofs.Paired.{loop_labels}
use Rattle.cable_crossings.proofs.BundleTurns.{runs_exchanged}
use Rattle.coloured_moves.proofs.StubItems.{half, at_stub, stub_nodes}
use Rattle.coloured_curls.specs.Boxes.{box_at, behind}
use Rattle.coloured_curls.proofs.AbsorbedTwists.{told_backwards}
use Rattle.cable_crossings.proofs.ToldCrossings.{listed}
use Rattle.coloured_curls.proofs.BoxedCurls.{box_lists}
use Rattle.coloured_curls.proofs.BoxedLetters.{boxed_letter}
use Rattle.coloured_curls.proofs.EdgeLetters as letters
use Rattle.coloured_curls.proofs.EdgeLetters.{AreNumbered, IsHigh}
use Rattle.coloured_curls.proofs.EdgeSteps.{put_first, changed_ok}
use Rattle.coloured_curls.proofs.LetterSteps.{AreNew, AreStubs, still_twice, weight, other_weight, with_letter}
use Rattle.coloured_curls.proofs.StubLetters.{changed, changed_length, changed_first, changed_second, changed_other, changed_times, put, put_here, put_other, put_count, loop_put}
use Rattle.coloured_curls.proofs.StubSlides.{letter_at, letter_times}
use Rattle.coloured_curls.proofs.SwappedNames.{AreFour, swap, swapped_value, stubs_renamed}

-- ---- beside a box of lists
module _ (m delta free x y c : ℕ) (f : List Term) (some : 0 < m) (few : suc c ≤ 8) (is : IsProjector m delta (suc c) f) (F E : List ℕ) (long_F : length F ≡ suc c) (long_E : length E ≡ suc c) (k u v : ℕ) (inside : k + 1 < suc c) (rest : List Node)
    (ok : All IsNode rest) (ok_box : IsNode (box_node 0 f F E))
    (twice : (z : ℕ) → 1 ≤ times_in (names_of (letter_at x y E k u v ∷ (box_node 0 f F E ∷ rest))) z → times_in (names_of (letter_at x y E k u v ∷ (box_node 0 f F E ∷ rest))) z ≡ 2) where
  abbrev V : List Node → ℕ
  V ns = value m delta record { nodes = ns; free_loops = free }

  abbrev n : ℕ
  n = suc c

  abbrev bottoms : ℕ → ℕ
  bottoms j = slice_index F j

  abbrev tops : ℕ → ℕ
  tops j = slice_index E (c - j)

  abbrev j : ℕ
  j = c - k - 1

  box_is : box_node 0 f F E ≡ box_at 0 n f bottoms tops
  box_is =
      ap₂ (box_node 0 f) (listed bottoms F n long_F (λ i l. refl)) (listed (λ i. tops (c - i)) E n long_E (λ i l. ap (slice_index E) (let e : i ≡ c - (c - i) = omega (arith, l) in e)))
      ∙ sym (box_lists 0 c f bottoms tops)

  changed_is : box_at 0 n f bottoms (behind tops j v u) ≡ box_node 0 f F (changed E k u v)
  changed_is =
      let T : ℕ → ℕ = behind tops j v u in
      let long_C = changed_length E k u v in
      box_lists 0 c f bottoms T
      ∙ sym (ap₂ (box_node 0 f) (listed bottoms F n long_F (λ i l. refl)) (listed (λ i. T (c - i)) (changed E k u v) n (long_C ∙ long_E) at_place))
    where
      up : k + 1 ≡ suc k
      up = omega arith

      at_place : (i : ℕ) → i < n → slice_index (changed E k u v) i ≡ behind tops j v u (c - i)
      at_place i l =
          ⊎_elim
          (λ (e : i ≡ k). ap (slice_index (changed E k u v)) e ∙ changed_first E k u v (omega (arith, inside, long_E)) ∙ sym (at_first i k c v u (tops (c - i)) inside e))
          (λ d. ⊎_elim
          (λ (e : i ≡ k + 1). ap (slice_index (changed E k u v)) (e ∙ up) ∙ changed_second E k u v (omega (arith, inside, long_E)) ∙ sym (at_second i k c v u (tops (c - i)) inside e))
          (λ e. changed_other E k u v i d e ∙ ap (slice_index E) (let s : i ≡ c - (c - i) = omega (arith, l) in s) ∙ sym (at_other i k c v u (tops (c - i)) inside l d e))
          (cases_eq i (k + 1)))
          (cases_eq i k)
        where
          at_first : (i k c p q s : ℕ) → k + 1 < suc c → i ≡ k → cond (c - i == c - k - 1) p (cond (c - i == c - k - 1 + 1) q s) ≡ q
          at_first i k c p q s h e = grind (arith, nat_tests, h, e)

          at_second : (i k c p q s : ℕ) → k + 1 < suc c → i ≡ k + 1 → cond (c - i == c - k - 1) p (cond (c - i == c - k - 1 + 1) q s) ≡ p
          at_second i k c p q s h e = grind (arith, nat_tests, h, e)

          at_other : (i k c p q s : ℕ) → k + 1 < suc c → i < suc c → i ≢ k → i ≢ k + 1 → cond (c - i == c - k - 1) p (cond (c - i == c - k - 1 + 1) q s) ≡ s
          at_other i k c p q s h l d e = grind (arith, nat_tests, h, l, d, e)

  -- BESIDE A BOX
  pub box_absorbs : V (letter_at x y E k u v ∷ (box_node 0 f F E ∷ rest)) ≡ x * V (box_node 0 f F (changed E k u v) ∷ rest) % m
  box_absorbs =
      let pn = slice_index E k in
      let qn = slice_index E (suc k) in
      let L = crossing x y pn u v qn in
      let B = box_node 0 f F E in
      let okL : IsNode L = IsNode-crossing x y pn u v qn in
      let first : tops (j + 1) ≡ pn = ap (slice_index E) (let e : c - (c - k - 1 + 1) ≡ k = omega (arith, inside) in e) in
      let second : tops j ≡ qn = ap (slice_index E) (let e : c - (c - k - 1) ≡ suc k = omega (arith, inside) in e) in
      let told : L ≡ crossing x y (tops (j + 1)) u v (tops j) = ap₂ (λ a b. crossing x y a u v b) (sym first) (sym second) in
      told_backwards m delta free x y qn v u pn (B ∷ rest) (All-cons IsNode B rest ok_box ok)
      ∙ runs_exchanged m delta free (L ∷ []) (B ∷ []) rest (All-cons IsNode L [] okL (All-nil IsNode)) (All-cons IsNode B [] ok_box (All-nil IsNode)) ok
      ∙ ap₂ (λ a b. V (a ∷ b ∷ rest)) box_is told
      ∙ boxed_letter m delta x y 0 n j f some few (omega (arith, inside)) is bottoms tops v u free rest ok
      (λ z one. (
      let a = ap₂ (λ a b. times_in (names_of (a ∷ b ∷ rest)) z) box_is told in
      let b = letter_times x y E k u v z (B ∷ rest) in
      let d = turned_times z pn qn in
      let e = times_in-append (F ++ E) (names_of (L ∷ rest)) z in
      let g = times_in-append (F ++ E) (names_of rest) z in
      let two = twice z (omega (arith, a, b, d, e, g, one)) in
      omega (arith, a, b, d, e, g, two)))
      ∙ ap (λ node. x * V (node ∷ rest) % m) changed_is
    where
      turned_times : (z pn qn : ℕ) → times_in (names_of (crossing x y pn u v qn ∷ rest)) z ≡ at z pn + at z qn + at z u + at z v + times_in (names_of rest) z
      turned_times z pn qn =
          let a = times_in-cons pn (u ∷ v ∷ qn ∷ names_of rest) z in let b = times_in-cons u (v ∷ qn ∷ names_of rest) z in let c = times_in-cons v (qn ∷ names_of rest) z in let d = times_in-cons qn (names_of rest) z in
          omega (arith, a, b, c, d)

-- ---- in a diagram: the box stands between the stubs v and w
module _ (p : Parameters) (free : ℕ) (t : Bool) (S : Strands) (K : List Node) (n0 g0 i0 lg0 : ℕ) (D : List Item) (f0 : List Term) (other w : ℕ) (same_label : half other ≡ half w) (apart_stubs : other ≢ w)
    (are : AreStubs p S (box_node 0 f0 (at_stub S other) (at_stub S w) ∷ K) n0 g0 i0 lg0 D) (numbered : AreNumbered S D) (stands : 1 ≤ times_in (crossing_labels D) w) (c : ℕ) (is : IsProjector p.modulus (loop_value p) (suc c) f0)
    (long_other : length (at_stub S other) ≡ suc c) (long_w : length (at_stub S w) ≡ suc c) where
  abbrev F : List ℕ
  F = at_stub S other

  abbrev E : List ℕ
  E = at_stub S w

  abbrev B : Node
  B = box_node 0 f0 F E

  abbrev base : List ℕ
  base = names_of ((B ∷ K) ++ stub_nodes p S [] n0 g0 i0 lg0 D)

  abbrev N : Strands → List Node
  N T = stub_nodes p T [] n0 g0 i0 lg0 D

  abbrev W : List Node → ℕ
  W ns = value p.modulus (loop_value p) record { nodes = ns; free_loops = free }

  few_c : suc c ≤ 8
  few_c = let a = are.few w in omega (arith, a, long_w)

  some : 0 < p.modulus
  some = let h = p.meets.modulus.0 in omega (arith, h)

  ok_B : IsNode B
  ok_B = All-head IsNode B K are.nodes

  ok_K : All IsNode K
  ok_K = All-tail IsNode B K are.nodes

  base_count : (z : ℕ) → times_in base z ≡ times_in F z + times_in E z + times_in (names_of K) z + times_in (names_of (N S)) z
  base_count z =
      let a = times_of-append z (B ∷ K) (N S) in
      let b = times_in-append (F ++ E) (names_of K) z in
      let d = times_in-append F E z in
      omega (arith, a, b, d)

  module _ (k : ℕ) (inside : k + 1 < suc c) (u v : ℕ) (high_u : IsHigh u) (high_v : IsHigh v) (new : AreNew base u v) where
    abbrev pn : ℕ
    pn = slice_index E k

    abbrev qn : ℕ
    qn = slice_index E (suc k)

    abbrev f : ℕ → ℕ
    f = swap pn qn u v

    abbrev ys : List ℕ
    ys = changed E k u v

    abbrev S1 : Strands
    S1 = put S w ys

    in_E : k + 1 < length E
    in_E = omega (arith, inside, long_w)

    four : AreFour pn qn u v
    four = letters.are_four p free t S (B ∷ K) n0 g0 i0 lg0 D are numbered w stands k in_E u v high_u high_v new.apart

    -- the strands stand in the box and at the stub, and nowhere else
    gone : (z : ℕ) → z < 2 ^ 25 → 1 ≤ times_in E z → (times_in F z ≡ 0) × (times_in (names_of K) z ≡ 0)
    gone z low o =
        let b = base_count z in
        let s = letters.stub_count p free t S (B ∷ K) n0 g0 i0 lg0 D are numbered w z low stands in
        let tw = are.twice z (omega (arith, b, o)) in
        (omega (arith, b, s, o, tw), omega (arith, b, s, o, tw))

    own_first : 1 ≤ times_in E pn
    own_first = letters.own p free t S (B ∷ K) n0 g0 i0 lg0 D are numbered w stands k in_E u v high_u high_v new.apart k (omega (arith, in_E))

    own_second : 1 ≤ times_in E qn
    own_second = letters.own p free t S (B ∷ K) n0 g0 i0 lg0 D are numbered w stands k in_E u v high_u high_v new.apart (suc k) (omega (arith, in_E))

    at_first : (times_in F pn ≡ 0) × (times_in (names_of K) pn ≡ 0)
    at_first = gone pn (letters.low_first p free t S (B ∷ K) n0 g0 i0 lg0 D are numbered w stands k in_E u v high_u high_v new.apart) own_first

    at_second : (times_in F qn ≡ 0) × (times_in (names_of K) qn ≡ 0)
    at_second = gone qn (letters.low_second p free t S (B ∷ K) n0 g0 i0 lg0 D are numbered w stands k in_E u v high_u high_v new.apart) own_second

    K_fixed : rename f K ≡ K
    K_fixed =
        let bu = base_count u in let bv = base_count v in let nu = new.no_left in let nv = new.no_right in
        letters.nodes_fixed p free t S (B ∷ K) n0 g0 i0 lg0 D are numbered w stands k in_E u v high_u high_v new.apart K at_first.1 at_second.1 (omega (arith, bu, nu)) (omega (arith, bv, nv))

    F_fixed : map f F ≡ F
    F_fixed =
        let bu = base_count u in let bv = base_count v in let nu = new.no_left in let nv = new.no_right in
        letters.all_fixed p free t S (B ∷ K) n0 g0 i0 lg0 D are numbered w stands k in_E u v high_u high_v new.apart F
        (λ z one.
        let away : (y : ℕ) → times_in F y ≡ 0 → z ≢ y = λ y none e. (let s = ap (times_in F) e in omega (arith, s, none, one)) in
        other_names z (away pn at_first.0) (away qn at_second.0) (away u (omega (arith, bu, nu))) (away v (omega (arith, bv, nv))))
      where
        other_names : (z : ℕ) → z ≢ pn → z ≢ qn → z ≢ u → z ≢ v → f z ≡ z
        other_names z a b c d = grind (arith, nat_tests, a, b, c, d)

    back : map f ys ≡ E
    back = letters.list_back p free t S (B ∷ K) n0 g0 i0 lg0 D are numbered w stands k in_E u v high_u high_v new.apart

    away : (l : ℕ) → is_member ◌==◌ (loop_labels D) l ≡ true → 2 * l ≢ w
    away l m e = let none = are.loops l (2 * l) m (let q : half (2 * l) ≡ l = omega arith in q) in let s = ap (times_in (crossing_labels D)) e in omega (arith, none, s, stands)

    at_stubs : (i : ℕ) → is_member ◌==◌ (crossing_labels D) i ≡ true → map f (at_stub S1 i) ≡ at_stub S i
    at_stubs i m =
        ⊎_elim
        (λ (e : i ≡ w). ap (λ a. map f (at_stub S1 a)) e ∙ ap (map f) (put_here S w ys) ∙ back ∙ sym (ap (at_stub S) e))
        (λ d. ap (map f) (put_other S w i ys d)
        ∙ ⊎_elim
        (λ (e : i ≡ other). ap (λ a. map f (at_stub S a)) e ∙ F_fixed ∙ sym (ap (at_stub S) e))
        (λ e. letters.stub_fixed p free t S (B ∷ K) n0 g0 i0 lg0 D are numbered w stands k in_E u v high_u high_v new.apart i (times_of_member i (crossing_labels D) m)
        (λ h. three i other w d e apart_stubs h same_label))
        (cases_eq i other))
        (cases_eq i w)
      where
        three : (i v w : ℕ) → i ≢ w → i ≢ v → v ≢ w → half i ≡ half w → half v ≡ half w → ⊥
        three i v w a b c d e = omega (arith, a, b, c, d, e)

    at_loops : (i : ℕ) → is_member ◌==◌ (loop_labels D) i ≡ true → map f (S1.first i) ≡ S.first i
    at_loops i m = ap (map f) (put_first S w i ys (away i m)) ∙ letters.loop_fixed p free t S (B ∷ K) n0 g0 i0 lg0 D are numbered w stands k in_E u v high_u high_v new.apart i m

    abbrev rest : List Node
    rest = K ++ N S1

    all_ok : All IsNode (letter_at (weight p t) (other_weight p t) E k u v ∷ ((B ∷ K) ++ N S1))
    all_ok = changed_ok p free t S (B ∷ K) n0 g0 i0 lg0 D are numbered w k u v stands

    rest_ok : All IsNode rest
    rest_ok = All-tail IsNode B rest (All-tail IsNode (letter_at (weight p t) (other_weight p t) E k u v) (B ∷ rest) all_ok)

    ok_changed : IsNode (box_node 0 f0 F ys)
    ok_changed =
        let a = length-append F E in let b = length-append F ys in let g = changed_length E k u v in
        subst (λ k. All (λ term. IsPairing term.partner × (length term.partner ≡ k)) f0) (let e : length (F ++ E) ≡ length (F ++ ys) = omega (arith, a, b, g) in e) ok_B

    box_back : rename f (box_node 0 f0 F ys ∷ rest) ≡ B ∷ (K ++ N S)
    box_back =
        ap₂ (λ es ns. record { group = 0; ends = es; terms = f0 } ∷ ns) (map-append f F ys ∙ ap₂ (λ xs ys. xs ++ ys) F_fixed back)
        (rename-append f K (N S1)
        ∙ ap₂ (λ xs ys. xs ++ ys) K_fixed
        (stubs_renamed p f S1 S (letters.inner_fixed p free t S (B ∷ K) n0 g0 i0 lg0 D are numbered w stands k in_E u v high_u high_v new.apart) (loop_put S w ys) n0 g0 i0 lg0 D are.sizes at_stubs at_loops))

    -- how often names stand where the strands are changed
    swapped_counts : (z : ℕ) → times_in (names_of (N S1)) z + times_in E z ≡ times_in (names_of (N S)) z + times_in ys z
    swapped_counts z = let o = are.once w in put_count p S w ys (changed_length E k u v) n0 g0 i0 lg0 D are.sizes are.straight (omega (arith, o, stands)) away z

    -- AT THE BOX
    pub box_step : W (with_letter p t S (B ∷ K) n0 g0 i0 lg0 D w k u v) ≡ weight p t * W ((B ∷ K) ++ N S) % p.modulus
    box_step =
        box_absorbs p.modulus (loop_value p) free (weight p t) (other_weight p t) c f0 some few_c is F E long_other long_w k u v inside rest rest_ok ok_B
        (λ z one. (
        let a = letter_times (weight p t) (other_weight p t) E k u v z (B ∷ rest) in
        let b = times_in-append (F ++ E) (names_of rest) z in
        let d = times_in-append F E z in
        let e = times_of-append z K (N S1) in
        let g = swapped_counts z in
        let h = changed_times E k u v z in_E in
        let i = base_count z in
        still_twice base u v new are.twice z (times_in (names_of (letter_at (weight p t) (other_weight p t) E k u v ∷ (B ∷ rest))) z) (omega (arith, a, b, d, e, g, h, i)) one))
        ∙ ap (λ j. weight p t * j % p.modulus) (swapped_value pn qn u v four p.modulus (loop_value p) free (box_node 0 f0 F ys ∷ rest) (All-cons IsNode (box_node 0 f0 F ys) rest ok_changed rest_ok) ∙ ap W box_back)
