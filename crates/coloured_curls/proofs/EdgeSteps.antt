-- A crossing of two neighbouring strands steps along an edge without a box, and is absorbed by the box of an edge with one.
use Rattle.std.proofs.Common.{◌≡◌, ◌≢◌, ℕ, suc, ◌+◌, ◌-◌, ◌*◌, ◌^◌, ◌<◌, ◌≤◌, ◌==◌, Bool, true, cond, List, [], ◌∷◌, ◌++◌, map, length, reverse, slice_index, sym, ap, ap₂, ◌∙◌, arith, ⊎_elim, All}
use Rattle.std.specs.Set.{is_member}
use Rattle.std.proofs.lemmas.Bool.{cases_eq}
use Rattle.std.proofs.lemmas.Bool.Decides.{nat_tests}
use Rattle.std.proofs.lemmas.List.{get_or-reverse, length-reverse}
use Rattle.std.proofs.lemmas.List.Elements.{All-append, All-cons, All-tail}
use Rattle.list_lemmas.specs.Times.{times_in}
use Rattle.list_lemmas.proofs.Times.{times_of_member}
use Rattle.state_sums.specs.LocalSums.{crossing, rename}
use Rattle.state_sums.specs.Networks.{Node, IsNode, names_of}
use Rattle.state_sums.specs.StateSums.{value}
use Rattle.state_sums.proofs.WrittenNodes.{IsNode-crossing}
use Rattle.root_quantum.specs.Parameters.{Parameters}
use Rattle.root_quantum.specs.QuantumNumbers.{loop_value}
use Rattle.piece_laws.proofs.RenamedNodes.{rename-append}
use Rattle.pd_reader.specs.declared.item.Item.{Item}
use Rattle.cables.specs.Strands.{Strands}
use Rattle.cables.proofs.NameCounts.{times_of-append, times-reverse}
use Rattle.diagram_moves.specs.Rewriting.{crossing_labels}
use Rattle.diagram_moves.proofs.Paired.{loop_labels}
use Rattle.coloured_moves.proofs.StubItems.{half, at_stub, stub_nodes}
use Rattle.coloured_curls.proofs.EdgeLetters as letters
use Rattle.coloured_curls.proofs.EdgeLetters.{AreNumbered, IsHigh}
use Rattle.coloured_curls.proofs.LetterSteps.{AreNew, AreStubs, weight, other_weight, with_letter}
use Rattle.coloured_curls.proofs.StubLetters.{changed, changed_length, put, put_here, put_other, put_ok, loop_put}
use Rattle.coloured_curls.proofs.StubSlides.{half_turn, letter_at}
use Rattle.coloured_curls.proofs.SwappedNames.{AreFour, swap, swap_p, swap_q, swapped_value, map_changed, stubs_renamed}

pub put_first : (S : Strands) (w l : ℕ) (ys : List ℕ) → 2 * l ≢ w → (put S w ys).first l ≡ S.first l
put_first S w l ys d = plain (2 * l) (S.first l) d
  where
    plain : (i : ℕ) (xs : List ℕ) → i ≢ w → cond (i == w) ys xs ≡ xs
    plain i xs e = grind (arith, nat_tests, e)

-- ---- along an edge without a box
module _ (p : Parameters) (free : ℕ) (t : Bool) (S : Strands) (K : List Node) (n0 g0 i0 lg0 : ℕ) (D : List Item) (are : AreStubs p S K n0 g0 i0 lg0 D) (numbered : AreNumbered S D) where
  abbrev base : List ℕ
  base = names_of (K ++ stub_nodes p S [] n0 g0 i0 lg0 D)

  abbrev N : Strands → List Node
  N T = stub_nodes p T [] n0 g0 i0 lg0 D

  abbrev V : List Node → ℕ
  V ns = value p.modulus (loop_value p) record { nodes = ns; free_loops = free }

  away : (w : ℕ) → 1 ≤ times_in (crossing_labels D) w → (l : ℕ) → is_member ◌==◌ (loop_labels D) l ≡ true → 2 * l ≢ w
  away w h l m e = let none = are.loops l (2 * l) m (let q : half (2 * l) ≡ l = omega arith in q) in let s = ap (times_in (crossing_labels D)) e in omega (arith, none, s, h)

  base_count : (z : ℕ) → times_in base z ≡ times_in (names_of K) z + times_in (names_of (N S)) z
  base_count z = times_of-append z K (N S)

  pub changed_ok : (w k u v : ℕ) → 1 ≤ times_in (crossing_labels D) w → All IsNode (letter_at (weight p t) (other_weight p t) (at_stub S w) k u v ∷ (K ++ N (put S w (changed (at_stub S w) k u v))))
  changed_ok w k u v h =
      let A = at_stub S w in
      All-cons IsNode (letter_at (weight p t) (other_weight p t) A k u v) (K ++ N (put S w (changed A k u v))) (IsNode-crossing (weight p t) (other_weight p t) (slice_index A (suc k)) v u (slice_index A k))
      (All-append IsNode K (N (put S w (changed A k u v))) are.nodes (put_ok p S w (changed A k u v) (changed_length A k u v) are.few n0 g0 i0 lg0 D are.straight (away w h) are.crossings))

  module _ (l : ℕ) (one : 1 ≤ times_in (crossing_labels D) (2 * l)) (two : 1 ≤ times_in (crossing_labels D) (2 * l + 1)) (unboxed : at_stub S (2 * l + 1) ≡ reverse (at_stub S (2 * l)))
      (k : ℕ) (inside : k + 1 < length (at_stub S (2 * l))) (u v : ℕ) (high_u : IsHigh u) (high_v : IsHigh v) (new : AreNew base u v) where
    abbrev w : ℕ
    w = 2 * l

    abbrev A : List ℕ
    A = at_stub S w

    abbrev B : List ℕ
    B = at_stub S (2 * l + 1)

    abbrev j : ℕ
    j = length A - 2 - k

    abbrev pn : ℕ
    pn = slice_index A k

    abbrev qn : ℕ
    qn = slice_index A (suc k)

    abbrev f : ℕ → ℕ
    f = swap pn qn u v

    half_w : half w ≡ l
    half_w = omega arith

    long_B : length B ≡ length A
    long_B = ap length unboxed ∙ length-reverse A

    B_first : slice_index B j ≡ qn
    B_first = ap (λ xs. slice_index xs j) unboxed ∙ get_or-reverse A j 0 (omega (arith, inside)) ∙ ap (slice_index A) (let e : length A - 1 - j ≡ suc k = omega (arith, inside) in e)

    B_second : slice_index B (suc j) ≡ pn
    B_second = ap (λ xs. slice_index xs (suc j)) unboxed ∙ get_or-reverse A (suc j) 0 (omega (arith, inside)) ∙ ap (slice_index A) (let e : length A - 1 - suc j ≡ k = omega (arith, inside) in e)

    four : AreFour pn qn u v
    four = letters.are_four p free t S K n0 g0 i0 lg0 D are numbered w one k inside u v high_u high_v new.apart

    B_swapped : map f B ≡ changed B j v u
    B_swapped =
        map_changed f B j (let e = long_B in omega (arith, inside, e)) (numbered.single (2 * l + 1))
        (λ z o d e.
        let same = ap (λ xs. times_in xs z) unboxed ∙ times-reverse z A in
        letters.list_fixed p free t S K n0 g0 i0 lg0 D are numbered w one k inside u v high_u high_v new.apart z (omega (arith, same, o)) (λ q. e (q ∙ sym B_second)) (λ q. d (q ∙ sym B_first)))
        ∙ ap₂ (changed B j) (ap f B_first ∙ swap_q pn qn u v four) (ap f B_second ∙ swap_p pn qn u v four)

    abbrev S1 : Strands
    S1 = put S w (changed A k u v)

    abbrev T : Strands
    T = put S (2 * l + 1) (changed B j v u)

    at_stubs : (x : ℕ) → is_member ◌==◌ (crossing_labels D) x ≡ true → map f (at_stub S1 x) ≡ at_stub T x
    at_stubs x m =
        ⊎_elim
        (λ (e : x ≡ w).
        ap (λ i. map f (at_stub S1 i)) e ∙ ap (map f) (put_here S w (changed A k u v)) ∙ letters.list_back p free t S K n0 g0 i0 lg0 D are numbered w one k inside u v high_u high_v new.apart
        ∙ sym (ap (at_stub T) e ∙ put_other S (2 * l + 1) w (changed B j v u) (λ s. omega (arith, s))))
        (λ d. ⊎_elim
        (λ (e : x ≡ 2 * l + 1).
        ap (λ i. map f (at_stub S1 i)) e ∙ ap (map f) (put_other S w (2 * l + 1) (changed A k u v) (λ s. omega (arith, s))) ∙ B_swapped
        ∙ sym (ap (at_stub T) e ∙ put_here S (2 * l + 1) (changed B j v u)))
        (λ e.
        ap (map f) (put_other S w x (changed A k u v) d)
        ∙ letters.stub_fixed p free t S K n0 g0 i0 lg0 D are numbered w one k inside u v high_u high_v new.apart x (times_of_member x (crossing_labels D) m) (λ s. apart_halves x l d e (s ∙ half_w))
        ∙ sym (put_other S (2 * l + 1) x (changed B j v u) e))
        (cases_eq x (2 * l + 1)))
        (cases_eq x w)
      where
        apart_halves : (x l : ℕ) → x ≢ 2 * l → x ≢ 2 * l + 1 → half x ≢ l
        apart_halves x l d e h = omega (arith, d, e, h)

    at_loops : (i : ℕ) → is_member ◌==◌ (loop_labels D) i ≡ true → map f (S1.first i) ≡ T.first i
    at_loops i m =
        ap (map f) (put_first S w i (changed A k u v) (away w one i m)) ∙ letters.loop_fixed p free t S K n0 g0 i0 lg0 D are numbered w one k inside u v high_u high_v new.apart i m
        ∙ sym (put_first S (2 * l + 1) i (changed B j v u) (away (2 * l + 1) two i m))

    no_K : (z : ℕ) → z < 2 ^ 25 → 1 ≤ times_in A z → times_in (names_of K) z ≡ 0
    no_K z low o =
        let c = letters.two_stubs p free t S K n0 g0 i0 lg0 D are numbered w (2 * l + 1) z low (λ s. omega (arith, s)) one two in
        let same = ap (λ xs. times_in xs z) unboxed ∙ times-reverse z A in
        let b = base_count z in
        let tw = are.twice z (omega (arith, b, c, same, o)) in
        omega (arith, b, c, same, o, tw)

    K_fixed : rename f K ≡ K
    K_fixed =
        let bu = base_count u in let bv = base_count v in let nu = new.no_left in let nv = new.no_right in
        letters.nodes_fixed p free t S K n0 g0 i0 lg0 D are numbered w one k inside u v high_u high_v new.apart K
        (no_K pn (letters.low_first p free t S K n0 g0 i0 lg0 D are numbered w one k inside u v high_u high_v new.apart) (letters.own p free t S K n0 g0 i0 lg0 D are numbered w one k inside u v high_u high_v new.apart k (omega (arith, inside))))
        (no_K qn (letters.low_second p free t S K n0 g0 i0 lg0 D are numbered w one k inside u v high_u high_v new.apart) (letters.own p free t S K n0 g0 i0 lg0 D are numbered w one k inside u v high_u high_v new.apart (suc k) (omega (arith, inside))))
        (omega (arith, bu, nu)) (omega (arith, bv, nv))

    T_ok : All IsNode (K ++ N T)
    T_ok = All-tail IsNode (letter_at (weight p t) (other_weight p t) B j v u) (K ++ N T) (changed_ok (2 * l + 1) j v u two)

    -- ALONG THE EDGE
    pub edge_step : V (with_letter p t S K n0 g0 i0 lg0 D (2 * l) k u v) ≡ V (with_letter p t S K n0 g0 i0 lg0 D (2 * l + 1) j v u)
    edge_step =
        let L = letter_at (weight p t) (other_weight p t) A k u v in
        let M = crossing (weight p t) (other_weight p t) v qn pn u in
        let renamed : rename f (L ∷ (K ++ N S1)) ≡ M ∷ (K ++ N T) =
        rename-append f (L ∷ []) (K ++ N S1)
        ∙ ap₂ (λ xs ys. xs ++ ys) (letters.letter_swapped p free t S K n0 g0 i0 lg0 D are numbered w one k inside u v high_u high_v new.apart (weight p t) (other_weight p t))
        (rename-append f K (N S1)
        ∙ ap₂ (λ xs ys. xs ++ ys) K_fixed
        (stubs_renamed p f S1 T (letters.inner_fixed p free t S K n0 g0 i0 lg0 D are numbered w one k inside u v high_u high_v new.apart)
        (λ lg xs. loop_put S w (changed A k u v) lg xs ∙ sym (loop_put S (2 * l + 1) (changed B j v u) lg xs)) n0 g0 i0 lg0 D are.sizes at_stubs at_loops)) in
        swapped_value pn qn u v four p.modulus (loop_value p) free (L ∷ (K ++ N S1)) (changed_ok w k u v one)
        ∙ ap V renamed
        ∙ half_turn p.modulus (loop_value p) free (weight p t) (other_weight p t) v qn pn u (K ++ N T) T_ok
        ∙ ap₂ (λ a b. V (crossing (weight p t) (other_weight p t) a u v b ∷ (K ++ N T))) (sym B_second) (sym B_first)
