-- A word of crossings at a stub: where each crossing of two neighbouring strands there counts as its weight, beside any nodes, the whole word does.
use Rattle.std.proofs.Common.{◌≡◌, ◌≢◌, ℕ, suc, ◌+◌, ◌-◌, ◌*◌, ◌/◌, ◌%◌, ◌^◌, ◌<◌, ◌≤◌, ◌==◌, ◌⊎◌, inl, inr, zero, Bool, true, cond, List, [], ◌∷◌, ◌++◌, map, length, reverse, slice_index, refl, sym, ap, ap₂, ◌∙◌, arith, ⊎_elim, All, append_assoc}
use Rattle.std.proofs.Math.Nat.{pow-suc, pow-zero}
use Rattle.std.specs.List.{range_with_len, zip}
use Rattle.std.specs.Set.{is_member}
use Rattle.std.proofs.lemmas.Bool.{cases_eq}
use Rattle.std.proofs.lemmas.Bool.Decides.{nat_tests}
use Rattle.std.proofs.lemmas.List.{get_or-map, get_or-reverse, length-reverse}
use Rattle.std.proofs.lemmas.List.FromFn.{length-map-range_with_len}
use Rattle.std.proofs.lemmas.List.Elements.{All-append, All-cons, All-nil, All-tail}
use Rattle.std.proofs.lemmas.Nat.{mul-mod_second}
use Rattle.list_lemmas.specs.Times.{times_in}
use Rattle.list_lemmas.proofs.Times.{times_of_member}
use Rattle.state_sums.specs.LocalSums.{crossing, rename}
use Rattle.state_sums.specs.Networks.{Node, IsNode, names_of}
use Rattle.state_sums.specs.StateSums.{value}
use Rattle.state_sums.proofs.WrittenNodes.{IsNode-crossing}
use Rattle.root_quantum.specs.Parameters.{Parameters}
use Rattle.root_quantum.specs.QuantumNumbers.{loop_value}
use Rattle.piece_laws.specs.Arcs.{arcs_of}
use Rattle.piece_laws.proofs.RenamedNodes.{rename-append}
use Rattle.strand_words.specs.Words.{Letter}
use Rattle.pd_reader.specs.declared.item.Item.{Item}
use Rattle.cables.specs.Strands.{Strands}
use Rattle.cables.proofs.NameCounts.{times_of-append, times-reverse}
use Rattle.diagram_moves.specs.Rewriting.{crossing_labels}
use Rattle.diagram_moves.proofs.Paired.{loop_labels}
use Rattle.cable_crossings.proofs.BundleTurns.{runs_exchanged}
use Rattle.cable_crossings.proofs.ManyArcs.{arcs_ok}
use Rattle.cable_crossings.proofs.StepPieces.{All-first}
use Rattle.coloured_moves.proofs.StubItems.{half, at_stub, stub_nodes}
use Rattle.coloured_curls.specs.Boxes.{behind, letter_nodes, names_behind}
use Rattle.coloured_curls.proofs.AbsorbedTwists.{count, once}
use Rattle.cable_crossings.proofs.ToldCrossings.{listed}
use Rattle.coloured_curls.proofs.EdgeLetters as letters
use Rattle.coloured_curls.proofs.EdgeLetters.{AreNumbered, IsHigh}
use Rattle.coloured_curls.proofs.EdgeSteps.{changed_ok, put_first}
use Rattle.coloured_curls.proofs.LetterCounts.{given, given_low, given_most, letter_counts}
use Rattle.coloured_curls.proofs.LetterNets.{AreAmong}
use Rattle.coloured_curls.proofs.LetterSteps.{AreNew, AreStubs, weight, other_weight}
use Rattle.coloured_curls.proofs.LetterWalks.{IsFree}
use Rattle.coloured_curls.proofs.RenumberedLetters.{letters_ok, letters_renamed, behind_renamed, map_ranged, arcs_renamed, arcs_times, given_range}
use Rattle.coloured_curls.proofs.StubLetters.{changed, changed_other, put, put_here, put_other, loop_put}
use Rattle.coloured_curls.proofs.StubSlides.{half_turn, letter_at}
use Rattle.coloured_curls.proofs.SwappedNames.{AreFour, swap, swap_p, swap_q, swap_u, swap_v, swap_other, swapped_value, stubs_renamed}

-- letters on n strands, of one weight
abbrev pub AreLetters : Parameters → Bool → ℕ → List Letter → Type 0
AreLetters p t n [] = Unit {0}
AreLetters p t n (l ∷ u) = (l.at + 1 < n) × (l.straight ≡ weight p t) × (l.hook ≡ other_weight p t) × AreLetters p t n u

pub are_among : (p : Parameters) (t : Bool) (n : ℕ) (u : List Letter) → AreLetters p t n u → AreAmong n u
are_among p t n [] a = tt
are_among p t n (l ∷ u) a = (a.0, are_among p t n u a.3)

module _ (p : Parameters) (free : ℕ) (t : Bool) (S : Strands) (box : Node) (OB : List Node) (n0 g0 i0 lg0 : ℕ) (D : List Item) (numbered : AreNumbered S D) (w : ℕ) (stands : 1 ≤ times_in (crossing_labels D) w)
    (alone : (x : ℕ) → 1 ≤ times_in (crossing_labels D) x → half x ≡ half w → x ≡ w) (Ys : List ℕ) (same_long : length Ys ≡ length (at_stub S w))
    (base_are : AreStubs p S (box ∷ (OB ++ arcs_of (zip (reverse (at_stub S w)) Ys))) n0 g0 i0 lg0 D)
    (no_high : (z : ℕ) → IsHigh z → times_in (names_of ((box ∷ (OB ++ arcs_of (zip (reverse (at_stub S w)) Ys))) ++ stub_nodes p S [] n0 g0 i0 lg0 D)) z ≡ 0)
    (frees : (K : List Node) → AreStubs p S (box ∷ K) n0 g0 i0 lg0 D → IsFree p free t S (box ∷ K) n0 g0 i0 lg0 D w) where
  abbrev A : List ℕ
  A = at_stub S w

  abbrev n : ℕ
  n = length A

  abbrev tA : ℕ → ℕ
  tA j = slice_index A (n - 1 - j)

  abbrev L1 : (ℕ → ℕ) → List ℕ
  L1 g = map g (range_with_len 0 n)

  abbrev N : List Node
  N = stub_nodes p S [] n0 g0 i0 lg0 D

  abbrev K0 : List Node
  K0 = box ∷ (OB ++ arcs_of (zip (reverse A) Ys))

  abbrev pub K : List Letter → ℕ → List Node
  K u c = box ∷ (OB ++ (letter_nodes u tA c ++ arcs_of (zip (L1 (names_behind u tA c)) Ys)))

  abbrev V : List Node → ℕ
  V ns = value p.modulus (loop_value p) record { nodes = ns; free_loops = free }

  A_list : reverse A ≡ L1 tA
  A_list = listed tA (reverse A) n (length-reverse A) (λ i l. get_or-reverse A i 0 l)

  long_list : (g : ℕ → ℕ) → length (L1 g) ≡ n
  long_list g = length-map-range_with_len g 0 n

  -- ---- how often names stand
  base_count : (z : ℕ) → times_in (names_of (K0 ++ N)) z ≡ times_in (names_of (box ∷ OB)) z + times_in A z + times_in Ys z + times_in (names_of N) z
  base_count z =
      let a = times_of-append z K0 N in
      let b = times_of-append z (box ∷ OB) (arcs_of (zip (reverse A) Ys)) in
      let c = arcs_times (reverse A) Ys z (same_long ∙ sym (length-reverse A)) in
      let d = times-reverse z A in
      omega (arith, a, b, c, d)

  K_count : (u : List Letter) (c z : ℕ) → AreAmong n u → times_in (names_of (K u c ++ N)) z ≡ times_in (names_of (K0 ++ N)) z + 2 * given u c z
  K_count u c z a =
      let T = names_behind u tA c in
      let L = letter_nodes u tA c in
      let Ar = arcs_of (zip (L1 T) Ys) in
      let b = base_count z in
      let d = times_of-append z (K u c) N in
      let e = times_of-append z (box ∷ OB) (L ++ Ar) in
      let f = times_of-append z L Ar in
      let g = arcs_times (L1 T) Ys z (same_long ∙ sym (long_list T)) in
      let h = letter_counts n u tA c z a in
      let i = ap (λ xs. times_in xs z) A_list in
      let j = times-reverse z A in
      omega (arith, b, d, e, f, g, h, i, j)

  in_range : (c z k : ℕ) → 16 * 2000001 ≤ c → c + k ≤ 2 ^ 25 → c ≤ z → z < c + k → IsHigh z
  in_range c z k a b l h = (omega (arith, a, l), omega (arith, b, h))

  ok_B : All IsNode (box ∷ OB)
  ok_B = All-first IsNode (box ∷ OB) (arcs_of (zip (reverse A) Ys)) base_are.nodes

  pub are_at : (u : List Letter) (c : ℕ) → AreAmong n u → 16 * 2000001 ≤ c → c + 2 * length u ≤ 2 ^ 25 → AreStubs p S (K u c) n0 g0 i0 lg0 D
  are_at u c a low high = record {
    nodes = All-append IsNode (box ∷ OB) (letter_nodes u tA c ++ arcs_of (zip (L1 (names_behind u tA c)) Ys)) ok_B
        (All-append IsNode (letter_nodes u tA c) (arcs_of (zip (L1 (names_behind u tA c)) Ys)) (letters_ok u tA c) (arcs_ok (zip (L1 (names_behind u tA c)) Ys)));
    crossings = base_are.crossings;
    sizes = base_are.sizes;
    straight = base_are.straight;
    few = base_are.few;
    once = base_are.once;
    loops = base_are.loops;
    twice = λ z one.
        let k = K_count u c z a in
        let m = given_most u c z in
        ⊎_elim
        (λ (none : given u c z ≡ 0). (let two = base_are.twice z (omega (arith, k, none, one)) in omega (arith, k, none, two)))
        (λ some. (let r = given_range u c z some in let zero_base = no_high z (in_range c z (2 * length u) low high r.0 r.1) in omega (arith, k, m, some, zero_base)))
        (none_or (given u c z));
  }
    where
      none_or : (k : ℕ) → (k ≡ 0) ⊎ (1 ≤ k)
      none_or zero = inl refl
      none_or (suc k) = inr (omega arith)

  factors : (x k v : ℕ) → x * (x ^ k * v % p.modulus) % p.modulus ≡ x ^ suc k * v % p.modulus
  factors x k v = mul-mod_second x (x ^ k * v) p.modulus ∙ ap (λ j. j % p.modulus) (plain x (x ^ k) v ∙ ap (λ j. j * v) (sym (pow-suc x k)))
    where
      plain : (x p v : ℕ) → x * (p * v) ≡ p * x * v
      plain x p v = omega arith

  -- ---- one letter
  module _ (l : Letter) (u : List Letter) (c : ℕ) (a : AreLetters p t n (l ∷ u)) (low : 16 * 2000001 ≤ c) (high : c + 2 * length (l ∷ u) ≤ 2 ^ 25) where
    abbrev k : ℕ
    k = n - 2 - l.at

    inside : k + 1 < n
    inside = let b = a.0 in omega (arith, b)

    abbrev pn : ℕ
    pn = slice_index A k

    abbrev qn : ℕ
    qn = slice_index A (suc k)

    abbrev f : ℕ → ℕ
    f = swap pn qn (c + 1) c

    abbrev rest_are : AreStubs p S (K u (c + 2)) n0 g0 i0 lg0 D
    rest_are = are_at u (c + 2) (are_among p t n u a.3) (omega (arith, low)) (omega (arith, high))

    high_c : IsHigh c
    high_c = (low, omega (arith, high))

    high_d : IsHigh (c + 1)
    high_d = (omega (arith, low), omega (arith, high))

    apart : c + 1 ≢ c
    apart e = omega (arith, e)

    four : AreFour pn qn (c + 1) c
    four = letters.are_four p free t S K0 n0 g0 i0 lg0 D base_are numbered w stands k inside (c + 1) c high_d high_c apart

    own : (i : ℕ) → i < n → 1 ≤ times_in A (slice_index A i)
    own i b = letters.own p free t S K0 n0 g0 i0 lg0 D base_are numbered w stands k inside (c + 1) c high_d high_c apart i b

    -- the strands stand at the stub and in the arcs, and nowhere else
    gone : (z : ℕ) → z < 2 ^ 25 → 1 ≤ times_in A z → (times_in (names_of (box ∷ OB)) z ≡ 0) × (times_in Ys z ≡ 0)
    gone z b o =
        let x = base_count z in
        let s = letters.stub_count p free t S K0 n0 g0 i0 lg0 D base_are numbered w z b stands in
        let two = base_are.twice z (omega (arith, x, o)) in
        (omega (arith, x, s, o, two), omega (arith, x, s, o, two))

    at_p : (times_in (names_of (box ∷ OB)) pn ≡ 0) × (times_in Ys pn ≡ 0)
    at_p = gone pn (letters.low_first p free t S K0 n0 g0 i0 lg0 D base_are numbered w stands k inside (c + 1) c high_d high_c apart) (own k (let b = inside in omega (arith, b)))

    at_q : (times_in (names_of (box ∷ OB)) qn ≡ 0) × (times_in Ys qn ≡ 0)
    at_q = gone qn (letters.low_second p free t S K0 n0 g0 i0 lg0 D base_are numbered w stands k inside (c + 1) c high_d high_c apart) (own (suc k) (let b = inside in omega (arith, b)))

    none_high : (z : ℕ) → IsHigh z → (times_in (names_of (box ∷ OB)) z ≡ 0) × (times_in Ys z ≡ 0)
    none_high z h = let x = base_count z in let o = no_high z h in (omega (arith, x, o), omega (arith, x, o))

    B_fixed : rename f (box ∷ OB) ≡ box ∷ OB
    B_fixed =
        letters.nodes_fixed p free t S K0 n0 g0 i0 lg0 D base_are numbered w stands k inside (c + 1) c high_d high_c apart (box ∷ OB) at_p.0 at_q.0 (none_high (c + 1) high_d).0 (none_high c high_c).0

    Ys_fixed : map f Ys ≡ Ys
    Ys_fixed =
        letters.all_fixed p free t S K0 n0 g0 i0 lg0 D base_are numbered w stands k inside (c + 1) c high_d high_c apart Ys
        (λ z one.
        let other : (y : ℕ) → times_in Ys y ≡ 0 → z ≢ y = λ y none e. (let s = ap (times_in Ys) e in omega (arith, s, none, one)) in
        swap_other pn qn (c + 1) c four z (other pn at_p.1) (other qn at_q.1) (other (c + 1) (none_high (c + 1) high_d).1) (other c (none_high c high_c).1))

    abbrev ys : List ℕ
    ys = changed A k (c + 1) c

    list_swapped : map f A ≡ ys
    list_swapped = letters.list_swapped p free t S K0 n0 g0 i0 lg0 D base_are numbered w stands k inside (c + 1) c high_d high_c apart

    abbrev tb : ℕ → ℕ
    tb = behind tA l.at c (c + 1)

    strands_back : (j : ℕ) → j < n → f (tb j) ≡ tA j
    strands_back j b =
        let low_at = a.0 in
        ⊎_elim
        (λ (e : j ≡ l.at). ap f (first j l.at (tA j) e) ∙ swap_v pn qn (c + 1) c four ∙ ap (slice_index A) (let s : suc k ≡ n - 1 - j = omega (arith, e, low_at) in s))
        (λ x. ⊎_elim
        (λ (e : j ≡ l.at + 1). ap f (second j l.at (tA j) x e) ∙ swap_u pn qn (c + 1) c four ∙ ap (slice_index A) (let s : k ≡ n - 1 - j = omega (arith, e, low_at) in s))
        (λ y.
        ap f (other j l.at (tA j) x y)
        ∙ sym (get_or-map f A (n - 1 - j) 0 0 (omega (arith, b))) ∙ ap (λ xs. slice_index xs (n - 1 - j)) list_swapped
        ∙ changed_other A k (c + 1) c (n - 1 - j) (λ s. y (omega (arith, s, b, low_at))) (λ s. x (omega (arith, s, b, low_at))))
        (cases_eq j (l.at + 1)))
        (cases_eq j l.at)
      where
        first : (j k x : ℕ) → j ≡ k → cond (j == k) c (cond (j == k + 1) (c + 1) x) ≡ c
        first j k x e = grind (arith, nat_tests, e)

        second : (j k x : ℕ) → j ≢ k → j ≡ k + 1 → cond (j == k) c (cond (j == k + 1) (c + 1) x) ≡ c + 1
        second j k x d e = grind (arith, nat_tests, d, e)

        other : (j k x : ℕ) → j ≢ k → j ≢ k + 1 → cond (j == k) c (cond (j == k + 1) (c + 1) x) ≡ x
        other j k x d e = grind (arith, nat_tests, d, e)

    below : (x : ℕ) → x / 16 ≡ half w → x < 16 * 2000001
    below x e = let s = numbered.small w stands in omega (arith, e, s)

    numbers_stay : (i : ℕ) → f (c + 2 + i) ≡ c + 2 + i
    numbers_stay i =
        let x = below pn (letters.first_label p free t S K0 n0 g0 i0 lg0 D base_are numbered w stands k inside (c + 1) c high_d high_c apart) in
        let y = below qn (letters.second_label p free t S K0 n0 g0 i0 lg0 D base_are numbered w stands k inside (c + 1) c high_d high_c apart) in
        swap_other pn qn (c + 1) c four (c + 2 + i) (λ e. omega (arith, e, x, low)) (λ e. omega (arith, e, y, low)) (λ e. omega (arith, e)) (λ e. omega (arith, e))

    among_u : AreAmong n u
    among_u = are_among p t n u a.3

    abbrev X : List Node
    X = letter_nodes u tb (c + 2)

    abbrev Ar : List Node
    Ar = arcs_of (zip (L1 (names_behind u tb (c + 2))) Ys)

    word_back : rename f ((box ∷ OB) ++ (X ++ Ar)) ≡ K u (c + 2)
    word_back =
        rename-append f (box ∷ OB) (X ++ Ar)
        ∙ ap₂ (λ xs ys. xs ++ ys) B_fixed
        (rename-append f X Ar
        ∙ ap₂ (λ xs ys. xs ++ ys) (letters_renamed f n u among_u tb tA (c + 2) (c + 2) strands_back numbers_stay)
        (arcs_renamed f (L1 (names_behind u tb (c + 2))) Ys
        ∙ ap₂ (λ xs ys. arcs_of (zip xs ys)) (map_ranged f (names_behind u tb (c + 2)) (names_behind u tA (c + 2)) 0 n (λ j lo hi. behind_renamed f n u among_u tb tA (c + 2) (c + 2) strands_back numbers_stay j (omega (arith, hi)))) Ys_fixed))

    abbrev S1 : Strands
    S1 = put S w ys

    away : (i : ℕ) → is_member ◌==◌ (loop_labels D) i ≡ true → 2 * i ≢ w
    away i m e = let none = base_are.loops i (2 * i) m (let q : half (2 * i) ≡ i = omega arith in q) in let s = ap (times_in (crossing_labels D)) e in omega (arith, none, s, stands)

    stubs_there : rename f N ≡ stub_nodes p S1 [] n0 g0 i0 lg0 D
    stubs_there =
        stubs_renamed p f S S1 (letters.inner_fixed p free t S K0 n0 g0 i0 lg0 D base_are numbered w stands k inside (c + 1) c high_d high_c apart) (λ lg xs. sym (loop_put S w ys lg xs)) n0 g0 i0 lg0 D base_are.sizes
        (λ i m.
        ⊎_elim
        (λ (e : i ≡ w). ap (λ j. map f (at_stub S j)) e ∙ list_swapped ∙ sym (ap (at_stub S1) e ∙ put_here S w ys))
        (λ d.
        let h = times_of_member i (crossing_labels D) m in
        letters.stub_fixed p free t S K0 n0 g0 i0 lg0 D base_are numbered w stands k inside (c + 1) c high_d high_c apart i h (λ e. d (alone i h e)) ∙ sym (put_other S w i ys d))
        (cases_eq i w))
        (λ i m. letters.loop_fixed p free t S K0 n0 g0 i0 lg0 D base_are numbered w stands k inside (c + 1) c high_d high_c apart i m ∙ sym (put_first S w i ys (away i m)))

    new_names : AreNew (names_of (K u (c + 2) ++ N)) (c + 1) c
    new_names =
        let lower : (z : ℕ) → z < c + 2 → IsHigh z → times_in (names_of (K u (c + 2) ++ N)) z ≡ 0 =
        λ z b h. (let x = K_count u (c + 2) z among_u in let y = no_high z h in let g = given_low u (c + 2) z b in omega (arith, x, y, g)) in
        record { apart = apart; no_left = lower (c + 1) (omega arith) high_d; no_right = lower c (omega arith) high_c }

    -- THE FIRST LETTER OF A WORD
    pub first_letter : V (K (l ∷ u) c ++ N) ≡ weight p t * V (K u (c + 2) ++ N) % p.modulus
    first_letter =
        let B = box ∷ OB in
        let s = weight p t in
        let h = other_weight p t in
        let here = crossing l.straight l.hook (tA (l.at + 1)) (c + 1) c (tA l.at) in
        let ok_here : All IsNode (here ∷ []) = All-cons IsNode here [] (IsNode-crossing l.straight l.hook (tA (l.at + 1)) (c + 1) c (tA l.at)) (All-nil IsNode) in
        let ok_XA : All IsNode (X ++ Ar) = All-append IsNode X Ar (letters_ok u tb (c + 2)) (arcs_ok (zip (L1 (names_behind u tb (c + 2))) Ys)) in
        let ok_Z : All IsNode ((X ++ Ar) ++ N) = All-append IsNode (X ++ Ar) N ok_XA base_are.crossings in
        let ok_BZ : All IsNode ((B ++ (X ++ Ar)) ++ N) = All-append IsNode (B ++ (X ++ Ar)) N (All-append IsNode B (X ++ Ar) ok_B ok_XA) base_are.crossings in
        let last = stub_nodes p S1 [] n0 g0 i0 lg0 D in
        let low_at = a.0 in
        let told : crossing l.straight l.hook (tA (l.at + 1)) (c + 1) c (tA l.at) ≡ crossing s h pn (c + 1) c qn =
        ap₂ (λ x y. crossing x y (tA (l.at + 1)) (c + 1) c (tA l.at)) a.1 a.2
        ∙ ap₂ (λ x y. crossing s h (slice_index A x) (c + 1) c (slice_index A y)) (let e : n - 1 - (l.at + 1) ≡ k = omega (arith, low_at) in e) (let e : n - 1 - l.at ≡ suc k = omega (arith, low_at) in e) in
        let start = crossing s h pn (c + 1) c qn in
        let turned : rename f (start ∷ []) ≡ crossing s h (c + 1) pn qn c ∷ [] =
        named s h (f pn) (f (c + 1)) (f c) (f qn) (c + 1) pn qn c (swap_p pn qn (c + 1) c four) (swap_u pn qn (c + 1) c four) (swap_v pn qn (c + 1) c four) (swap_q pn qn (c + 1) c four) in
        let whole : rename f (start ∷ ((B ++ (X ++ Ar)) ++ N)) ≡ crossing s h (c + 1) pn qn c ∷ (K u (c + 2) ++ last) =
        rename-append f (start ∷ []) ((B ++ (X ++ Ar)) ++ N)
        ∙ ap₂ (λ xs ys. xs ++ ys) turned (rename-append f (B ++ (X ++ Ar)) N ∙ ap₂ (λ xs ys. xs ++ ys) word_back stubs_there) in
        ap V (append_assoc B (here ∷ (X ++ Ar)) N)
        ∙ runs_exchanged p.modulus (loop_value p) free B (here ∷ []) ((X ++ Ar) ++ N) ok_B ok_here ok_Z
        ∙ ap (λ ns. V (here ∷ ns)) (sym (append_assoc B (X ++ Ar) N))
        ∙ ap (λ node. V (node ∷ ((B ++ (X ++ Ar)) ++ N))) told
        ∙ swapped_value pn qn (c + 1) c four p.modulus (loop_value p) free (start ∷ ((B ++ (X ++ Ar)) ++ N)) (All-cons IsNode start ((B ++ (X ++ Ar)) ++ N) (IsNode-crossing s h pn (c + 1) c qn) ok_BZ)
        ∙ ap V whole
        ∙ half_turn p.modulus (loop_value p) free s h (c + 1) pn qn c (K u (c + 2) ++ last)
        (All-tail IsNode (letter_at s h A k (c + 1) c) (K u (c + 2) ++ last) (changed_ok p free t S (K u (c + 2)) n0 g0 i0 lg0 D rest_are numbered w k (c + 1) c stands))
        ∙ frees (OB ++ (letter_nodes u tA (c + 2) ++ arcs_of (zip (L1 (names_behind u tA (c + 2))) Ys))) rest_are k (c + 1) c inside high_d high_c new_names
      where
        named : (x y a b c d a' b' c' d' : ℕ) → a ≡ a' → b ≡ b' → c ≡ c' → d ≡ d' → ◌≡◌ {A = List Node} (crossing x y a b c d ∷ []) (crossing x y a' b' c' d' ∷ [])
        named x y a b c d a' b' c' d' e g h i = rw (e, g, h, i) refl

  -- A WORD AT A STUB
  pub word_counts : (u : List Letter) (c : ℕ) → AreLetters p t n u → 16 * 2000001 ≤ c → c + 2 * length u ≤ 2 ^ 25 → V (K u c ++ N) ≡ weight p t ^ count u * V (K0 ++ N) % p.modulus
  word_counts [] c a low high =
      ap (λ xs. V ((box ∷ (OB ++ arcs_of (zip xs Ys))) ++ N)) (sym A_list)
      ∙ sym (ap (λ j. j * V (K0 ++ N) % p.modulus) (pow-zero (weight p t)) ∙ once p.modulus (loop_value p) free (K0 ++ N))
  word_counts (l ∷ u) c a low high =
      first_letter l u c a low high
      ∙ ap (λ j. weight p t * j % p.modulus) (word_counts u (c + 2) a.3 (omega (arith, low)) (omega (arith, high)))
      ∙ factors (weight p t) (count u) (V (K0 ++ N))
