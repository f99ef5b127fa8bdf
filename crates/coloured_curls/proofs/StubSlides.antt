-- A crossing of two neighbouring strands at a stub slides through the crossing of the stub to the opposite one.
use Rattle.std.proofs.Common.{◌≡◌, ℕ, suc, ◌+◌, ◌-◌, ◌<◌, ◌≤◌, Bool, if◌then◌else◌, List, [], ◌∷◌, ◌++◌, length, slice_index, refl, sym, ap, ◌∙◌, arith, All, append_assoc}
use Rattle.std.proofs.lemmas.List.Elements.{All-append, All-cons, All-nil}
use Rattle.list_lemmas.specs.Times.{times_in}
use Rattle.list_lemmas.proofs.Times.{times_in-append, times_in-cons, times_of_member}
use Rattle.state_sums.specs.LocalSums.{crossing, AreSkeinNumbers}
use Rattle.state_sums.specs.Networks.{Node, IsNode, names_of}
use Rattle.state_sums.specs.StateSums.{value}
use Rattle.state_sums.proofs.WrittenNodes.{IsNode-crossing}
use Rattle.piece_laws.specs.Pieces.{ArePaired}
use Rattle.cables.proofs.NameCounts.{at, times_of-append}
use Rattle.cable_crossings.proofs.BundleTurns.{runs_exchanged}
use Rattle.cable_crossings.proofs.CrossingSteps.{long, crossing_nodes}
use Rattle.cable_crossings.proofs.CrossingSteps as steps
use Rattle.cable_crossings.proofs.ToldCrossings.{IsTold}
use Rattle.coloured_curls.proofs.AbsorbedTwists.{told_backwards, told_exchanged}
use Rattle.coloured_curls.proofs.SlidLetters.{SameEnds, letter_slides}
use Rattle.coloured_curls.proofs.StubLetters.{changed, changed_length, changed_first, changed_second, changed_other}

-- the small crossing at two places of a list
abbrev pub letter_at : ℕ → ℕ → List ℕ → ℕ → ℕ → ℕ → Node
letter_at x y xs k left right = crossing x y (slice_index xs (suc k)) right left (slice_index xs k)

pub half_turn : (m delta free a b w x y z : ℕ) (rest : List Node) → All IsNode rest →
    value m delta record { nodes = crossing a b w x y z ∷ rest; free_loops = free } ≡ value m delta record { nodes = crossing a b y z w x ∷ rest; free_loops = free }
half_turn m delta free a b w x y z rest ok = told_backwards m delta free a b w x y z rest ok ∙ told_exchanged m delta free a b z y x w rest ok

pub letter_times : (x y : ℕ) (xs : List ℕ) (k left right z : ℕ) (ns : List Node) → times_in (names_of (letter_at x y xs k left right ∷ ns)) z ≡ at z (slice_index xs k) + at z (slice_index xs (suc k)) + at z left + at z right + times_in (names_of ns) z
letter_times x y xs k left right z ns =
    let p = slice_index xs (suc k) in let q = slice_index xs k in
    let a = times_in-cons p (right ∷ left ∷ q ∷ names_of ns) z in let b = times_in-cons right (left ∷ q ∷ names_of ns) z in
    let c = times_in-cons left (q ∷ names_of ns) z in let d = times_in-cons q (names_of ns) z in
    omega (arith, a, b, c, d)

-- ---- at a told crossing: the bundle a of n strands comes in, and c goes out
module _ (m a0 b0 delta free : ℕ) (numbers : AreSkeinNumbers m a0 b0 delta) (s t : Bool) (a b c d : List ℕ) (k left right : ℕ) (inside : k + 1 < length a) (same_a : length a ≡ length c) (few_a : length a ≤ 8) (few_b : length b ≤ 8)
    (before behind rest : List Node) where
  abbrev straight : Bool → ℕ
  straight over = if over then a0 else b0

  abbrev hook : Bool → ℕ
  hook over = if over then b0 else a0

  abbrev n : ℕ
  n = length a

  abbrev j : ℕ
  j = n - 2 - k

  abbrev in_a : List ℕ
  in_a = changed a k left right

  abbrev in_c : List ℕ
  in_c = changed c j left right

  module _ (tb : IsTold m delta before (straight s) (hook s) in_a b c d) (ta : IsTold m delta behind (straight s) (hook s) a b in_c d) (ok_before : All IsNode before) (ok_behind : All IsNode behind) (ok : All IsNode rest)
      (twice_before : (z : ℕ) → 1 ≤ times_in (names_of (letter_at (straight t) (hook t) a k left right ∷ (before ++ rest))) z → times_in (names_of (letter_at (straight t) (hook t) a k left right ∷ (before ++ rest))) z ≡ 2)
      (twice_behind : (z : ℕ) → 1 ≤ times_in (names_of (letter_at (straight t) (hook t) c j left right ∷ (behind ++ rest))) z → times_in (names_of (letter_at (straight t) (hook t) c j left right ∷ (behind ++ rest))) z ≡ 2) where
    abbrev V : List Node → ℕ
    V ns = value m delta record { nodes = ns; free_loops = free }

    abbrev o : ℕ
    o = length b

    long_in : length in_a ≡ n
    long_in = changed_length a k left right

    in_j : j + 1 < length c
    in_j = omega (arith, inside, same_a)

    ends : SameEnds o n k tb.v tb.h ta.v ta.h
    ends = record {
      south = λ i l d1 d2. tb.south i (let e = long_in in omega (arith, l, e)) ∙ changed_other a k left right i d1 d2 ∙ sym (ta.south i l);
      north = λ i l d1 d2.
          tb.north i (let e = long_in in omega (arith, l, e)) ∙ ap (λ q. slice_index c (q - 1 - i)) long_in
          ∙ sym (ta.north i l ∙ changed_other c j left right (n - 1 - i) (λ e. d2 (omega (arith, e, l, inside))) (λ e. d1 (omega (arith, e, l, inside))));
      west = λ i l. tb.west i l ∙ sym (ta.west i l);
      east = λ i l. ap (λ q. tb.h i (long q)) (sym long_in) ∙ tb.east i l ∙ sym (ta.east i l);
    }

    abbrev G : List Node
    G = crossing_nodes (straight s) (hook s) tb.v tb.h o n

    abbrev F : List Node
    F = crossing_nodes (straight s) (hook s) ta.v ta.h o n

    abbrev low : Node
    low = crossing (straight t) (hook t) (ta.v 0 (k + 1)) (tb.v 0 (k + 1)) (tb.v 0 k) (ta.v 0 k)

    abbrev high : Node
    high = crossing (straight t) (hook t) (ta.v (long o) (k + 1)) (tb.v (long o) (k + 1)) (tb.v (long o) k) (ta.v (long o) k)

    before_is : (ns : List Node) → All IsNode ns → V (before ++ ns) ≡ V (G ++ ns)
    before_is ns q = tb.same free ns q ∙ ap (λ i. V (crossing_nodes (straight s) (hook s) tb.v tb.h o i ++ ns)) long_in

    behind_is : (ns : List Node) → All IsNode ns → V (behind ++ ns) ≡ V (F ++ ns)
    behind_is ns q = ta.same free ns q

    before_times : (z : ℕ) → times_in (names_of before) z ≡ times_in (names_of G) z
    before_times z = tb.times z ∙ ap (λ i. times_in (names_of (crossing_nodes (straight s) (hook s) tb.v tb.h o i)) z) long_in

    crossing_at : (w x y z w' x' y' z' : ℕ) → w ≡ w' → x ≡ x' → y ≡ y' → z ≡ z' → crossing (straight t) (hook t) w x y z ≡ crossing (straight t) (hook t) w' x' y' z'
    crossing_at w x y z w' x' y' z' e f g h = rw (e, f, g, h) refl

    low_is : letter_at (straight t) (hook t) a k left right ≡ low
    low_is =
        let up : k + 1 ≡ suc k = omega arith in
        let e = long_in in
        crossing_at (slice_index a (suc k)) right left (slice_index a k) (ta.v 0 (k + 1)) (tb.v 0 (k + 1)) (tb.v 0 k) (ta.v 0 k)
        (sym (ta.south (k + 1) inside ∙ ap (slice_index a) up))
        (sym (tb.south (k + 1) (omega (arith, inside, e)) ∙ ap (slice_index in_a) up ∙ changed_second a k left right inside))
        (sym (tb.south k (omega (arith, inside, e)) ∙ changed_first a k left right inside))
        (sym (ta.south k (omega (arith, inside))))

    high_is : high ≡ crossing (straight t) (hook t) left (slice_index c j) (slice_index c (suc j)) right
    high_is =
        let e = long_in in
        crossing_at (ta.v (long o) (k + 1)) (tb.v (long o) (k + 1)) (tb.v (long o) k) (ta.v (long o) k) left (slice_index c j) (slice_index c (suc j)) right
        (ta.north (k + 1) inside ∙ ap (slice_index in_c) (let q : n - 1 - (k + 1) ≡ j = omega (arith, inside) in q) ∙ changed_first c j left right in_j)
        (tb.north (k + 1) (omega (arith, inside, e)) ∙ ap (slice_index c) (let q : length in_a - 1 - (k + 1) ≡ j = omega (arith, inside, e) in q))
        (tb.north k (omega (arith, inside, e)) ∙ ap (slice_index c) (let q : length in_a - 1 - k ≡ suc j = omega (arith, inside, e) in q))
        (ta.north k (omega (arith, inside)) ∙ ap (slice_index in_c) (let q : n - 1 - k ≡ suc j = omega (arith, inside) in q) ∙ changed_second c j left right in_j)

    low_ok : All IsNode (low ∷ [])
    low_ok = All-cons IsNode low [] (IsNode-crossing (straight t) (hook t) (ta.v 0 (k + 1)) (tb.v 0 (k + 1)) (tb.v 0 k) (ta.v 0 k)) (All-nil IsNode)

    high_ok : All IsNode (high ∷ [])
    high_ok = All-cons IsNode high [] (IsNode-crossing (straight t) (hook t) (ta.v (long o) (k + 1)) (tb.v (long o) (k + 1)) (tb.v (long o) k) (ta.v (long o) k)) (All-nil IsNode)

    G_ok : All IsNode G
    G_ok = steps.crossing_ok (straight s) (hook s) tb.v tb.h o n

    F_ok : All IsNode F
    F_ok = steps.crossing_ok (straight s) (hook s) ta.v ta.h o n

    old_pairs : ArePaired (names_of ((low ∷ []) ++ (G ++ []))) (names_of ((low ∷ []) ++ (G ++ [])) ++ names_of rest)
    old_pairs z mem =
        let one = times_of_member z (names_of ((low ∷ []) ++ (G ++ []))) mem in
        let u = times_in-append (names_of ((low ∷ []) ++ (G ++ []))) (names_of rest) z in
        let v = times_of-append z (low ∷ []) (G ++ []) in
        let w = times_of-append z G [] in
        let x = times_of-append z (low ∷ []) (before ++ rest) in
        let y = times_of-append z before rest in
        let e = ap (λ q. times_in (names_of (q ∷ (before ++ rest))) z) low_is in
        let f = before_times z in
        let two = twice_before z (omega (arith, one, v, w, x, y, e, f)) in
        omega (arith, one, u, v, w, x, y, e, f, two)

    high_times : (z : ℕ) → times_in (names_of (high ∷ [])) z ≡ at z (slice_index c j) + at z (slice_index c (suc j)) + at z left + at z right
    high_times z =
        let p = slice_index c j in let q = slice_index c (suc j) in
        let e = ap (λ node. times_in (names_of (node ∷ [])) z) high_is in
        let a = times_in-cons left (p ∷ q ∷ right ∷ []) z in let b = times_in-cons p (q ∷ right ∷ []) z in let c = times_in-cons q (right ∷ []) z in let d = times_in-cons right [] z in
        omega (arith, e, a, b, c, d)

    new_pairs : ArePaired (names_of (F ++ ((high ∷ []) ++ []))) (names_of (F ++ ((high ∷ []) ++ [])) ++ names_of rest)
    new_pairs z mem =
        let one = times_of_member z (names_of (F ++ ((high ∷ []) ++ []))) mem in
        let u = times_in-append (names_of (F ++ ((high ∷ []) ++ []))) (names_of rest) z in
        let v = times_of-append z F ((high ∷ []) ++ []) in
        let h = high_times z in
        let x = letter_times (straight t) (hook t) c j left right z (behind ++ rest) in
        let y = times_of-append z behind rest in
        let f = ta.times z in
        let two = twice_behind z (omega (arith, one, v, h, x, y, f)) in
        omega (arith, one, u, v, h, x, y, f, two)

    -- A CROSSING SLIDES THROUGH A TOLD CROSSING
    pub slides_through : V (letter_at (straight t) (hook t) a k left right ∷ (before ++ rest)) ≡ V (letter_at (straight t) (hook t) c j left right ∷ (behind ++ rest))
    slides_through =
        let last : Node = crossing (straight t) (hook t) left (slice_index c j) (slice_index c (suc j)) right in
        ap (λ node. V (node ∷ (before ++ rest))) low_is
        ∙ runs_exchanged m delta free (low ∷ []) before rest low_ok ok_before ok
        ∙ before_is (low ∷ rest) (All-append IsNode (low ∷ []) rest low_ok ok)
        ∙ runs_exchanged m delta free G (low ∷ []) rest G_ok low_ok ok
        ∙ letter_slides o n k few_b few_a inside tb.v tb.h ta.v ta.h ends m a0 b0 delta free numbers s t rest ok old_pairs new_pairs
        ∙ ap V (append_assoc F (high ∷ []) rest)
        ∙ sym (behind_is (high ∷ rest) (All-append IsNode (high ∷ []) rest high_ok ok))
        ∙ runs_exchanged m delta free behind (high ∷ []) rest ok_behind high_ok ok
        ∙ ap (λ node. V (node ∷ (behind ++ rest))) high_is
        ∙ half_turn m delta free (straight t) (hook t) left (slice_index c j) (slice_index c (suc j)) right (behind ++ rest) (All-append IsNode behind rest ok_behind ok)
