-- Three cabled crossings round a triangle count as the same crossings behind the third move. The bundles of the triangle's inner edges
-- have no box: their names at one end are those at the other, in the other order.
use Rattle.std.proofs.Common.{◌≡◌, ℕ, ◌+◌, ◌-◌, ◌<◌, ◌≤◌, ◌⊎◌, Bool, if◌then◌else◌, List, ◌++◌, length, reverse, slice_index, sym, ap, ap₂, ◌∙◌, arith, All, append_assoc}
use Rattle.std.proofs.lemmas.List.{get_or-reverse}
use Rattle.std.proofs.lemmas.List.Elements.{All-append}
use Rattle.state_sums.specs.LocalSums.{AreSkeinNumbers}
use Rattle.state_sums.specs.Networks.{Node, IsNode, names_of}
use Rattle.state_sums.specs.StateSums.{value}
use Rattle.list_lemmas.specs.Times.{times_in}
use Rattle.list_lemmas.proofs.Times.{times_of_member, times_in-append}
use Rattle.piece_laws.specs.Pieces.{ArePaired}
use Rattle.cables.proofs.NameCounts.{times_of-append}
use Rattle.cable_crossings.proofs.BundleTurns.{runs_exchanged}
use Rattle.cable_crossings.proofs.CrossingSteps.{long, crossing_nodes, crossing_ok}
use Rattle.cable_crossings.proofs.ToldCrossings.{IsTold}
use Rattle.cable_crossings.proofs.TriangleNames.{Meets, bundle_triangle}

-- ---- runs of nodes that count as others in front count so behind others, too
Alike : ℕ → ℕ → ℕ → List Node → List Node → Type 0
Alike m delta free old new = (rest : List Node) → All IsNode rest → value m delta record { nodes = old ++ rest; free_loops = free } ≡ value m delta record { nodes = new ++ rest; free_loops = free }

module _ (m delta free : ℕ) where
  abbrev V : List Node → ℕ
  V nodes = value m delta record { nodes = nodes; free_loops = free }

  second_replaced : (front old new rest : List Node) → All IsNode front → All IsNode old → All IsNode new → All IsNode rest → Alike m delta free old new → V (front ++ (old ++ rest)) ≡ V (front ++ (new ++ rest))
  unfolding Alike
  second_replaced front old new rest f o n r same =
      runs_exchanged m delta free front old rest f o r ∙ same (front ++ rest) (All-append IsNode front rest f r) ∙ sym (runs_exchanged m delta free front new rest f n r)

  three_replaced : (a b c a' b' c' rest : List Node) → All IsNode a → All IsNode b → All IsNode c → All IsNode a' → All IsNode b' → All IsNode c' → All IsNode rest →
      Alike m delta free a a' → Alike m delta free b b' → Alike m delta free c c' → V (a ++ (b ++ (c ++ rest))) ≡ V ((a' ++ (b' ++ c')) ++ rest)
  unfolding Alike
  three_replaced a b c a' b' c' rest oka okb okc oka' okb' okc' ok sa sb sc =
      sa (b ++ (c ++ rest)) (All-append IsNode b (c ++ rest) okb (All-append IsNode c rest okc ok))
      ∙ second_replaced a' b b' (c ++ rest) oka' okb okb' (All-append IsNode c rest okc ok) sb
      ∙ ap V (sym (append_assoc a' b' (c ++ rest)))
      ∙ second_replaced (a' ++ b') c c' rest (All-append IsNode a' b' oka' okb') okc okc' ok sc
      ∙ ap V (append_assoc a' b' (c' ++ rest) ∙ sym (append_assoc a' (b' ++ c') rest ∙ ap (λ ns. a' ++ ns) (append_assoc b' c' rest)))

pub three_times : (z : ℕ) (a b c rest : List Node) → times_in (names_of (a ++ (b ++ (c ++ rest)))) z ≡ times_in (names_of a) z + times_in (names_of b) z + times_in (names_of c) z + times_in (names_of rest) z
three_times z a b c rest =
    let x = times_of-append z a (b ++ (c ++ rest)) in let y = times_of-append z b (c ++ rest) in let w = times_of-append z c rest in omega (arith, x, y, w)

paired_three : (a b c rest x y w : List Node) → ((z : ℕ) → times_in (names_of a) z ≡ times_in (names_of x) z) → ((z : ℕ) → times_in (names_of b) z ≡ times_in (names_of y) z) → ((z : ℕ) → times_in (names_of c) z ≡ times_in (names_of w) z) →
    ((z : ℕ) → 1 ≤ times_in (names_of (a ++ (b ++ (c ++ rest)))) z → times_in (names_of (a ++ (b ++ (c ++ rest)))) z ≡ 2) → ArePaired (names_of (x ++ (y ++ w))) (names_of (x ++ (y ++ w)) ++ names_of rest)
paired_three a b c rest x y w ea eb ec twice z m =
    let one = times_of_member z (names_of (x ++ (y ++ w))) m in
    let t = three_times z a b c rest in
    let u = times_of-append z x (y ++ w) in
    let v = times_of-append z y w in
    let s = times_in-append (names_of (x ++ (y ++ w))) (names_of rest) z in
    let fa = ea z in let fb = eb z in let fc = ec z in
    let two = twice z (omega (arith, one, t, u, v, fa, fb, fc)) in
    omega (arith, one, t, u, v, s, fa, fb, fc, two)

-- The bundles at the three crossings: x, y and z strands; the first letter names the crossing at which an inner bundle ends, and
-- outer bundles are those of the strands x (q and r), y (s and t) and z (p and u).
pub record Bundles (x y z : ℕ) (Yh Zh Zt Xt Xb Yb P Q R S T U : List ℕ) : Type 0 where
  pub inner_y : Yb ≡ reverse Yh
  pub inner_z : Zt ≡ reverse Zh
  pub inner_x : Xb ≡ reverse Xt
  pub length_yh : length Yh ≡ y
  pub length_yb : length Yb ≡ y
  pub length_zh : length Zh ≡ z
  pub length_zt : length Zt ≡ z
  pub length_xt : length Xt ≡ x
  pub length_xb : length Xb ≡ x
  pub length_p : length P ≡ z
  pub length_q : length Q ≡ x
  pub length_r : length R ≡ x
  pub length_s : length S ≡ y
  pub length_t : length T ≡ y
  pub length_u : length U ≡ z

pub turned_at : (xs ys : List ℕ) (n i : ℕ) → ys ≡ reverse xs → length xs ≡ n → i < n → slice_index ys i ≡ slice_index xs (n - 1 - i)
turned_at xs ys n i e l h = ap (λ zs. slice_index zs i) e ∙ get_or-reverse xs i 0 (omega (arith, h, l)) ∙ ap (λ k. slice_index xs (k - 1 - i)) l

module _ (m a b delta : ℕ) (numbers : AreSkeinNumbers m a b delta) (s t u : Bool) (one_above : (s ≡ t) ⊎ (t ≡ u)) (x y z : ℕ) (few_x : x ≤ 8) (few_y : y ≤ 8) (few_z : z ≤ 8)
    (Yh Zh Zt Xt Xb Yb P Q R S T U : List ℕ) (are : Bundles x y z Yh Zh Zt Xt Xb Yb P Q R S T U) (here there beyond new_here new_there new_beyond : List Node) where
  abbrev straight : Bool → ℕ
  straight over = if over then a else b

  abbrev hook : Bool → ℕ
  hook over = if over then b else a

  module _ (told_here : IsTold m delta here (straight u) (hook u) Zh T U Yh) (told_there : IsTold m delta there (straight t) (hook t) P Q Zt Xt) (told_beyond : IsTold m delta beyond (straight s) (hook s) S Xb Yb R)
      (told_new_here : IsTold m delta new_here (straight u) (hook u) P Yh Zh S) (told_new_there : IsTold m delta new_there (straight t) (hook t) Zt Xt U R) (told_new_beyond : IsTold m delta new_beyond (straight s) (hook s) Yb Q T Xb)
      (ok_here : All IsNode here) (ok_there : All IsNode there) (ok_beyond : All IsNode beyond) (ok_new_here : All IsNode new_here) (ok_new_there : All IsNode new_there) (ok_new_beyond : All IsNode new_beyond) where
    abbrev sized : (over : Bool) (v h : ℕ → ℕ → ℕ) (rows columns : ℕ) → List Node
    sized over v h rows columns = crossing_nodes (straight over) (hook over) v h rows columns

    meets : Meets x y z told_beyond.v told_beyond.h told_there.v told_there.h told_here.v told_here.h told_new_here.v told_new_here.h told_new_there.v told_new_there.h told_new_beyond.v told_new_beyond.h
    meets = record {
      old_x = λ i l. ap (λ n. told_beyond.h i (long n)) (sym are.length_s) ∙ told_beyond.east i (let e = are.length_xb in omega (arith, l, e)) ∙ turned_at Xt Xb x i are.inner_x are.length_xt l ∙ ap (λ n. slice_index Xt (n - 1 - i)) (sym are.length_q)
          ∙ sym (told_there.west i (let e = are.length_q in omega (arith, l, e)));
      old_y = λ c l. ap (λ n. told_beyond.v (long n) c) (sym are.length_xb) ∙ told_beyond.north c (let e = are.length_s in omega (arith, l, e)) ∙ ap (λ n. slice_index Yb (n - 1 - c)) are.length_s
          ∙ turned_at Yh Yb y (y - 1 - c) are.inner_y are.length_yh (omega (arith, l)) ∙ ap (λ n. slice_index Yh (n - 1 - (y - 1 - c))) (sym are.length_t) ∙ sym (told_here.west (y - 1 - c) (let e = are.length_t in omega (arith, l, e)));
      old_z = λ c l. ap (λ n. told_there.v (long n) c) (sym are.length_q) ∙ told_there.north c (let e = are.length_p in omega (arith, l, e)) ∙ ap (λ n. slice_index Zt (n - 1 - c)) are.length_p
          ∙ turned_at Zh Zt z (z - 1 - c) are.inner_z are.length_zh (omega (arith, l)) ∙ ap (slice_index Zh) (let e : z - 1 - (z - 1 - c) ≡ c = omega (arith, l) in e) ∙ sym (told_here.south c (let e = are.length_zh in omega (arith, l, e)));
      new_x = λ i l. ap (λ n. told_new_there.h i (long n)) (sym are.length_zt) ∙ told_new_there.east i (let e = are.length_xt in omega (arith, l, e))
          ∙ ap (slice_index Xt) (let e : i ≡ x - 1 - (x - 1 - i) = omega (arith, l) in e) ∙ sym (turned_at Xt Xb x (x - 1 - i) are.inner_x are.length_xt (omega (arith, l))) ∙ ap (λ n. slice_index Xb (n - 1 - i)) (sym are.length_q)
          ∙ sym (told_new_beyond.west i (let e = are.length_q in omega (arith, l, e)));
      new_y = λ c l. ap (λ n. told_new_here.h (y - 1 - c) (long n)) (sym are.length_p) ∙ told_new_here.east (y - 1 - c) (let e = are.length_yh in omega (arith, l, e)) ∙ sym (turned_at Yh Yb y c are.inner_y are.length_yh l)
          ∙ sym (told_new_beyond.south c (let e = are.length_yb in omega (arith, l, e)));
      new_z = λ c l. ap (λ n. told_new_here.v (long n) c) (sym are.length_yh) ∙ told_new_here.north c (let e = are.length_p in omega (arith, l, e)) ∙ ap (λ n. slice_index Zh (n - 1 - c)) are.length_p
          ∙ sym (turned_at Zh Zt z c are.inner_z are.length_zh l) ∙ sym (told_new_there.south c (let e = are.length_zt in omega (arith, l, e)));
      start_x = λ i l. told_beyond.west i (let e = are.length_xb in omega (arith, l, e)) ∙ ap (λ n. slice_index R (n - 1 - i)) (are.length_xb ∙ sym are.length_xt) ∙ sym (told_new_there.west i (let e = are.length_xt in omega (arith, l, e)));
      start_y = λ c l. told_beyond.south c (let e = are.length_s in omega (arith, l, e)) ∙ ap (slice_index S) (let e : c ≡ y - 1 - (y - 1 - c) = omega (arith, l) in e) ∙ ap (λ n. slice_index S (n - 1 - (y - 1 - c))) (sym are.length_yh)
          ∙ sym (told_new_here.west (y - 1 - c) (let e = are.length_yh in omega (arith, l, e)));
      start_z = λ c l. told_there.south c (let e = are.length_p in omega (arith, l, e)) ∙ sym (told_new_here.south c (let e = are.length_p in omega (arith, l, e)));
      end_x = λ i l. ap (λ n. told_there.h i (long n)) (sym are.length_p) ∙ told_there.east i (let e = are.length_q in omega (arith, l, e)) ∙ sym (ap (λ n. told_new_beyond.h i (long n)) (sym are.length_yb) ∙ told_new_beyond.east i (let e = are.length_q in omega (arith, l, e)));
      end_y = λ c l. ap (λ n. told_here.h (y - 1 - c) (long n)) (sym are.length_zh) ∙ told_here.east (y - 1 - c) (let e = are.length_t in omega (arith, l, e)) ∙ ap (λ n. slice_index T (n - 1 - c)) (sym are.length_yb)
          ∙ sym (ap (λ n. told_new_beyond.v (long n) c) (sym are.length_q) ∙ told_new_beyond.north c (let e = are.length_yb in omega (arith, l, e)));
      end_z = λ c l. ap (λ n. told_here.v (long n) c) (sym are.length_t) ∙ told_here.north c (let e = are.length_zh in omega (arith, l, e)) ∙ ap (λ n. slice_index U (n - 1 - c)) (are.length_zh ∙ sym are.length_zt)
          ∙ sym (ap (λ n. told_new_there.v (long n) c) (sym are.length_xt) ∙ told_new_there.north c (let e = are.length_zt in omega (arith, l, e)));
    }

    -- the six crossings of bundles
    abbrev g1 : List Node
    g1 = sized s told_beyond.v told_beyond.h x y

    abbrev g2 : List Node
    g2 = sized t told_there.v told_there.h x z

    abbrev g3 : List Node
    g3 = sized u told_here.v told_here.h y z

    abbrev f1 : List Node
    f1 = sized u told_new_here.v told_new_here.h y z

    abbrev f2 : List Node
    f2 = sized t told_new_there.v told_new_there.h x z

    abbrev f3 : List Node
    f3 = sized s told_new_beyond.v told_new_beyond.h x y

    sizes_1 : sized s told_beyond.v told_beyond.h (length Xb) (length S) ≡ g1
    sizes_1 = ap₂ (sized s told_beyond.v told_beyond.h) are.length_xb are.length_s

    sizes_2 : sized t told_there.v told_there.h (length Q) (length P) ≡ g2
    sizes_2 = ap₂ (sized t told_there.v told_there.h) are.length_q are.length_p

    sizes_3 : sized u told_here.v told_here.h (length T) (length Zh) ≡ g3
    sizes_3 = ap₂ (sized u told_here.v told_here.h) are.length_t are.length_zh

    sizes_4 : sized u told_new_here.v told_new_here.h (length Yh) (length P) ≡ f1
    sizes_4 = ap₂ (sized u told_new_here.v told_new_here.h) are.length_yh are.length_p

    sizes_5 : sized t told_new_there.v told_new_there.h (length Xt) (length Zt) ≡ f2
    sizes_5 = ap₂ (sized t told_new_there.v told_new_there.h) are.length_xt are.length_zt

    sizes_6 : sized s told_new_beyond.v told_new_beyond.h (length Q) (length Yb) ≡ f3
    sizes_6 = ap₂ (sized s told_new_beyond.v told_new_beyond.h) are.length_q are.length_yb

    module _ (free : ℕ) (rest : List Node) (ok : All IsNode rest) where
      at_size : (nodes others sides : List Node) → others ≡ sides → ((free : ℕ) (rest : List Node) → All IsNode rest → V m delta free (nodes ++ rest) ≡ V m delta free (others ++ rest)) → Alike m delta free nodes sides
      unfolding Alike
      at_size nodes others sides e same rest ok = same free rest ok ∙ ap (λ ns. V m delta free (ns ++ rest)) e

      -- THE THIRD MOVE OF CABLED CROSSINGS
      pub cabled_triangle : ((w : ℕ) → 1 ≤ times_in (names_of (beyond ++ (there ++ (here ++ rest)))) w → times_in (names_of (beyond ++ (there ++ (here ++ rest)))) w ≡ 2) →
          ((w : ℕ) → 1 ≤ times_in (names_of (new_here ++ (new_there ++ (new_beyond ++ rest)))) w → times_in (names_of (new_here ++ (new_there ++ (new_beyond ++ rest)))) w ≡ 2) →
          value m delta record { nodes = beyond ++ (there ++ (here ++ rest)); free_loops = free } ≡ value m delta record { nodes = new_here ++ (new_there ++ (new_beyond ++ rest)); free_loops = free }
      cabled_triangle old_twice new_twice =
          let ok1 = crossing_ok (straight s) (hook s) told_beyond.v told_beyond.h x y in
          let ok2 = crossing_ok (straight t) (hook t) told_there.v told_there.h x z in
          let ok3 = crossing_ok (straight u) (hook u) told_here.v told_here.h y z in
          let ok4 = crossing_ok (straight u) (hook u) told_new_here.v told_new_here.h y z in
          let ok5 = crossing_ok (straight t) (hook t) told_new_there.v told_new_there.h x z in
          let ok6 = crossing_ok (straight s) (hook s) told_new_beyond.v told_new_beyond.h x y in
          let counted : (nodes others sides : List Node) → others ≡ sides → ((w : ℕ) → times_in (names_of nodes) w ≡ times_in (names_of others) w) → (w : ℕ) → times_in (names_of nodes) w ≡ times_in (names_of sides) w =
          λ nodes others sides e times w. times w ∙ ap (λ ns. times_in (names_of ns) w) e in
          three_replaced m delta free beyond there here g1 g2 g3 rest ok_beyond ok_there ok_here ok1 ok2 ok3 ok
          (at_size beyond (sized s told_beyond.v told_beyond.h (length Xb) (length S)) g1 sizes_1 told_beyond.same) (at_size there (sized t told_there.v told_there.h (length Q) (length P)) g2 sizes_2 told_there.same)
          (at_size here (sized u told_here.v told_here.h (length T) (length Zh)) g3 sizes_3 told_here.same)
          ∙ bundle_triangle x y z few_x few_y few_z told_beyond.v told_beyond.h told_there.v told_there.h told_here.v told_here.h told_new_here.v told_new_here.h told_new_there.v told_new_there.h told_new_beyond.v told_new_beyond.h meets
          m a b delta free numbers s t u one_above rest ok
          (paired_three beyond there here rest g1 g2 g3 (counted beyond (sized s told_beyond.v told_beyond.h (length Xb) (length S)) g1 sizes_1 told_beyond.times)
          (counted there (sized t told_there.v told_there.h (length Q) (length P)) g2 sizes_2 told_there.times) (counted here (sized u told_here.v told_here.h (length T) (length Zh)) g3 sizes_3 told_here.times) old_twice)
          (paired_three new_here new_there new_beyond rest f1 f2 f3 (counted new_here (sized u told_new_here.v told_new_here.h (length Yh) (length P)) f1 sizes_4 told_new_here.times)
          (counted new_there (sized t told_new_there.v told_new_there.h (length Xt) (length Zt)) f2 sizes_5 told_new_there.times) (counted new_beyond (sized s told_new_beyond.v told_new_beyond.h (length Q) (length Yb)) f3 sizes_6 told_new_beyond.times) new_twice)
          ∙ sym (three_replaced m delta free new_here new_there new_beyond f1 f2 f3 rest ok_new_here ok_new_there ok_new_beyond ok4 ok5 ok6 ok
          (at_size new_here (sized u told_new_here.v told_new_here.h (length Yh) (length P)) f1 sizes_4 told_new_here.same) (at_size new_there (sized t told_new_there.v told_new_there.h (length Xt) (length Zt)) f2 sizes_5 told_new_there.same)
          (at_size new_beyond (sized s told_new_beyond.v told_new_beyond.h (length Q) (length Yb)) f3 sizes_6 told_new_beyond.same))
