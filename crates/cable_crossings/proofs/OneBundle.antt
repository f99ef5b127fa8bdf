-- A bundle that meets no strand goes through two crossings.
use Rattle.std.proofs.Common.{◌≡◌, ◌≢◌, ℕ, zero, suc, ◌+◌, ◌*◌, ◌≤◌, ◌==◌, ◌||◌, Bool, true, false, cond, List, [], ◌∷◌, ◌++◌, map, length, reverse, refl, sym, ap, ap₂, ◌∙◌, arith, ⊎_elim, All}
use Rattle.std.specs.List.{zip}
use Rattle.std.specs.Set.{is_member}
use Rattle.std.proofs.lemmas.Bool.{cases_Bool}
use Rattle.std.proofs.lemmas.Bool.Decides.{nat_tests}
use Rattle.std.proofs.lemmas.List.{length-reverse, reverse-reverse}
use Rattle.std.proofs.lemmas.List.Elements.{All-nil, All-cons}
use Rattle.state_sums.specs.LocalSums.{arc, rename}
use Rattle.state_sums.specs.Networks.{Node, IsNode, names_of}
use Rattle.list_lemmas.specs.Times.{times_in}
use Rattle.state_sums.specs.StateSums.{value}
use Rattle.piece_laws.specs.Arcs.{arcs_of}
use Rattle.graph_parts.specs.Ends.{ends_of}
use Rattle.piece_laws.proofs.ArcEdges.{names_of-arcs, IsNode-arcs}
use Rattle.piece_laws.proofs.RenamedNodes.{rename-append, rename_fixed}
use Rattle.list_lemmas.proofs.Times.{times_of_member, times_in-append, times_in-cons}
use Rattle.cables.specs.CableNodes.{through_node}
use Rattle.cables.proofs.NameCounts.{at, times-reverse}
use Rattle.cable_crossings.proofs.ManyArcs.{many_arcs, joined_all, firsts_of, seconds_of, AreJoinable}
use Rattle.cable_crossings.proofs.BundleTurns.{runs_exchanged}
use Rattle.cable_crossings.proofs.CabledBigon.{zip-times}
use Rattle.cable_crossings.proofs.StepPieces.{member_of_one, All-first}
use Rattle.cable_crossings.proofs.ThroughArcs.{through_arcs}

no_member : (z : ℕ) (xs : List ℕ) → times_in xs z ≡ 0 → is_member ◌==◌ xs z ≡ false
no_member z xs h = ⊎_elim (λ t. absurd (let one = times_of_member z xs t in omega (arith, one, h))) (λ t. t) (cases_Bool (is_member ◌==◌ xs z))

firsts : (xs ys : List ℕ) → length ys ≡ length xs → firsts_of (zip xs ys) ≡ xs
firsts [] ys e = refl
firsts (x ∷ xs) [] e = absurd (omega (arith, e))
firsts (x ∷ xs) (y ∷ ys) e = ap (λ zs. x ∷ zs) (firsts xs ys (omega (arith, e)))

seconds : (xs ys : List ℕ) → length ys ≡ length xs → seconds_of (zip xs ys) ≡ ys
seconds [] [] e = refl
seconds [] (y ∷ ys) e = absurd (omega (arith, e))
seconds (x ∷ xs) [] e = absurd (omega (arith, e))
seconds (x ∷ xs) (y ∷ ys) e = ap (λ zs. y ∷ zs) (seconds xs ys (omega (arith, e)))

at_self : (x : ℕ) → at x x ≡ 1
at_self x = grind (arith, nat_tests)

-- the first names are different, and none is a second one
joinable : (xs ys names : List ℕ) → length ys ≡ length xs → ((z : ℕ) → 1 ≤ times_in xs z → times_in xs z + times_in ys z ≤ 1) →
    ((z : ℕ) → is_member ◌==◌ xs z ≡ true → is_member ◌==◌ names z ≡ true) → ((z : ℕ) → is_member ◌==◌ ys z ≡ true → is_member ◌==◌ names z ≡ true) → AreJoinable (zip xs ys) names
joinable [] ys names e once hx hy = tt
joinable (x ∷ xs) [] names e once hx hy = absurd (omega (arith, e))
joinable (x ∷ xs) (y ∷ ys) names e once hx hy =
    let le : length ys ≡ length xs = omega (arith, e) in
    let cx = times_in-cons x xs x in
    let cy = times_in-cons y ys x in
    let dx = times_in-cons x xs y in
    let dy = times_in-cons y ys y in
    let sx = at_self x in
    let sy = at_self y in
    let a = once x (omega (arith, cx, sx)) in
    let none_x : times_in xs x ≡ 0 = omega (arith, a, cx, sx) in
    let none_y : times_in ys x ≡ 0 = omega (arith, a, cx, cy, sx) in
    let differ : x ≢ y = λ s. (let t = ap (at x) (sym s) ∙ sx in omega (arith, a, cx, cy, sx, t)) in
    let clear : times_in xs y ≡ 0 = clear_if (times_in xs y) (λ h. (let t = once y (omega (arith, dx, h)) in omega (arith, t, dx, dy, sy, h))) in (
      hx x (member_of_one x (x ∷ xs) (omega (arith, cx, sx))),
      hy y (member_of_one y (y ∷ ys) (omega (arith, dy, sy))),
      differ,
      ap (λ zs. is_member ◌==◌ zs x) (firsts xs ys le) ∙ no_member x xs none_x,
      ap (λ zs. is_member ◌==◌ zs x) (seconds xs ys le) ∙ no_member x ys none_y,
      ap (λ zs. is_member ◌==◌ zs y) (firsts xs ys le) ∙ no_member y xs clear,
      joinable xs ys names le
          (λ z h. (let c = times_in-cons x xs z in let d = times_in-cons y ys z in let t = once z (omega (arith, c, h)) in omega (arith, t, c, d)))
          (λ z m. hx z (later (z == x) (is_member ◌==◌ xs z) m)) (λ z m. hy z (later (z == y) (is_member ◌==◌ ys z) m)),
    )
  where
    later : (s t : Bool) → t ≡ true → (s || t) ≡ true
    later s t h = grind (arith, h)

    clear_if : (k : ℕ) → (1 ≤ k → ⊥) → k ≡ 0
    clear_if zero h = refl
    clear_if (suc k) h = absurd (h (omega arith))

-- what becomes of names
turned_away : (xs ys : List ℕ) (z : ℕ) → length ys ≡ length xs → times_in xs z ≡ 0 → joined_all (zip xs ys) z ≡ z
turned_away [] ys z e h = refl
turned_away (x ∷ xs) [] z e h = refl
turned_away (x ∷ xs) (y ∷ ys) z e h =
    let c = times_in-cons x xs z in
    let ih = turned_away xs ys z (omega (arith, e)) (omega (arith, c, h)) in
    let out : at z x ≡ 0 = omega (arith, c, h) in
    plain z x y (joined_all (zip xs ys) z) out ∙ ih
  where
    plain : (z x y t : ℕ) → at z x ≡ 0 → cond (z == x) y t ≡ t
    plain z x y t h = grind (arith, nat_tests, h)

turned_map : (xs ys : List ℕ) → length ys ≡ length xs → ((z : ℕ) → times_in xs z ≤ 1) → map (joined_all (zip xs ys)) xs ≡ ys
turned_map [] [] e once = refl
turned_map [] (y ∷ ys) e once = absurd (omega (arith, e))
turned_map (x ∷ xs) [] e once = absurd (omega (arith, e))
turned_map (x ∷ xs) (y ∷ ys) e once =
    let ih = turned_map xs ys (omega (arith, e)) (λ z. (let c = times_in-cons x xs z in let t = once z in omega (arith, c, t))) in
    let g = joined_all (zip xs ys) in
    let none : times_in xs x ≡ 0 = (let c = times_in-cons x xs x in let s = at_self x in let t = once x in omega (arith, c, s, t)) in
    ap₂ (λ p q. p ∷ q) (here x y (g x)) (rest_same x y g xs none ∙ ih)
  where
    here : (x y t : ℕ) → cond (x == x) y t ≡ y
    here x y t = grind (arith, nat_tests)

    away : (z x y t : ℕ) → at x z ≡ 0 → cond (z == x) y t ≡ t
    away z x y t h = grind (arith, nat_tests, h)

    rest_same : (x y : ℕ) (g : ℕ → ℕ) (zs : List ℕ) → times_in zs x ≡ 0 → map (λ z. cond (z == x) y (g z)) zs ≡ map g zs
    rest_same x y g [] h = refl
    rest_same x y g (z ∷ zs) h = let c = times_in-cons z zs x in ap₂ (λ p q. p ∷ q) (away z x y (g z) (omega (arith, c, h))) (rest_same x y g zs (omega (arith, c, h)))

pub rename_zip : (f : ℕ → ℕ) (xs ys : List ℕ) → rename f (arcs_of (zip xs ys)) ≡ arcs_of (zip (map f xs) (map f ys))
rename_zip f [] ys = refl
rename_zip f (x ∷ xs) [] = refl
rename_zip f (x ∷ xs) (y ∷ ys) = ap (λ ns. arc (f x) (f y) ∷ ns) (rename_zip f xs ys)

map_kept : (f : ℕ → ℕ) (xs : List ℕ) → ((z : ℕ) → 1 ≤ times_in xs z → f z ≡ z) → map f xs ≡ xs
map_kept f [] h = refl
map_kept f (x ∷ xs) h =
    let s = at_self x in
    let c = times_in-cons x xs x in
    ap₂ (λ p q. p ∷ q) (h x (omega (arith, s, c))) (map_kept f xs (λ z k. h z (let d = times_in-cons x xs z in omega (arith, d, k))))

-- STRANDS THAT GO THROUGH TWICE
module _ (m delta free n g g' : ℕ) (M A C : List ℕ) (rest : List Node) (lM : length M ≡ n) (lA : length A ≡ n) (lC : length C ≡ n) (ok : All IsNode rest)
    (ok_two : IsNode (through_node g' A (reverse M)))
    (counts : (z : ℕ) → 1 ≤ 2 * times_in M z + times_in C z + times_in A z + times_in (names_of rest) z → 2 * times_in M z + times_in C z + times_in A z + times_in (names_of rest) z ≡ 2)
    (once : (z : ℕ) → times_in C z ≤ 1) where
  abbrev Z : List ℕ
  Z = reverse C

  lZ : length Z ≡ length M
  lZ = length-reverse C ∙ lC ∙ sym lM

  M_once : (z : ℕ) → times_in M z ≤ 1
  M_once z = bounded (times_in M z) (times_in C z + times_in A z + times_in (names_of rest) z) (λ h. (let t = counts z (omega (arith, h)) in omega (arith, t)))
    where
      bounded : (k r : ℕ) → (1 ≤ 2 * k + r → 2 * k + r ≡ 2) → k ≤ 1
      bounded zero r h = omega arith
      bounded (suc k) r h = let t = h (omega arith) in omega (arith, t)

  alone : (z : ℕ) → 1 ≤ times_in M z → (times_in C z ≡ 0) × (times_in A z ≡ 0) × (times_in (names_of rest) z ≡ 0)
  alone z h = let t = counts z (omega (arith, h)) in (omega (arith, t, h), omega (arith, t, h), omega (arith, t, h))

  abbrev turn : ℕ → ℕ
  turn = joined_all (zip M Z)

  stay : (z : ℕ) → times_in M z ≡ 0 → turn z ≡ z
  stay z h = turned_away M Z z lZ h

  none_M : (z k : ℕ) → 1 ≤ k → (1 ≤ times_in M z → k ≡ 0) → times_in M z ≡ 0
  none_M z k h f = clear (times_in M z) (λ t. (let u = f t in omega (arith, u, h)))
    where
      clear : (k : ℕ) → (1 ≤ k → ⊥) → k ≡ 0
      clear zero h = refl
      clear (suc k) h = absurd (h (omega arith))

  abbrev V : List Node → ℕ
  V ns = value m delta record { nodes = ns; free_loops = free }

  abbrev behind : List Node
  behind = arcs_of (zip A M) ++ rest

  behind_times : (z : ℕ) → times_in (names_of behind) z ≡ times_in A z + times_in M z + times_in (names_of rest) z
  behind_times z =
      let a = ap (λ ns. times_in ns z) (names_of-arcs (zip A M) rest) in
      let b = times_in-append (ends_of (zip A M)) (names_of rest) z in
      let c = zip-times z A M (lM ∙ sym lA) in
      omega (arith, a, b, c)

  joined : V (arcs_of (zip M Z) ++ behind) ≡ V (arcs_of (zip A Z) ++ rest)
  joined =
      many_arcs m delta free (zip M Z) behind (IsNode-arcs (zip A M) rest ok)
      (joinable M Z (names_of behind) lZ
      (λ z h. (let t = M_once z in let a = (alone z h).0 in let r = times-reverse z C in omega (arith, t, a, r)))
      (λ z k. member_of_one z (names_of behind) (let one = times_of_member z M k in let b = behind_times z in omega (arith, one, b)))
      (λ z k. member_of_one z (names_of behind)
      (let one = times_of_member z Z k in let r = times-reverse z C in let b = behind_times z in let o = once z in let t = counts z (omega (arith, one, r)) in
      let nm = none_M z (times_in C z) (omega (arith, one, r)) (λ h. (alone z h).0) in omega (arith, one, r, b, o, t, nm))))
      ∙ ap V
      (rename-append turn (arcs_of (zip A M)) rest
      ∙ ap₂ (λ xs ys. xs ++ ys)
      (rename_zip turn A M ∙ ap₂ (λ xs ys. arcs_of (zip xs ys)) (map_kept turn A (λ z h. stay z (none_M z (times_in A z) h (λ t. (alone z t).1)))) (turned_map M Z lZ M_once))
      (rename_fixed turn rest (λ x k. stay x (none_M x (times_in (names_of rest) x) (times_of_member x (names_of rest) k) (λ t. (alone x t).2)))))

  -- from the arcs of the first
  pub from_arcs : V (arcs_of (zip M Z) ++ (through_node g' A (reverse M) ∷ rest)) ≡ V (arcs_of (zip A Z) ++ rest)
  from_arcs =
      let T2 = through_node g' A (reverse M) in
      let arcs1 = arcs_of (zip M Z) in
      let ok1 = All-first IsNode arcs1 [] (IsNode-arcs (zip M Z) [] (All-nil IsNode)) in
      let okT = All-cons IsNode T2 [] ok_two (All-nil IsNode) in
      let rM = length-reverse M in
      runs_exchanged m delta free arcs1 (T2 ∷ []) rest ok1 okT ok
      ∙ through_arcs g' n A (reverse M) lA (rM ∙ lM) m delta free (arcs1 ++ rest) (All-cons IsNode T2 (arcs1 ++ rest) ok_two (IsNode-arcs (zip M Z) rest ok))
      ∙ ap (λ xs. V (arcs_of (zip A xs) ++ (arcs1 ++ rest))) (reverse-reverse M)
      ∙ runs_exchanged m delta free (arcs_of (zip A M)) arcs1 rest (All-first IsNode (arcs_of (zip A M)) [] (IsNode-arcs (zip A M) [] (All-nil IsNode))) ok1 ok
      ∙ joined

  pub through_twice : IsNode (through_node g M C) → V (through_node g M C ∷ through_node g' A (reverse M) ∷ rest) ≡ V (arcs_of (zip A Z) ++ rest)
  through_twice ok_one =
      let T2 = through_node g' A (reverse M) in
      through_arcs g n M C lM lC m delta free (T2 ∷ rest) (All-cons IsNode (through_node g M C) (T2 ∷ rest) ok_one (All-cons IsNode T2 rest ok_two ok)) ∙ from_arcs
