-- A crossing of two neighbouring strands steps from a stub of a diagram to the opposite stub of the crossing there. The diagram's crossings stand by
-- their stubs beside any other nodes, with which each name stands twice.
use Rattle.std.proofs.Common.{◌≡◌, ◌≢◌, ℕ, suc, ◌+◌, ◌-◌, ◌*◌, ◌<◌, ◌≤◌, ◌==◌, ◌||◌, Bool, true, false, if◌then◌else◌, cond, List, [], ◌∷◌, ◌++◌, length, slice_index, refl, sym, ap, ap₂, ◌∙◌, arith, ⊎_elim, All, subst}
use Rattle.std.specs.List.{AllByRecursion}
use Rattle.std.specs.List.Sorted.{IsPermutation}
use Rattle.std.specs.Set.{is_member}
use Rattle.std.proofs.lemmas.Bool.{cases_eq, or_left, or_right}
use Rattle.std.proofs.lemmas.Bool.Decides.{nat_tests}
use Rattle.std.proofs.lemmas.List.Elements.{All-append, All-cons}
use Rattle.std.proofs.lemmas.List.Sorted.{IsPermutation-refl, IsPermutation-append_right}
use Rattle.graph_parts.proofs.Distinct.{is_member-append}
use Rattle.list_lemmas.specs.Times.{times_in}
use Rattle.list_lemmas.proofs.Times.{times_in-append}
use Rattle.state_sums.specs.Networks.{Node, IsNode, names_of}
use Rattle.state_sums.specs.StateSums.{value}
use Rattle.state_sums.proofs.NetworkLaws.{any_order}
use Rattle.state_sums.proofs.WrittenNodes.{IsNode-crossing}
use Rattle.root_quantum.specs.Parameters.{Parameters}
use Rattle.root_quantum.specs.QuantumNumbers.{inverse_root, loop_value}
use Rattle.piece_laws.proofs.ParameterNumbers.{skein_numbers}
use Rattle.pd_reader.specs.declared.item.Item.{Item}
use Rattle.pd_reader.specs.declared.item.Item.TheVariants as item
use Rattle.pd_reader.specs.Items.{HasItsSlots}
use Rattle.cables.specs.CableNodes.{crossing_cable}
use Rattle.cables.specs.Strands.{Strands}
use Rattle.cables.proofs.GridNames.{crossing-times, crossing_inner}
use Rattle.cables.proofs.NameCounts.{at, times_of-append}
use Rattle.diagram_moves.specs.Rewriting.{crossing_labels}
use Rattle.diagram_moves.proofs.Paired.{loop_labels}
use Rattle.diagram_moves.proofs.Pushing.{crossing_labels-append}
use Rattle.move_results.proofs.PairedAgain.{loop_labels-append}
use Rattle.cable_crossings.proofs.StepPieces.{All-first, All-second}
use Rattle.cable_crossings.proofs.ToldCrossings.{told, told_from}
use Rattle.coloured_moves.proofs.StubItems.{half, at_stub, stub_crossing, stub_nodes, moved_out}
use Rattle.coloured_moves.proofs.StubNames.{Straight}
use Rattle.coloured_moves.proofs.TurnedBoxes.{names_permuted}
use Rattle.coloured_curls.proofs.StubLetters.{changed, changed_length, changed_times, put, put_here, put_other, crossing_ok, kept_put, parted, four_times}
use Rattle.coloured_curls.proofs.StubSlides.{letter_at, letter_times, slides_through}

-- ---- lists of items, one behind the other
pub labels_times : (pre rest : List Item) (z : ℕ) → times_in (crossing_labels (pre ++ rest)) z ≡ times_in (crossing_labels pre) z + times_in (crossing_labels rest) z
labels_times pre rest z = ap (λ ns. times_in ns z) (crossing_labels-append pre rest) ∙ times_in-append (crossing_labels pre) (crossing_labels rest) z

loops_both : (pre rest : List Item) (l : ℕ) → is_member ◌==◌ (loop_labels (pre ++ rest)) l ≡ (is_member ◌==◌ (loop_labels pre) l || is_member ◌==◌ (loop_labels rest) l)
loops_both pre rest l = ap (λ ns. is_member ◌==◌ ns l) (loop_labels-append pre rest) ∙ is_member-append (loop_labels pre) (loop_labels rest) l

loops_first : (pre rest : List Item) (l : ℕ) → is_member ◌==◌ (loop_labels pre) l ≡ true → is_member ◌==◌ (loop_labels (pre ++ rest)) l ≡ true
loops_first pre rest l m = loops_both pre rest l ∙ or_left (is_member ◌==◌ (loop_labels pre) l) (is_member ◌==◌ (loop_labels rest) l) m

loops_second : (pre rest : List Item) (l : ℕ) → is_member ◌==◌ (loop_labels rest) l ≡ true → is_member ◌==◌ (loop_labels (pre ++ rest)) l ≡ true
loops_second pre rest l m = loops_both pre rest l ∙ or_right (is_member ◌==◌ (loop_labels pre) l) (is_member ◌==◌ (loop_labels rest) l) m

parts_of : (P : Item → Type 0) (pre rest : List Item) → AllByRecursion P (pre ++ rest) → AllByRecursion P pre × AllByRecursion P rest
parts_of P [] rest h = (tt, h)
parts_of P (x ∷ pre) rest h = let r = parts_of P pre rest h.1 in ((h.0, r.0), r.1)

-- opposite stubs of a crossing have as many strands
pub opposite_lengths : (S : Strands) (pre post : List Item) (w0 w1 w2 w3 : ℕ) → AllByRecursion (Straight S) (pre ++ item.X (w0 ∷ w1 ∷ w2 ∷ w3 ∷ []) ∷ post) → (length (at_stub S w0) ≡ length (at_stub S w2)) × (length (at_stub S w1) ≡ length (at_stub S w3))
opposite_lengths S pre post w0 w1 w2 w3 h = (parts_of (Straight S) pre (item.X (w0 ∷ w1 ∷ w2 ∷ w3 ∷ []) ∷ post) h).1.0

-- ---- names that are new
pub record AreNew (names : List ℕ) (left right : ℕ) : Type 0 where
  pub apart : left ≢ right
  pub no_left : times_in names left ≡ 0
  pub no_right : times_in names right ≡ 0

pub still_twice : (names : List ℕ) (left right : ℕ) → AreNew names left right → ((z : ℕ) → 1 ≤ times_in names z → times_in names z ≡ 2) → (z total : ℕ) → total ≡ times_in names z + 2 * (at z left + at z right) → 1 ≤ total → total ≡ 2
still_twice names left right new twice z total e one =
    let nl = new.no_left in let nr = new.no_right in let d = new.apart in
    ⊎_elim
    (λ (s : z ≡ left).
    let a : at z left ≡ 1 = grind (arith, nat_tests, s) in
    let b : at z right ≡ 0 = grind (arith, nat_tests, s, d) in
    let c : times_in names z ≡ 0 = ap (times_in names) s ∙ nl in
    omega (arith, e, a, b, c))
    (λ u. ⊎_elim
    (λ (s : z ≡ right).
    let a : at z left ≡ 0 = grind (arith, nat_tests, u) in
    let b : at z right ≡ 1 = grind (arith, nat_tests, s) in
    let c : times_in names z ≡ 0 = ap (times_in names) s ∙ nr in
    omega (arith, e, a, b, c))
    (λ v.
    let a : at z left ≡ 0 = grind (arith, nat_tests, u) in
    let b : at z right ≡ 0 = grind (arith, nat_tests, v) in
    let t = twice z (omega (arith, e, a, b, one)) in
    omega (arith, e, a, b, t))
    (cases_eq z right))
    (cases_eq z left)

-- The crossings of a diagram by their stubs, beside other nodes.
pub record AreStubs (p : Parameters) (S : Strands) (K : List Node) (n g i lg : ℕ) (D : List Item) : Type 0 where
  pub nodes : All IsNode K
  pub crossings : All IsNode (stub_nodes p S [] n g i lg D)
  pub sizes : AllByRecursion HasItsSlots D
  pub straight : AllByRecursion (Straight S) D
  pub few : (w : ℕ) → length (at_stub S w) ≤ 8
  pub once : (w : ℕ) → times_in (crossing_labels D) w ≤ 1
  pub loops : (l w : ℕ) → is_member ◌==◌ (loop_labels D) l ≡ true → half w ≡ l → times_in (crossing_labels D) w ≡ 0
  pub twice : (z : ℕ) → 1 ≤ times_in (names_of (K ++ stub_nodes p S [] n g i lg D)) z → times_in (names_of (K ++ stub_nodes p S [] n g i lg D)) z ≡ 2

-- the weights of a crossing of strands
abbrev pub weight : Parameters → Bool → ℕ
weight p over = if over then p.root else inverse_root p

abbrev pub other_weight : Parameters → Bool → ℕ
other_weight p over = if over then inverse_root p else p.root

-- a small crossing at the places k and k+1 of a stub
abbrev pub with_letter : Parameters → Bool → Strands → List Node → ℕ → ℕ → ℕ → ℕ → List Item → ℕ → ℕ → ℕ → ℕ → List Node
with_letter p t S K n g i lg D w k left right =
    letter_at (weight p t) (other_weight p t) (at_stub S w) k left right ∷ (K ++ stub_nodes p (put S w (changed (at_stub S w) k left right)) [] n g i lg D)

-- ---- at one crossing
module _ (p : Parameters) (free : ℕ) (t : Bool) (S : Strands) (K : List Node) (n0 g0 i0 lg0 : ℕ) (pre post : List Item) (w0 w1 w2 w3 : ℕ)
    (are : AreStubs p S K n0 g0 i0 lg0 (pre ++ item.X (w0 ∷ w1 ∷ w2 ∷ w3 ∷ []) ∷ post)) where
  abbrev ws : List ℕ
  ws = w0 ∷ w1 ∷ w2 ∷ w3 ∷ []

  abbrev D : List Item
  D = pre ++ item.X ws ∷ post

  abbrev V : List Node → ℕ
  V ns = value p.modulus (loop_value p) record { nodes = ns; free_loops = free }

  place : (n' : ℕ) × (g' : ℕ) × (i' : ℕ) × (lg' : ℕ) × ((S : Strands) (rest : List Item) → stub_nodes p S [] n0 g0 i0 lg0 (pre ++ rest) ≡ stub_nodes p S [] n0 g0 i0 lg0 pre ++ stub_nodes p S [] n' g' i' lg' rest)
  place = parted p pre n0 g0 i0 lg0

  abbrev g : ℕ
  g = place.1

  abbrev i : ℕ
  i = place.2

  abbrev P : Strands → List Node
  P T = stub_nodes p T [] n0 g0 i0 lg0 pre

  abbrev Q : Strands → List Node
  Q T = stub_nodes p T [] (place.0 + 1) (g + 1) (i + 1) place.3 post

  abbrev C : Strands → List Node
  C T = stub_crossing p T g i ws

  all_are : (T : Strands) → stub_nodes p T [] n0 g0 i0 lg0 D ≡ P T ++ (C T ++ Q T)
  all_are T = place.4 T (item.X ws ∷ post)

  rest_sizes : AllByRecursion HasItsSlots pre × AllByRecursion HasItsSlots (item.X ws ∷ post)
  rest_sizes = parts_of HasItsSlots pre (item.X ws ∷ post) are.sizes

  lengths : (length (at_stub S w0) ≡ length (at_stub S w2)) × (length (at_stub S w1) ≡ length (at_stub S w3))
  lengths = opposite_lengths S pre post w0 w1 w2 w3 are.straight

  parts_ok : All IsNode (P S ++ (C S ++ Q S))
  parts_ok = subst (All IsNode) (all_are S) are.crossings

  P_ok : All IsNode (P S)
  P_ok = All-first IsNode (P S) (C S ++ Q S) parts_ok

  Q_ok : All IsNode (Q S)
  Q_ok = All-second IsNode (C S) (Q S) (All-second IsNode (P S) (C S ++ Q S) parts_ok)

  abbrev rest : List Node
  rest = K ++ (P S ++ Q S)

  rest_ok : All IsNode rest
  rest_ok = All-append IsNode K (P S ++ Q S) are.nodes (All-append IsNode (P S) (Q S) P_ok Q_ok)

  -- ---- a stub of the crossing stands there alone
  label_counts : (w : ℕ) → times_in (crossing_labels D) w ≡ times_in (crossing_labels pre) w + (at w w0 + at w w1 + at w w2 + at w w3) + times_in (crossing_labels post) w
  label_counts w =
      let a = labels_times pre (item.X ws ∷ post) w in
      let b = times_in-append ws (crossing_labels post) w in
      let c = four_times w w0 w1 w2 w3 in
      omega (arith, a, b, c)

  one_at : (w : ℕ) → at w w ≡ 1
  one_at w = grind (arith, nat_tests)

  no_loop : (w : ℕ) → 1 ≤ times_in (crossing_labels D) w → (l : ℕ) → is_member ◌==◌ (loop_labels D) l ≡ true → 2 * l ≢ w
  no_loop w h l m e = let none = are.loops l (2 * l) m (let q : half (2 * l) ≡ l = omega arith in q) in let s = ap (times_in (crossing_labels D)) e in omega (arith, none, s, h)

  others_kept : (w : ℕ) (ys : List ℕ) → 1 ≤ times_in ws w → (P (put S w ys) ≡ P S) × (Q (put S w ys) ≡ Q S)
  others_kept w ys h =
      let c = label_counts w in
      let f = four_times w w0 w1 w2 w3 in
      let o = are.once w in
      let some : 1 ≤ times_in (crossing_labels D) w = omega (arith, c, f, h) in (
        kept_put p S w ys n0 g0 i0 lg0 pre rest_sizes.0 (omega (arith, c, f, o, h)) (λ l m. no_loop w some l (loops_first pre (item.X ws ∷ post) l m)),
        kept_put p S w ys (place.0 + 1) (g + 1) (i + 1) place.3 post rest_sizes.1.1 (omega (arith, c, f, o, h)) (λ l m. no_loop w some l (loops_second pre (item.X ws ∷ post) l m)),
      )

  front_perm : (A : List Node) → IsPermutation (K ++ (P S ++ (A ++ Q S))) (A ++ rest)
  front_perm A = moved_out K A (P S ++ (A ++ Q S)) (P S ++ Q S) (moved_out (P S) A (A ++ Q S) (Q S) (IsPermutation-refl (A ++ Q S)))

  -- the crossing comes to the front
  in_front : (w : ℕ) (ys : List ℕ) (A : List Node) (l : Node) → 1 ≤ times_in ws w → C (put S w ys) ≡ A → All IsNode A → IsNode l → V (l ∷ (K ++ stub_nodes p (put S w ys) [] n0 g0 i0 lg0 D)) ≡ V (l ∷ (A ++ rest))
  in_front w ys A l h e ok okl =
      let kept = others_kept w ys h in
      let B : List Node = K ++ (P S ++ (A ++ Q S)) in
      let okB : All IsNode (l ∷ B) = All-cons IsNode l B okl (All-append IsNode K (P S ++ (A ++ Q S)) are.nodes (All-append IsNode (P S) (A ++ Q S) P_ok (All-append IsNode A (Q S) ok Q_ok))) in
      ap (λ ns. V (l ∷ (K ++ ns))) (all_are (put S w ys) ∙ ap₂ (λ xs ys. xs ++ ys) kept.0 (ap₂ (λ xs ys. xs ++ ys) e kept.1))
      ∙ sym (any_order p.modulus (loop_value p) free (l ∷ B) (l ∷ (A ++ rest)) okB (IsPermutation-append_right (l ∷ []) B (A ++ rest) (front_perm A)))

  -- ---- how often names stand
  abbrev base : List ℕ
  base = names_of (K ++ stub_nodes p S [] n0 g0 i0 lg0 D)

  base_times : (z : ℕ) → times_in base z ≡ times_in (names_of (C S)) z + times_in (names_of rest) z
  base_times z =
      let e = ap (λ ns. times_in (names_of (K ++ ns)) z) (all_are S) in
      let a = names_permuted z (K ++ (P S ++ (C S ++ Q S))) (C S ++ rest) (front_perm (C S)) in
      let b = times_of-append z (C S) rest in
      omega (arith, e, a, b)

  letter_node : (xs : List ℕ) (k left right : ℕ) → IsNode (letter_at (weight p t) (other_weight p t) xs k left right)
  letter_node xs k left right = IsNode-crossing (weight p t) (other_weight p t) (slice_index xs (suc k)) right left (slice_index xs k)

  -- the names of the crossing with a small crossing at one of its bundles
  changed_crossing : (xs : List ℕ) (k left right : ℕ) (A : List Node) → AreNew base left right → k + 1 < length xs →
      ((z : ℕ) → times_in (names_of A) z + times_in xs z ≡ times_in (names_of (C S)) z + times_in (changed xs k left right) z) →
      (z : ℕ) → 1 ≤ times_in (names_of (letter_at (weight p t) (other_weight p t) xs k left right ∷ (A ++ rest))) z → times_in (names_of (letter_at (weight p t) (other_weight p t) xs k left right ∷ (A ++ rest))) z ≡ 2
  changed_crossing xs k left right A new inside counts z one =
      let a = letter_times (weight p t) (other_weight p t) xs k left right z (A ++ rest) in
      let b = times_of-append z A rest in
      let c = counts z in
      let d = changed_times xs k left right z inside in
      let e = base_times z in
      still_twice base left right new are.twice z (times_in (names_of (letter_at (weight p t) (other_weight p t) xs k left right ∷ (A ++ rest))) z) (omega (arith, a, b, c, d, e)) one

  abbrev a : List ℕ
  a = at_stub S w0

  abbrev b : List ℕ
  b = at_stub S w1

  abbrev c : List ℕ
  c = at_stub S w2

  abbrev d : List ℕ
  d = at_stub S w3

  abbrev X : List ℕ → List ℕ → List ℕ → List ℕ → List Node
  X = crossing_cable p g i

  four_kept : (w v : ℕ) (ys : List ℕ) → w ≢ v → at_stub (put S w ys) v ≡ at_stub S v
  four_kept w v ys e = put_other S w v ys (λ s. e (sym s))

  differ : (v w : ℕ) → at w v ≡ 0 → w ≢ v
  differ v w h e = grind (arith, nat_tests, h, e)

  -- which of the stubs is meant
  at_0 : (ys : List ℕ) → C (put S w0 ys) ≡ X ys b c d
  at_0 ys =
      let n = label_counts w0 in let o = are.once w0 in let s = one_at w0 in
      ap₂ (λ x y. X x y (at_stub (put S w0 ys) w2) (at_stub (put S w0 ys) w3)) (put_here S w0 ys) (four_kept w0 w1 ys (differ w1 w0 (omega (arith, n, o, s))))
      ∙ ap₂ (λ x y. X ys b x y) (four_kept w0 w2 ys (differ w2 w0 (omega (arith, n, o, s)))) (four_kept w0 w3 ys (differ w3 w0 (omega (arith, n, o, s))))

  at_1 : (ys : List ℕ) → C (put S w1 ys) ≡ X a ys c d
  at_1 ys =
      let n = label_counts w1 in let o = are.once w1 in let s = one_at w1 in
      ap₂ (λ x y. X x y (at_stub (put S w1 ys) w2) (at_stub (put S w1 ys) w3)) (four_kept w1 w0 ys (differ w0 w1 (omega (arith, n, o, s)))) (put_here S w1 ys)
      ∙ ap₂ (λ x y. X a ys x y) (four_kept w1 w2 ys (differ w2 w1 (omega (arith, n, o, s)))) (four_kept w1 w3 ys (differ w3 w1 (omega (arith, n, o, s))))

  at_2 : (ys : List ℕ) → C (put S w2 ys) ≡ X a b ys d
  at_2 ys =
      let n = label_counts w2 in let o = are.once w2 in let s = one_at w2 in
      ap₂ (λ x y. X x y (at_stub (put S w2 ys) w2) (at_stub (put S w2 ys) w3)) (four_kept w2 w0 ys (differ w0 w2 (omega (arith, n, o, s)))) (four_kept w2 w1 ys (differ w1 w2 (omega (arith, n, o, s))))
      ∙ ap₂ (λ x y. X a b x y) (put_here S w2 ys) (four_kept w2 w3 ys (differ w3 w2 (omega (arith, n, o, s))))

  at_3 : (ys : List ℕ) → C (put S w3 ys) ≡ X a b c ys
  at_3 ys =
      let n = label_counts w3 in let o = are.once w3 in let s = one_at w3 in
      ap₂ (λ x y. X x y (at_stub (put S w3 ys) w2) (at_stub (put S w3 ys) w3)) (four_kept w3 w0 ys (differ w0 w3 (omega (arith, n, o, s)))) (four_kept w3 w1 ys (differ w1 w3 (omega (arith, n, o, s))))
      ∙ ap₂ (λ x y. X a b x y) (four_kept w3 w2 ys (differ w2 w3 (omega (arith, n, o, s)))) (put_here S w3 ys)

  some_0 : 1 ≤ times_in ws w0
  some_0 = let f = four_times w0 w0 w1 w2 w3 in let s = one_at w0 in omega (arith, f, s)

  some_1 : 1 ≤ times_in ws w1
  some_1 = let f = four_times w1 w0 w1 w2 w3 in let s = one_at w1 in omega (arith, f, s)

  some_2 : 1 ≤ times_in ws w2
  some_2 = let f = four_times w2 w0 w1 w2 w3 in let s = one_at w2 in omega (arith, f, s)

  some_3 : 1 ≤ times_in ws w3
  some_3 = let f = four_times w3 w0 w1 w2 w3 in let s = one_at w3 in omega (arith, f, s)

  inner_same : (z x y u v : ℕ) → x ≡ u → y ≡ v → crossing_inner i x y z ≡ crossing_inner i u v z
  inner_same z x y u v e f = ap₂ (λ s t. crossing_inner i s t z) e f

  module _ (k left right : ℕ) (new : AreNew base left right) where
    -- FROM THE FIRST STUB TO THE THIRD
    pub first_to_third : k + 1 < length a → V (with_letter p t S K n0 g0 i0 lg0 D w0 k left right) ≡ V (with_letter p t S K n0 g0 i0 lg0 D w2 (length a - 2 - k) left right)
    first_to_third inside =
        let j = length a - 2 - k in
        let ya = changed a k left right in
        let yc = changed c j left right in
        let ea = changed_length a k left right in
        let ec = changed_length c j left right in
        let la = lengths.0 in let lb = lengths.1 in
        let fa = are.few w0 in let fb = are.few w1 in
        let before = X ya b c d in
        let behind = X a b yc d in
        let ok_before : All IsNode before = crossing_ok p g i ya b c d (ea ∙ la) lb (omega (arith, ea, fa)) fb in
        let ok_behind : All IsNode behind = crossing_ok p g i a b yc d (la ∙ sym ec) lb fa fb in
        in_front w0 ya before (letter_at (weight p t) (other_weight p t) a k left right) some_0 (at_0 ya) ok_before (letter_node a k left right)
        ∙ slides_through p.modulus p.root (inverse_root p) (loop_value p) free (skein_numbers p).skein true t a b c d k left right inside la fa fb before behind rest
        (told p (loop_value p) g i ya b c d (ea ∙ la) lb ok_before) (told p (loop_value p) g i a b yc d (la ∙ sym ec) lb ok_behind) ok_before ok_behind rest_ok
        (changed_crossing a k left right before new inside
        (λ z. (let q = crossing-times p g i z ya b c d (ea ∙ la) lb in let r = crossing-times p g i z a b c d la lb in let s = inner_same z (length ya) (length b) (length a) (length b) ea refl in omega (arith, q, r, s))))
        (changed_crossing c j left right behind new (omega (arith, inside, la))
        (λ z. (let q = crossing-times p g i z a b yc d (la ∙ sym ec) lb in let r = crossing-times p g i z a b c d la lb in omega (arith, q, r))))
        ∙ sym (in_front w2 yc behind (letter_at (weight p t) (other_weight p t) c j left right) some_2 (at_2 yc) ok_behind (letter_node c j left right))

    -- FROM THE SECOND STUB TO THE FOURTH
    pub second_to_fourth : k + 1 < length b → V (with_letter p t S K n0 g0 i0 lg0 D w1 k left right) ≡ V (with_letter p t S K n0 g0 i0 lg0 D w3 (length b - 2 - k) left right)
    second_to_fourth inside =
        let j = length b - 2 - k in
        let yb = changed b k left right in
        let yd = changed d j left right in
        let eb = changed_length b k left right in
        let ed = changed_length d j left right in
        let la = lengths.0 in let lb = lengths.1 in
        let fa = are.few w0 in let fb = are.few w1 in let fc = are.few w2 in
        let before = X a yb c d in
        let behind = X a b c yd in
        let ok_before : All IsNode before = crossing_ok p g i a yb c d la (eb ∙ lb) fa (omega (arith, eb, fb)) in
        let ok_behind : All IsNode behind = crossing_ok p g i a b c yd la (lb ∙ sym ed) fa fb in
        let sides : List ℕ → List ℕ → ℕ → List ℕ = λ x y n. cond (n == 0) a (cond (n == 1) x (cond (n == 2) c y)) in
        in_front w1 yb before (letter_at (weight p t) (other_weight p t) b k left right) some_1 (at_1 yb) ok_before (letter_node b k left right)
        ∙ slides_through p.modulus p.root (inverse_root p) (loop_value p) free (skein_numbers p).skein false t b c d a k left right inside lb fb fc before behind rest
        (told_from p (loop_value p) g i (sides yb d) la (eb ∙ lb) ok_before 1 (omega arith)) (told_from p (loop_value p) g i (sides b yd) la (lb ∙ sym ed) ok_behind 1 (omega arith)) ok_before ok_behind rest_ok
        (changed_crossing b k left right before new inside
        (λ z. (let q = crossing-times p g i z a yb c d la (eb ∙ lb) in let r = crossing-times p g i z a b c d la lb in let s = inner_same z (length a) (length yb) (length a) (length b) refl eb in omega (arith, q, r, s))))
        (changed_crossing d j left right behind new (omega (arith, inside, lb))
        (λ z. (let q = crossing-times p g i z a b c yd la (lb ∙ sym ed) in let r = crossing-times p g i z a b c d la lb in omega (arith, q, r))))
        ∙ sym (in_front w3 yd behind (letter_at (weight p t) (other_weight p t) d j left right) some_3 (at_3 yd) ok_behind (letter_node d j left right))
