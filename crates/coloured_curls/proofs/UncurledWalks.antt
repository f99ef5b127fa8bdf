-- A diagram without the crossing of a curl: both ends that are left are on one component, and so is what was, where the loop goes to one of the ends.
-- For a component has an even number of places.
use Rattle.std.proofs.Common.{◌≡◌, ◌≢◌, ℕ, zero, suc, ◌+◌, ◌<◌, ◌≤◌, ◌==◌, Bool, true, false, cond, List, [], ◌∷◌, ◌++◌, length, slice_index, Some, refl, sym, ap, ◌∙◌, arith, ⊎_elim, subst, Contains}
use Rattle.std.specs.List.{AllByRecursion}
use Rattle.std.specs.Set.{is_member}
use Rattle.std.proofs.lemmas.Bool.{cases_Bool, cases_eq, eq-eqb, eqb-true}
use Rattle.std.proofs.lemmas.Bool.Decides.{nat_tests}
use Rattle.graph_parts.proofs.LeastLabels.{least_label-Joined}
use Rattle.graph_parts.specs.LeastNames.{least_label}
use Rattle.graph_parts.specs.Walks.{Joined, along, stay, back, on}
use Rattle.list_lemmas.specs.Times.{times_in}
use Rattle.list_lemmas.proofs.Times.{times_in-cons, times_of_member}
use Rattle.pd_reader.specs.declared.item.Item.{Item}
use Rattle.pd_reader.specs.declared.item.Item.TheVariants as item
use Rattle.pd_reader.specs.Items.{HasItsSlots}
use Rattle.planar_check.specs.Components.{item_strands, strand_edges}
use Rattle.cables.proofs.NameCounts.{at}
use Rattle.diagram_moves.specs.Laws.{IsPairedDiagram}
use Rattle.diagram_moves.specs.Moves.{is_curl}
use Rattle.diagram_moves.specs.Rewriting.{slot, crossing_at, crossing_labels}
use Rattle.diagram_moves.proofs.Corners.{one_times}
use Rattle.diagram_moves.proofs.Paired.{paired}
use Rattle.diagram_moves.proofs.KeptStrands.{kept_strands}
use Rattle.move_results.proofs.ClosedComponents.{kept_all, stays_within, strand_picked}
use Rattle.coloured_moves.proofs.DroppedCrossings.{dropped}
use Rattle.coloured_moves.proofs.PulledStubs.{crossing_labels-dropped}
use Rattle.coloured_moves.proofs.StubNames.{kept_stubs-kept}
use Rattle.coloured_moves.proofs.Tests.{one_if}
use Rattle.coloured_curls.proofs.CutStubs.{strand_ends, both_ends}
use Rattle.coloured_curls.proofs.CutWalks.{twice_even, strands_even, all_along, all_tested}

-- the strands of the crossings that stay
kept_dropped : (gone : List ℕ) (n : ℕ) (items : List Item) → kept_strands gone n items ≡ strand_edges (dropped gone n items)
kept_dropped gone n [] = refl
kept_dropped gone n (item.Loop l ∷ rest) = kept_dropped gone n rest
kept_dropped gone n (item.X ws ∷ rest) =
    let later = dropped gone (n + 1) rest in
    ap (λ es. cond (is_member ◌==◌ gone n) es (item_strands (item.X ws) ++ es)) (kept_dropped gone (n + 1) rest)
    ∙ elim (is_member ◌==◌ gone n) as (λ b. cond b (strand_edges later) (item_strands (item.X ws) ++ strand_edges later) ≡ strand_edges (cond b [] (item.X ws ∷ []) ++ later)) [ true ↦ refl | false ↦ refl ]

-- what holds of each item holds of those that stay
pub each_dropped : (P : Item → Type 0) (gone : List ℕ) (n : ℕ) (items : List Item) → AllByRecursion P items → AllByRecursion P (dropped gone n items)
each_dropped P gone n [] h = tt
each_dropped P gone n (item.Loop l ∷ rest) h = (h.0, each_dropped P gone n rest h.1)
each_dropped P gone n (item.X ws ∷ rest) h =
    let ih = each_dropped P gone (n + 1) rest h.1 in
    elim (is_member ◌==◌ gone n) as (λ b. AllByRecursion P (cond b [] (item.X ws ∷ []) ++ dropped gone (n + 1) rest)) [ true ↦ ih | false ↦ (h.0, ih) ]

-- the two strands of a crossing, told from one of its slots
corners : (Q : ℕ → ℕ → Type 0) → ((y z : ℕ) → Q y z → Q z y) → (ws : List ℕ) (s : ℕ) → s < 4 → Q (slot ws s) (slot ws (s + 2)) → Q (slot ws (s + 1)) (slot ws (s + 3)) →
    Q (slice_index ws 0) (slice_index ws 2) × Q (slice_index ws 1) (slice_index ws 3)
corners Q turn ws zero l p q = (p, q)
corners Q turn ws (suc zero) l p q = (turn (slice_index ws 2) (slice_index ws 0) q, p)
corners Q turn ws (suc (suc zero)) l p q = (turn (slice_index ws 2) (slice_index ws 0) p, turn (slice_index ws 3) (slice_index ws 1) q)
corners Q turn ws (suc (suc (suc zero))) l p q = (q, turn (slice_index ws 3) (slice_index ws 1) p)
corners Q turn ws (suc (suc (suc (suc s)))) l p q = absurd (omega (arith, l))

of_two : (Q : ℕ → ℕ → Type 0) (ws : List ℕ) → Q (slice_index ws 0) (slice_index ws 2) → Q (slice_index ws 1) (slice_index ws 3) → (y z : ℕ) → Contains (item_strands (item.X ws)) (y, z) → Q y z
of_two Q ws p q y z (zero, l, e) = subst (λ w. Q y w) (ap (λ (w : ℕ × ℕ). w.1) e) (subst (λ w. Q w (slice_index ws 2)) (ap (λ (w : ℕ × ℕ). w.0) e) p)
of_two Q ws p q y z (suc zero, l, e) = subst (λ w. Q y w) (ap (λ (w : ℕ × ℕ). w.1) e) (subst (λ w. Q w (slice_index ws 3)) (ap (λ (w : ℕ × ℕ). w.0) e) q)
of_two Q ws p q y z (suc (suc i), l, e) = absurd (omega (arith, l))

module _ (items : List Item) (pd : IsPairedDiagram items) (c : ℕ) (here : List ℕ) (found : crossing_at items c ≡ Some here) (s : ℕ) (low_s : s < 4) (test : is_curl here s ≡ true) where
  -- the loop, and the two ends
  abbrev x : ℕ
  x = slot here s

  abbrev a : ℕ
  a = slot here (s + 2)

  abbrev b : ℕ
  b = slot here (s + 3)

  abbrev pub R : List Item
  R = dropped (c ∷ []) 1 items

  abbrev es : List (ℕ × ℕ)
  es = strand_edges R

  abbrev ls : List ℕ
  ls = crossing_labels items

  abbrev rs : List ℕ
  rs = crossing_labels R

  pub sizes_R : AllByRecursion HasItsSlots R
  sizes_R = each_dropped HasItsSlots (c ∷ []) 1 items pd.sizes

  shared : slot here (s + 1) ≡ x
  shared = sym (eqb-true (slot here s) (slot here (s + 1)) test)

  -- ---- how often labels stand
  pub counted : (z : ℕ) → times_in (crossing_labels items) z ≡ at z x + at z x + at z a + at z b + times_in (crossing_labels R) z
  counted z =
      let k = one_times 0 0 items pd.sizes c here found s (omega (arith, low_s)) z in
      let r = ap (λ ns. times_in ns z) (crossing_labels-dropped (c ∷ []) 1 items ∙ kept_stubs-kept (c ∷ []) 1 items) in
      let i = times_in-cons (slot here s) (slot here (s + 1) ∷ slot here (s + 2) ∷ slot here (s + 3) ∷ []) z in
      let j = times_in-cons (slot here (s + 1)) (slot here (s + 2) ∷ slot here (s + 3) ∷ []) z in
      let m = times_in-cons (slot here (s + 2)) (slot here (s + 3) ∷ []) z in
      let n = times_in-cons (slot here (s + 3)) [] z in
      let e = ap (λ w. at z w) shared in
      omega (arith, k, r, i, j, m, n, e)

  own : (z : ℕ) → at z z ≡ 1
  own z = grind (arith, nat_tests)

  -- the loop stands nowhere else
  pub loop_gone : times_in (crossing_labels R) x ≡ 0
  loop_gone =
      let k = counted x in
      let o = own x in
      let two = paired items pd x (omega (arith, k, o)) in
      omega (arith, k, o, two)

  rest_twice : (z : ℕ) → 1 ≤ times_in (a ∷ b ∷ rs) z → times_in (a ∷ b ∷ rs) z ≡ 2
  rest_twice z one =
      let i = times_in-cons a (b ∷ rs) z in
      let j = times_in-cons b rs z in
      let k = counted z in
      let two = paired items pd z (omega (arith, i, j, k, one)) in
      ⊎_elim
      (λ (e : z ≡ x). absurd (let o : at z x ≡ 1 = grind (arith, nat_tests, e) in omega (arith, i, j, k, one, two, o)))
      (λ d. (let o : at z x ≡ 0 = grind (arith, nat_tests, d) in omega (arith, i, j, k, two, o)))
      (cases_eq z x)

  -- ---- both ends are on one component
  abbrev same : ℕ → Bool
  same z = least_label es z == least_label es a

  same_b : same b ≡ true
  same_b =
      let e = strands_even same R sizes_R (all_tested same es es (λ y z j. ap (λ k. k == least_label es a) ((least_label-Joined es y z).1 j)) (all_along es es (λ y z w. w))) in
      let f = twice_even same (length (a ∷ b ∷ rs)) (a ∷ b ∷ rs) (omega arith) rest_twice in
      let o : same a ≡ true = eq-eqb (least_label es a) (least_label es a) refl in
      let d = ap (λ t. one_if t) o in
      let e1 = e.1 in
      let f1 = f.1 in
      parity (same b) e.0 f.0 (omega (arith, e1, f1, d))
    where
      parity : (t : Bool) (j k : ℕ) → 1 + one_if t + (j + j) ≡ k + k → t ≡ true
      parity true j k h = refl
      parity false j k h = absurd (omega (arith, h))

  -- BOTH ENDS ARE ON ONE COMPONENT
  pub ends_joined : Joined (strand_edges R) a b
  ends_joined = back ((least_label-Joined es b a).0 (eqb-true (least_label es b) (least_label es a) same_b))

  -- ---- what was joined
  abbrev pub to : ℕ → ℕ
  to z = cond (z == x) a z

  pub to_x : to x ≡ a
  to_x = ap (λ t. cond t a x) (eq-eqb x x refl)

  pub to_other : (z : ℕ) → z ≢ x → to z ≡ z
  to_other z d = let t : (z == x) ≡ false = grind (arith, nat_tests, d) in ap (λ t. cond t a z) t

  pub to_a : to a ≡ a
  to_a = plain (a == x) a
    where
      plain : (t : Bool) (a : ℕ) → cond t a a ≡ a
      plain true a = refl
      plain false a = refl

  abbrev J : ℕ → ℕ → Type 0
  J y z = Joined es (to y) (to z)

  to_first : J x a
  to_first = subst (λ w. Joined es w (to a)) (sym to_x) (subst (λ w. Joined es a w) (sym to_a) stay)

  to_second : J x b
  to_second =
      let P : Bool → Type 0 = λ t. Joined es a (cond t a b) in
      subst (λ w. Joined es w (to b)) (sym to_x)
      (⊎_elim (λ t. subst P (sym t) stay) (λ t. subst P (sym t) ends_joined) (cases_Bool (b == x)))

  from_crossing : (y z : ℕ) → Contains (item_strands (item.X here)) (y, z) → J y z
  from_crossing y z w =
      let second : J (slot here (s + 1)) b = subst (λ k. J k b) (sym shared) to_second in
      let two = corners J (λ y z j. back j) here s low_s to_first second in
      of_two J here two.0 two.1 y z w

  away : (y : ℕ) → is_member ◌==◌ rs y ≡ true → y ≢ x
  away y m e = let one = times_of_member y rs m in let k = ap (times_in rs) e in let g = loop_gone in omega (arith, one, k, g)

  from_rest : (y z : ℕ) → Contains es (y, z) → J y z
  from_rest y z w =
      let ends = both_ends (is_member ◌==◌ rs) es (strand_ends R sizes_R) y z w in
      subst (λ k. Joined es k (to z)) (sym (to_other y (away y ends.0))) (subst (λ k. Joined es y k) (sym (to_other z (away z ends.1))) (along w))

  each : (y z : ℕ) → Contains (strand_edges items) (y, z) → J y z
  each y z w =
      let P : List (ℕ × ℕ) → Type 0 = λ fs. Contains fs (y, z) in
      ⊎_elim (from_crossing y z) (λ k. from_rest y z (subst P (kept_dropped (c ∷ []) 1 items) k)) (strand_picked [] 1 items c here found (y, z) (subst P (sym (kept_all 1 items)) w))

  -- WHAT WAS JOINED IS JOINED
  pub still_joined : {y z : ℕ} → Joined (strand_edges items) y z → Joined (strand_edges R) (to y) (to z)
  still_joined (along {x = y} {y = z} w) = each y z w
  still_joined stay = stay
  still_joined (back j) = back (still_joined j)
  still_joined (on i j) = on (still_joined i) (still_joined j)

  -- and nothing else
  pub joined_before : {y z : ℕ} → Joined (strand_edges R) y z → Joined (strand_edges items) y z
  joined_before (along {x = y} {y = z} w) =
      let P : List (ℕ × ℕ) → Type 0 = λ fs. Contains fs (y, z) in
      along (stays_within (c ∷ []) 1 items (y, z) (subst P (sym (kept_dropped (c ∷ []) 1 items)) w))
  joined_before stay = stay
  joined_before (back j) = back (joined_before j)
  joined_before (on i j) = on (joined_before i) (joined_before j)
