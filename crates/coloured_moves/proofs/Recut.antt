-- A diagram that is cut at the second place of an edge: a new label stands there, and the items keep their cable, where the
-- strands of the new label at its first place are those of the old one at its second.
use Rattle.std.proofs.Common.{◌≡◌, ◌≢◌, ℕ, zero, suc, ◌+◌, ◌<◌, ◌≤◌, ◌==◌, ◌&&◌, ◌||◌, not, Bool, true, false, cond, List, [], ◌∷◌, ◌++◌, map, length, filter, refl, sym, ap, ap₂, ◌∙◌, arith, ⊎_elim, append-nil, subst}
use Rattle.std.specs.List.{AllByRecursion, range_with_len}
use Rattle.std.specs.Set.{is_member}
use Rattle.std.proofs.lemmas.Bool.{cases_Bool, eqb-true, cases_eq}
use Rattle.std.proofs.lemmas.Bool.Decides.{nat_tests}
use Rattle.state_sums.specs.Networks.{Node}
use Rattle.root_quantum.specs.Parameters.{Parameters}
use Rattle.pd_reader.specs.declared.item.Item.{Item}
use Rattle.pd_reader.specs.declared.item.NetItem.TheVariants.{X, Loop}
use Rattle.pd_reader.specs.Items.{HasItsSlots}
use Rattle.list_lemmas.proofs.Ranges.{range_push}
use Rattle.cables.specs.Strands.{Strands, names_at}
use Rattle.cables.specs.CableNodes.{crossing_cable, box_node}
use Rattle.cables.specs.Cables.{Standing, passed, past_all, loop_nodes, cable_nodes, loop_count, loops_at, as_net}
use Rattle.diagram_moves.specs.Rewriting.{at_places, crossing_labels}
use Rattle.diagram_moves.proofs.PlaceLemmas.{one_place}
use Rattle.pd_reader.specs.declared.item.Item.TheVariants as item

-- ---- filters over ranges past which nothing passes
filter-append : (p : ℕ → Bool) (xs ys : List ℕ) → filter p (xs ++ ys) ≡ filter p xs ++ filter p ys
filter-append p [] ys = refl
filter-append p (x ∷ xs) ys =
    let ih = filter-append p xs ys in
    elim (p x) as (λ b. cond b (x ∷ filter p (xs ++ ys)) (filter p (xs ++ ys)) ≡ cond b (x ∷ filter p xs) (filter p xs) ++ filter p ys) [ true ↦ ap (λ zs. x ∷ zs) ih | false ↦ ih ]

pub filter-past : (p : ℕ → Bool) (n k : ℕ) → ((x : ℕ) → n ≤ x → p x ≡ false) → filter p (range_with_len 0 (n + k)) ≡ filter p (range_with_len 0 n)
filter-past p n zero h = let z : n + 0 ≡ n = omega arith in ap (λ i. filter p (range_with_len 0 i)) z
filter-past p n (suc k) h =
    let z : n + suc k ≡ n + k + 1 = omega arith in
    ap (λ i. filter p (range_with_len 0 i)) z
    ∙ ap (filter p) (range_push (n + k))
    ∙ filter-append p (range_with_len 0 (n + k)) ((n + k) ∷ [])
    ∙ ap (λ b. filter p (range_with_len 0 (n + k)) ++ cond b ((n + k) ∷ []) []) (h (n + k) (omega arith))
    ∙ append-nil (filter p (range_with_len 0 (n + k)))
    ∙ filter-past p n k h

past_high : (xs : List ℕ) (x : ℕ) → past_all xs ≤ x → is_member ◌==◌ xs x ≡ false
past_high [] x h = refl
past_high (y ∷ ys) x h = plain x y (is_member ◌==◌ ys x) (omega (arith, h)) (past_high ys x (omega (arith, h)))
  where
    plain : (x y : ℕ) (t : Bool) → y < x → t ≡ false → ((x == y) || t) ≡ false
    plain x y t l e = grind (arith, nat_tests, l, e)

same_test : (f g : ℕ → Bool) → ((x : ℕ) → f x ≡ g x) → f ≡ g
same_test f g h = λ i x. h x i

-- ---- four labels and those before them
pub or_four : (a b c d s : Bool) → ((a || (b || (c || (d || false)))) || s) ≡ (d || (c || (b || (a || s))))
or_four a b c d true = or_true a b c d
  where
    or_true : (a b c d : Bool) → ((a || (b || (c || (d || false)))) || true) ≡ (d || (c || (b || (a || true))))
    or_true a b c d = grind arith
or_four a b c d false = or_false a b c d
  where
    or_false : (a b c d : Bool) → ((a || (b || (c || (d || false)))) || false) ≡ (d || (c || (b || (a || false))))
    or_false a b c d = grind arith

boxed_test : (a c b s t : Bool) → s ≡ t → (a || s) ≡ (c || t) → (a && (b && not s)) ≡ (c && (b && not t))
boxed_test a c b s t e h = grind (arith, e, h)

unboxed_test : (a c b s t : Bool) → b ≡ false → (a && (b && not s)) ≡ (c && (b && not t))
unboxed_test a c b s t e = grind (arith, e)

front_false : (a b : Bool) → a ≡ false → (a && b) ≡ false
front_false a b e = grind (arith, e)

module _ (strands : Strands) (e v there : ℕ) (first_is : strands.first v ≡ strands.second e) (no_box : strands.boxed v ≡ false) where
  -- the labels from place p on, where `seen` stood before: none is the new one, and at the place stands the old one again
  abbrev pub Fit : ℕ → List ℕ → List ℕ → Type 0
  Fit p seen [] = Unit {0}
  Fit p seen (l ∷ ls) = (l ≢ v) × (p ≡ there → (l ≡ e) × (is_member ◌==◌ seen e ≡ true)) × Fit (p + 1) (l ∷ seen) ls

  -- the labels before place p, without the cut and with it
  pub record Seen (p : ℕ) (seen cut : List ℕ) : Type 0 where
    pub alike : (x : ℕ) → x ≢ v → is_member ◌==◌ cut x ≡ is_member ◌==◌ seen x
    pub new : p ≤ there → is_member ◌==◌ cut v ≡ false

  abbrev g : ℕ → ℕ → ℕ
  g = one_place there v

  abbrev At : ℕ → List ℕ → ℕ → Type 0
  At p seen l = p ≡ there → (l ≡ e) × (is_member ◌==◌ seen e ≡ true)

  name_kept : (p : ℕ) (seen cut : List ℕ) (l : ℕ) → Seen p seen cut → l ≢ v → At p seen l → names_at strands cut (g p l) ≡ names_at strands seen l
  name_kept p seen cut l s other at =
      ⊎_elim
      (λ t.
      let is : p ≡ there = eqb-true p there t in
      let h = at is in
      ap (λ b. names_at strands cut (cond b v l)) t
      ∙ ap (λ b. cond b (strands.second v) (strands.first v)) (s.new (omega (arith, is)))
      ∙ first_is
      ∙ sym (ap (names_at strands seen) h.0 ∙ ap (λ b. cond b (strands.second e) (strands.first e)) h.1))
      (λ t. ap (λ b. names_at strands cut (cond b v l)) t ∙ ap (λ b. cond b (strands.second l) (strands.first l)) (s.alike l other))
      (cases_Bool (p == there))

  next_seen : (p : ℕ) (seen cut : List ℕ) (l : ℕ) → Seen p seen cut → l ≢ v → At p seen l → Seen (p + 1) (l ∷ seen) (g p l ∷ cut)
  next_seen p seen cut l s other at = record {
    alike = λ x d.
        ⊎_elim
        (λ t.
        let h = at (eqb-true p there t) in
        ap (λ b. (x == cond b v l) || is_member ◌==◌ cut x) t
        ∙ again x v l (is_member ◌==◌ cut x) (is_member ◌==◌ seen x) d (s.alike x d) (λ k. ap (is_member ◌==◌ seen) (k ∙ h.0) ∙ h.1))
        (λ t. ap (λ b. (x == cond b v l) || is_member ◌==◌ cut x) t ∙ ap (λ b. (x == l) || b) (s.alike x d))
        (cases_Bool (p == there));
    new = λ low.
        let out : (p == there) ≡ false = (let k : p + 1 ≤ there = low in grind (arith, nat_tests, k)) in
        ap (λ b. (v == cond b v l) || is_member ◌==◌ cut v) out ∙ still v l (is_member ◌==◌ cut v) other (s.new (omega (arith, low)));
  }
    where
      again : (x v l : ℕ) (s t : Bool) → x ≢ v → s ≡ t → (x ≡ l → t ≡ true) → ((x == v) || s) ≡ ((x == l) || t)
      again x v l s t d q h =
          ⊎_elim
          (λ k. let u = h k in grind (arith, nat_tests, d, q, u, k))
          (λ k. grind (arith, nat_tests, d, q, k))
          (cases_eq x l)

      still : (v l : ℕ) (s : Bool) → l ≢ v → s ≡ false → ((v == l) || s) ≡ false
      still v l s d q = grind (arith, nat_tests, d, q)

  -- ---- boxes
  abbrev test : List ℕ → List ℕ → ℕ → Bool
  test slots seen x = is_member ◌==◌ slots x && (strands.boxed x && not (is_member ◌==◌ seen x))

  same_boxed : (slots others seen cut : List ℕ) → ((x : ℕ) → x ≢ v → is_member ◌==◌ cut x ≡ is_member ◌==◌ seen x) →
      ((x : ℕ) → x ≢ v → (is_member ◌==◌ others x || is_member ◌==◌ cut x) ≡ (is_member ◌==◌ slots x || is_member ◌==◌ seen x)) →
      filter (test others cut) (range_with_len 0 (past_all others)) ≡ filter (test slots seen) (range_with_len 0 (past_all slots))
  same_boxed slots others seen cut before after =
      let each : (x : ℕ) → test others cut x ≡ test slots seen x =
      λ x. ⊎_elim
      (λ k. unboxed_test (is_member ◌==◌ others x) (is_member ◌==◌ slots x) (strands.boxed x) (is_member ◌==◌ cut x) (is_member ◌==◌ seen x) (ap strands.boxed k ∙ no_box))
      (λ k. boxed_test (is_member ◌==◌ others x) (is_member ◌==◌ slots x) (strands.boxed x) (is_member ◌==◌ cut x) (is_member ◌==◌ seen x) (before x k) (after x k))
      (cases_eq x v) in
      let m = past_all others in
      let n = past_all slots in
      let swap : m + n ≡ n + m = omega arith in
      sym (filter-past (test others cut) m n (λ x h. front_false (is_member ◌==◌ others x) (strands.boxed x && not (is_member ◌==◌ cut x)) (past_high others x h)))
      ∙ ap (λ f. filter f (range_with_len 0 (m + n))) (same_test (test others cut) (test slots seen) each)
      ∙ ap (λ k. filter (test slots seen) (range_with_len 0 k)) swap
      ∙ filter-past (test slots seen) n m (λ x h. front_false (is_member ◌==◌ slots x) (strands.boxed x && not (is_member ◌==◌ seen x)) (past_high slots x h))

  abbrev box_at : ℕ → ℕ → Node
  box_at group label = box_node group (strands.box (length (strands.first label))) (strands.first label) (strands.second label)

  module _ (p : Parameters) where
    -- THE CUT ITEMS HAVE THE CABLE
    pub recut : (items : List Item) (place : ℕ) (standing : Standing) (cut : List ℕ) → AllByRecursion HasItsSlots items → Seen place standing.seen cut → Fit place standing.seen (crossing_labels items) →
        cable_nodes p strands (record standing { seen = cut }) (as_net (at_places g place items)) ≡ cable_nodes p strands standing (as_net items)
    recut [] place standing cut sizes s fit = refl
    recut (item.Loop l ∷ rest) place standing cut sizes s fit =
        ap (λ ns. loop_nodes strands standing.loop_group (strands.first l) ++ ns) (recut rest place (passed standing (Loop l)) cut sizes.1 s fit)
    recut (item.X (a ∷ b ∷ c ∷ d ∷ []) ∷ rest) place standing cut sizes s fit =
        let seen = standing.seen in
        let a' = g place a in
        let b' = g (place + 1) b in
        let c' = g (place + 1 + 1) c in
        let d' = g (place + 1 + 1 + 1) d in
        let fb = fit.2 in
        let fc = fb.2 in
        let fd = fc.2 in
        let s1 = next_seen place seen cut a s fit.0 fit.1 in
        let s2 = next_seen (place + 1) (a ∷ seen) (a' ∷ cut) b s1 fb.0 fb.1 in
        let s3 = next_seen (place + 1 + 1) (b ∷ a ∷ seen) (b' ∷ a' ∷ cut) c s2 fc.0 fc.1 in
        let s4 = next_seen (place + 1 + 1 + 1) (c ∷ b ∷ a ∷ seen) (c' ∷ b' ∷ a' ∷ cut) d s3 fd.0 fd.1 in
        let na = name_kept place seen cut a s fit.0 fit.1 in
        let nb = name_kept (place + 1) (a ∷ seen) (a' ∷ cut) b s1 fb.0 fb.1 in
        let nc = name_kept (place + 1 + 1) (b ∷ a ∷ seen) (b' ∷ a' ∷ cut) c s2 fc.0 fc.1 in
        let nd = name_kept (place + 1 + 1 + 1) (c ∷ b ∷ a ∷ seen) (c' ∷ b' ∷ a' ∷ cut) d s3 fd.0 fd.1 in
        let four : place + 1 + 1 + 1 + 1 ≡ place + 4 = omega arith in
        let S : ℕ → Type 0 = λ q. Seen q (d ∷ c ∷ b ∷ a ∷ seen) (d' ∷ c' ∷ b' ∷ a' ∷ cut) in
        let F : ℕ → Type 0 = λ q. Fit q (d ∷ c ∷ b ∷ a ∷ seen) (crossing_labels rest) in
        let ih = recut rest (place + 4) (passed standing (X (a ∷ b ∷ c ∷ d ∷ []))) (d' ∷ c' ∷ b' ∷ a' ∷ cut) sizes.1 (subst S four s4) (subst F four fd.2) in
        let boxes =
        ap (map (box_at standing.group))
        (same_boxed (a ∷ b ∷ c ∷ d ∷ []) (a' ∷ b' ∷ c' ∷ d' ∷ []) seen cut s.alike
        (λ x k.
        or_four (x == a') (x == b') (x == c') (x == d') (is_member ◌==◌ cut x)
        ∙ s4.alike x k
        ∙ sym (or_four (x == a) (x == b) (x == c) (x == d) (is_member ◌==◌ seen x)))) in
        ap₂ (λ x y. x ++ y)
        (ap₂ (λ x y. x ++ y) boxes
        (ap₂ (λ x y. crossing_cable p standing.group standing.index x y (names_at strands (b' ∷ a' ∷ cut) c') (names_at strands (c' ∷ b' ∷ a' ∷ cut) d')) na nb
        ∙ ap₂ (λ x y. crossing_cable p standing.group standing.index (names_at strands seen a) (names_at strands (a ∷ seen) b) x y) nc nd))
        ih
    recut (item.X [] ∷ rest) place standing cut sizes s fit = absurd (omega (arith, sizes.0))
    recut (item.X (a ∷ []) ∷ rest) place standing cut sizes s fit = absurd (omega (arith, sizes.0))
    recut (item.X (a ∷ b ∷ []) ∷ rest) place standing cut sizes s fit = absurd (omega (arith, sizes.0))
    recut (item.X (a ∷ b ∷ c ∷ []) ∷ rest) place standing cut sizes s fit = absurd (omega (arith, sizes.0))
    recut (item.X (a ∷ b ∷ c ∷ d ∷ x ∷ slots) ∷ rest) place standing cut sizes s fit = absurd (omega (arith, sizes.0))

pub recut_loops : (strands : Strands) (f : ℕ → ℕ → ℕ) (place : ℕ) (items : List Item) → loop_count strands (as_net (at_places f place items)) ≡ loop_count strands (as_net items)
recut_loops strands f place [] = refl
recut_loops strands f place (item.X slots ∷ rest) = recut_loops strands f (place + length slots) rest
recut_loops strands f place (item.Loop l ∷ rest) = ap (λ n. loops_at (strands.first l) + n) (recut_loops strands f place rest)
