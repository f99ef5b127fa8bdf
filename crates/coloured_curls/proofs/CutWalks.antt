-- An edge is cut at its second place, which gets a new label: then both ends are still on one component, and so is what was. For a component has an
-- even number of places, and of the labels that stand once it has both or none.
use Rattle.std.proofs.Common.{◌≡◌, ◌≢◌, ℕ, zero, suc, ◌+◌, ◌<◌, ◌≤◌, ◌==◌, Bool, true, false, cond, List, [], ◌∷◌, ◌++◌, length, slice_index, refl, sym, ap, ◌∙◌, arith, ⊎_elim, subst, Contains}
use Rattle.std.specs.List.{AllByRecursion}
use Rattle.std.specs.Set.{is_member}
use Rattle.std.proofs.lemmas.Bool.{cases_Bool, cases_eq, eq-eqb, eqb-true}
use Rattle.std.proofs.lemmas.Bool.Decides.{nat_tests}
use Rattle.graph_parts.proofs.Ends.{is_member-get_or}
use Rattle.graph_parts.proofs.LeastLabels.{least_label-Joined}
use Rattle.graph_parts.specs.LeastNames.{least_label}
use Rattle.graph_parts.specs.Walks.{Joined, along, stay, back, on}
use Rattle.list_lemmas.specs.Times.{times_in}
use Rattle.list_lemmas.proofs.Times.{times_in-cons}
use Rattle.pd_reader.specs.declared.item.Item.{Item}
use Rattle.pd_reader.specs.declared.item.Item.TheVariants as item
use Rattle.pd_reader.specs.Items.{HasItsSlots}
use Rattle.planar_check.specs.Components.{strand_edges}
use Rattle.cables.proofs.NameCounts.{at}
use Rattle.diagram_moves.specs.Laws.{IsPairedDiagram}
use Rattle.diagram_moves.specs.Moves.{second_place}
use Rattle.diagram_moves.specs.Rewriting.{crossing_labels, at_places, map_from, fresh}
use Rattle.diagram_moves.proofs.Paired.{paired}
use Rattle.diagram_moves.proofs.PlaceLemmas.{EachFrom, each_from, crossing_labels-at_places, fresh_above, one_place, second_place_of, sizes-at_places}
use Rattle.diagram_moves.proofs.Pushing.{crossing_label}
use Rattle.coloured_moves.proofs.Tests.{one_if}
use Rattle.move_results.proofs.CutComponents.{each_walk}
use Rattle.move_results.proofs.LeastLabelLists.{joined_through}

-- ---- how many entries pass a test
abbrev pub ones : (ℕ → Bool) → List ℕ → ℕ
ones test [] = 0
ones test (x ∷ xs) = one_if (test x) + ones test xs

abbrev pub IsEven : ℕ → Type 0
IsEven n = (k : ℕ) × (n ≡ k + k)

ones-append : (test : ℕ → Bool) (xs ys : List ℕ) → ones test (xs ++ ys) ≡ ones test xs + ones test ys
ones-append test [] ys = omega arith
ones-append test (x ∷ xs) ys = let ih = ones-append test xs ys in omega (arith, ih)

-- the list without a number
abbrev without : ℕ → List ℕ → List ℕ
without x [] = []
without x (y ∷ ys) = cond (y == x) (without x ys) (y ∷ without x ys)

without_shorter : (x : ℕ) (ys : List ℕ) → length (without x ys) ≤ length ys
without_shorter x [] = omega arith
without_shorter x (y ∷ ys) = let ih = without_shorter x ys in elim (y == x) as (λ b. length (cond b (without x ys) (y ∷ without x ys)) ≤ suc (length ys)) [ true ↦ omega (arith, ih) | false ↦ omega (arith, ih) ]

without_times : (x z : ℕ) (ys : List ℕ) → times_in (without x ys) z ≡ cond (z == x) 0 (times_in ys z)
without_times x z [] = elim (z == x) as (λ b. ◌≡◌ {A = ℕ} 0 (cond b 0 0)) [ true ↦ refl | false ↦ refl ]
without_times x z (y ∷ ys) =
    let ih = without_times x z ys in
    let a = times_in-cons y ys z in
    let b = times_in-cons y (without x ys) z in
    ⊎_elim
    (λ (t : (y == x) ≡ true). ap (λ c. times_in (cond c (without x ys) (y ∷ without x ys)) z) t ∙ ih ∙ dropped x y z (times_in ys z) (times_in (y ∷ ys) z) t a)
    (λ t. ap (λ c. times_in (cond c (without x ys) (y ∷ without x ys)) z) t ∙ b ∙ ap (λ k. at z y + k) ih ∙ kept x y z (times_in ys z) (times_in (y ∷ ys) z) t a)
    (cases_Bool (y == x))
  where
    dropped : (x y z k n : ℕ) → (y == x) ≡ true → n ≡ at z y + k → cond (z == x) 0 k ≡ cond (z == x) 0 n
    dropped x y z k n t e = grind (arith, nat_tests, t, e)

    kept : (x y z k n : ℕ) → (y == x) ≡ false → n ≡ at z y + k → at z y + cond (z == x) 0 k ≡ cond (z == x) 0 n
    kept x y z k n t e = grind (arith, nat_tests, t, e)

without_ones : (test : ℕ → Bool) (x : ℕ) (ys : List ℕ) → ones test ys ≡ ones test (without x ys) + cond (test x) (times_in ys x) 0
without_ones test x [] = elim (test x) as (λ b. ◌≡◌ {A = ℕ} 0 (0 + cond b 0 0)) [ true ↦ omega arith | false ↦ omega arith ]
without_ones test x (y ∷ ys) =
    let ih = without_ones test x ys in
    let a = times_in-cons y ys x in
    ⊎_elim
    (λ (t : (y == x) ≡ true).
    let e = eqb-true y x t in
    let s = ap (λ c. ones test (cond c (without x ys) (y ∷ without x ys))) t in
    let o : at x y ≡ 1 = grind (arith, nat_tests, t) in
    let v = ap (λ i. one_if (test i)) e in
    let w : cond (test x) (times_in (y ∷ ys) x) 0 ≡ one_if (test x) + cond (test x) (times_in ys x) 0 = one_more (test x) (times_in ys x) (times_in (y ∷ ys) x) (omega (arith, a, o)) in
    omega (arith, ih, s, v, w))
    (λ t.
    let s = ap (λ c. ones test (cond c (without x ys) (y ∷ without x ys))) t in
    let o : at x y ≡ 0 = grind (arith, nat_tests, t) in
    let w : times_in (y ∷ ys) x ≡ times_in ys x = omega (arith, a, o) in
    let v = ap (λ i. cond (test x) i 0) w in
    omega (arith, ih, s, v))
    (cases_Bool (y == x))
  where
    one_more : (b : Bool) (k n : ℕ) → n ≡ suc k → cond b n 0 ≡ one_if b + cond b k 0
    one_more true k n e = omega (arith, e)
    one_more false k n e = omega arith

-- where each entry stands twice
pub twice_even : (test : ℕ → Bool) (n : ℕ) (xs : List ℕ) → length xs ≤ n → ((z : ℕ) → 1 ≤ times_in xs z → times_in xs z ≡ 2) → IsEven (ones test xs)
twice_even test n [] l h = (0, omega arith)
twice_even test zero (x ∷ xs) l h = absurd (omega (arith, l))
twice_even test (suc n) (x ∷ xs) l h =
    let a = times_in-cons x xs x in
    let o : at x x ≡ 1 = grind (arith, nat_tests) in
    let two = h x (omega (arith, a, o)) in
    let once : times_in xs x ≡ 1 = omega (arith, a, o, two) in
    let s = without_shorter x xs in
    let r = twice_even test n (without x xs) (omega (arith, l, s))
    (λ z one. (
    let t = without_times x z xs in
    let b = times_in-cons x xs z in
    ⊎_elim
    (λ (e : z ≡ x). absurd (let c : cond (z == x) 0 (times_in xs z) ≡ 0 = grind (arith, nat_tests, e) in omega (arith, t, c, one)))
    (λ d. (let c : cond (z == x) 0 (times_in xs z) ≡ times_in xs z = grind (arith, nat_tests, d) in let q : at z x ≡ 0 = grind (arith, nat_tests, d) in let w = h z (omega (arith, t, c, b, q, one)) in omega (arith, t, c, b, q, w)))
    (cases_eq z x))) in
    let k = r.0 in
    let e = r.1 in
    let u = without_ones test x xs in
    let v = ap (λ i. cond (test x) i 0) once in
    (k + one_if (test x), omega (arith, u, v, e))

-- where the ends of each strand pass together
pub strands_even : (test : ℕ → Bool) (items : List Item) → AllByRecursion HasItsSlots items → AllByRecursion (λ (e : ℕ × ℕ). test e.0 ≡ test e.1) (strand_edges items) → IsEven (ones test (crossing_labels items))
strands_even test [] sizes h = (0, omega arith)
strands_even test (item.Loop l ∷ rest) sizes h = strands_even test rest sizes.1 h
strands_even test (item.X (a ∷ b ∷ c ∷ d ∷ []) ∷ rest) sizes h =
    let r = strands_even test rest sizes.1 h.1.1 in
    let k = r.0 in
    let e = r.1 in
    let x = ap (λ t. one_if t) h.0 in
    let y = ap (λ t. one_if t) h.1.0 in
    let s = ones-append test (a ∷ b ∷ c ∷ d ∷ []) (crossing_labels rest) in
    (k + one_if (test a) + one_if (test b), omega (arith, e, x, y, s))
strands_even test (item.X [] ∷ rest) sizes h = absurd (omega (arith, sizes.0))
strands_even test (item.X (a ∷ []) ∷ rest) sizes h = absurd (omega (arith, sizes.0))
strands_even test (item.X (a ∷ b ∷ []) ∷ rest) sizes h = absurd (omega (arith, sizes.0))
strands_even test (item.X (a ∷ b ∷ c ∷ []) ∷ rest) sizes h = absurd (omega (arith, sizes.0))
strands_even test (item.X (a ∷ b ∷ c ∷ d ∷ e ∷ slots) ∷ rest) sizes h = absurd (omega (arith, sizes.0))

-- one entry is another one
ones_untouched : (test : ℕ → Bool) (there new p : ℕ) (xs : List ℕ) → there < p → ones test (map_from (one_place there new) p xs) ≡ ones test xs
ones_untouched test there new p [] l = refl
ones_untouched test there new p (x ∷ xs) l =
    let ih = ones_untouched test there new (p + 1) xs (omega (arith, l)) in
    let here : one_place there new p x ≡ x = grind (arith, nat_tests, l) in
    let t = ap (λ i. one_if (test i)) here in
    omega (arith, ih, t)

ones_placed : (test : ℕ → Bool) (there new p i : ℕ) (xs : List ℕ) → there ≡ p + i → i < length xs →
    ones test (map_from (one_place there new) p xs) + one_if (test (slice_index xs i)) ≡ ones test xs + one_if (test new)
ones_placed test there new p i [] h l = absurd (omega (arith, l))
ones_placed test there new p zero (x ∷ xs) h l =
    let rest = ones_untouched test there new (p + 1) xs (omega (arith, h)) in
    let here : one_place there new p x ≡ new = grind (arith, nat_tests, h) in
    let t = ap (λ i. one_if (test i)) here in
    omega (arith, rest, t)
ones_placed test there new p (suc i) (x ∷ xs) h l =
    let ih = ones_placed test there new (p + 1) i xs (omega (arith, h)) (omega (arith, l)) in
    let here : one_place there new p x ≡ x = grind (arith, nat_tests, h) in
    let t = ap (λ i. one_if (test i)) here in
    omega (arith, ih, t)

-- ---- walks
pub all_along : (es fs : List (ℕ × ℕ)) → ((x y : ℕ) → Contains es (x, y) → Contains fs (x, y)) → AllByRecursion (λ (e : ℕ × ℕ). Joined fs e.0 e.1) es
all_along [] fs h = tt
all_along (e ∷ es) fs h = (along (h e.0 e.1 (0, omega arith, refl)), all_along es fs (λ x y c. h x y (suc c.0, omega (arith, c.1), c.2)))

pub all_tested : (test : ℕ → Bool) (fs es : List (ℕ × ℕ)) → ((x y : ℕ) → Joined fs x y → test x ≡ test y) → AllByRecursion (λ (e : ℕ × ℕ). Joined fs e.0 e.1) es → AllByRecursion (λ (e : ℕ × ℕ). test e.0 ≡ test e.1) es
all_tested test fs [] h a = tt
all_tested test fs (e ∷ es) h a = (h e.0 e.1 a.0, all_tested test fs es h a.1)

walks_cut : (fs : List (ℕ × ℕ)) (to : ℕ → ℕ) (g : ℕ → ℕ → ℕ) → ((z : ℕ) → Joined fs z (to z)) → (p : ℕ) (items : List Item) → AllByRecursion HasItsSlots items → EachFrom (λ q l. to (g q l) ≡ l) p (crossing_labels items) →
    AllByRecursion (λ (e : ℕ × ℕ). Joined fs e.0 e.1) (strand_edges (at_places g p items)) → AllByRecursion (λ (e : ℕ × ℕ). Joined fs e.0 e.1) (strand_edges items)
walks_cut fs to g near p [] sizes each h = tt
walks_cut fs to g near p (item.Loop l ∷ rest) sizes each h = walks_cut fs to g near p rest sizes.1 each h
walks_cut fs to g near p (item.X (a ∷ b ∷ c ∷ d ∷ []) ∷ rest) sizes each h =
    let J : ℕ → ℕ → Type 0 = λ x y. Joined fs x y in
    let moved : (q l : ℕ) → to (g q l) ≡ l → Joined fs (g q l) l = λ q l e. subst (J (g q l)) e (near (g q l)) in
    let P : ℕ → Type 0 = λ q. EachFrom (λ q l. to (g q l) ≡ l) q (crossing_labels rest) in
    let Q : ℕ → Type 0 = λ q. AllByRecursion (λ (e : ℕ × ℕ). Joined fs e.0 e.1) (strand_edges (at_places g q rest)) in (
      on (back (moved p a each.0)) (on h.0 (moved (p + 1 + 1) c each.1.1.0)),
      (
        on (back (moved (p + 1) b each.1.0)) (on h.1.0 (moved (p + 1 + 1 + 1) d each.1.1.1.0)),
        walks_cut fs to g near (p + 4) rest sizes.1 (subst P (let e : p + 1 + 1 + 1 + 1 ≡ p + 4 = omega arith in e) each.1.1.1.1) h.1.1,
      ),
    )
walks_cut fs to g near p (item.X [] ∷ rest) sizes each h = absurd (omega (arith, sizes.0))
walks_cut fs to g near p (item.X (a ∷ []) ∷ rest) sizes each h = absurd (omega (arith, sizes.0))
walks_cut fs to g near p (item.X (a ∷ b ∷ []) ∷ rest) sizes each h = absurd (omega (arith, sizes.0))
walks_cut fs to g near p (item.X (a ∷ b ∷ c ∷ []) ∷ rest) sizes each h = absurd (omega (arith, sizes.0))
walks_cut fs to g near p (item.X (a ∷ b ∷ c ∷ d ∷ e ∷ slots) ∷ rest) sizes each h = absurd (omega (arith, sizes.0))

-- ---- the cut diagram
module _ (items : List Item) (pd : IsPairedDiagram items) (e : ℕ) (has_e : is_member ◌==◌ (crossing_labels items) e ≡ true) where
  abbrev v : ℕ
  v = fresh items + 1

  abbrev ls : List ℕ
  ls = crossing_labels items

  abbrev R : List Item
  R = at_places (one_place (second_place items e) v) 0 items

  abbrev es : List (ℕ × ℕ)
  es = strand_edges R

  sizes_R : AllByRecursion HasItsSlots R
  sizes_R = sizes-at_places (one_place (second_place items e) v) 0 items pd.sizes

  abbrev test : ℕ → Bool
  test z = least_label es z == least_label es e

  tests_agree : (x y : ℕ) → Joined es x y → test x ≡ test y
  tests_agree x y j = ap (λ k. k == least_label es e) ((least_label-Joined es x y).1 j)

  ends_together : IsEven (ones test (crossing_labels R))
  ends_together = strands_even test R sizes_R (all_tested test es es tests_agree (all_along es es (λ x y c. c)))

  from_before : IsEven (ones test ls)
  from_before = twice_even test (length ls) ls (omega arith) (λ z one. paired items pd z one)

  test_v : test v ≡ true
  test_v =
      let se = second_place_of items e has_e in
      let a = ones_placed test (second_place items e) v 0 (second_place items e) ls (omega arith) se.0 in
      let b = ap (ones test) (crossing_labels-at_places (one_place (second_place items e) v) 0 items) in
      let c = ap (λ i. one_if (test i)) se.1 in
      let own : test e ≡ true = eq-eqb (least_label es e) (least_label es e) refl in
      let d = ap (λ t. one_if t) own in
      let x = ends_together in
      let y = from_before in
      let x1 = x.1 in
      let y1 = y.1 in
      parity (test v) (x.0) (y.0) (omega (arith, a, b, c, d, x1, y1))
    where
      parity : (t : Bool) (j k : ℕ) → j + j + 1 ≡ k + k + one_if t → t ≡ true
      parity true j k h = refl
      parity false j k h = absurd (omega (arith, h))

  -- BOTH ENDS ARE ON ONE COMPONENT
  pub ends_joined : Joined es v e
  ends_joined = (least_label-Joined es v e).0 (eqb-true (least_label es v) (least_label es e) test_v)

  abbrev to : ℕ → ℕ
  to z = cond (z == v) e z

  near : (z : ℕ) → Joined es z (to z)
  near z =
      let P : ℕ → ℕ → Type 0 = λ x y. Joined es x y in
      ⊎_elim
      (λ (s : z ≡ v). let t : to z ≡ e = grind (arith, nat_tests, s) in subst (λ y. P z y) (sym t) (subst (λ x. P x e) (sym s) ends_joined))
      (λ s. let t : to z ≡ z = grind (arith, nat_tests, s) in subst (λ y. P z y) (sym t) stay)
      (cases_eq z v)

  each_back : EachFrom (λ q l. to (one_place (second_place items e) v q l) ≡ l) 0 ls
  each_back =
      each_from (λ q l. to (one_place (second_place items e) v q l) ≡ l) 0 ls
      (λ q short.
      let x = slice_index ls q in
      let small = fresh_above items x (crossing_label items x (is_member-get_or ls q short)) in
      let se = second_place_of items e has_e in
      ⊎_elim
      (λ (s : q ≡ second_place items e). at_new q (second_place items e) e v x s (se.1) (ap (slice_index ls) s))
      (λ s. at_old q (second_place items e) e v x s (omega (arith, small)))
      (cases_eq q (second_place items e)))
    where
      at_new : (q s e v x : ℕ) → q ≡ s → slice_index ls s ≡ e → x ≡ slice_index ls s → cond (cond (0 + q == s) v x == v) e (cond (0 + q == s) v x) ≡ x
      at_new q s e v x a b c = grind (arith, nat_tests, a, b, c)

      at_old : (q s e v x : ℕ) → q ≢ s → x ≢ v → cond (cond (0 + q == s) v x == v) e (cond (0 + q == s) v x) ≡ x
      at_old q s e v x a b = grind (arith, nat_tests, a, b)

  -- WHAT WAS JOINED IS JOINED
  pub still_joined : {x y : ℕ} → Joined (strand_edges items) x y → Joined es x y
  still_joined j =
      joined_through (strand_edges items) es (each_walk (strand_edges items) es (walks_cut es to (one_place (second_place items e) v) near 0 items pd.sizes each_back (all_along es es (λ x y c. c)))) j
