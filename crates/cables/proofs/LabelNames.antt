-- Outside of grids a name stands twice or nowhere: at the two places of its label, at a place and in the box, or twice at a
-- loop's box.
use Rattle.std.proofs.Common.{◌≡◌, ℕ, zero, suc, ◌+◌, ◌*◌, ◌≤◌, ◌==◌, ◌&&◌, ◌||◌, not, true, false, cond, List, [], ◌∷◌, ◌++◌, reverse, refl, sym, ap, ◌∙◌, arith, ⊎_elim, ◌⊎◌, inl, inr, subst}
use Rattle.std.specs.List.{AllByRecursion}
use Rattle.std.specs.Set.{is_member}
use Rattle.std.proofs.lemmas.Bool.{cases_Bool, eqb-true, eq-eqb, or_left, or_right}
use Rattle.std.proofs.lemmas.Bool.Decides.{nat_tests}
use Rattle.graph_parts.proofs.Distinct.{is_member-append}
use Rattle.state_sums.specs.Networks.{names_of}
use Rattle.list_lemmas.specs.Times.{times_in}
use Rattle.pd_reader.specs.declared.item.NetItem.{NetItem}
use Rattle.pd_reader.specs.declared.item.NetItem.TheVariants.{X, Y, Loop}
use Rattle.pd_reader.specs.Items.{net_item_labels}
use Rattle.pd_reader.specs.Diagrams.{labels}
use Rattle.cables.specs.Strands.{Strands}
use Rattle.cables.specs.Cables.{loop_nodes, places}
use Rattle.cables.proofs.NameCounts.{at, times-reverse}
use Rattle.list_lemmas.proofs.Times.{member_of_times, times_of_member, times_in-cons, times_in-append}
use Rattle.cables.proofs.PlaceNames.{first_times, second_times, place_sum, OnlyLabel, new_sum, none_sum}
use Rattle.cables.proofs.CableNames.{loop_total, box_total}

pub member_none : (l : ℕ) (xs : List ℕ) → times_in xs l ≡ 0 → is_member ◌==◌ xs l ≡ false
member_none l [] h = refl
member_none l (y ∷ xs) h = let e = times_in-cons y xs l in let ih = member_none l xs (omega (arith, e, h)) in grind (arith, nat_tests, ih, e, h)

-- what holds of each label, at one that stands there
pub at_label : (P : ℕ → Type 0) (l : ℕ) (ls : List ℕ) → AllByRecursion P ls → 1 ≤ times_in ls l → P l
at_label P l [] a h = absurd (omega (arith, h))
at_label P l (y ∷ ls) a h =
    ⊎_elim
    (λ t. subst P (sym (eqb-true l y t)) a.0)
    (λ t. at_label P l ls a.1 (let e = times_in-cons y ls l in let n : at l y ≡ 0 = grind (arith, t) in omega (arith, h, e, n)))
    (cases_Bool (l == y))

pub zero_or_some : (n : ℕ) → (n ≡ 0) ⊎ ((k : ℕ) × (n ≡ suc k))
zero_or_some zero = inl refl
zero_or_some (suc n) = inr (n, refl)

-- how many loops have the label
abbrev loops_of : ℕ → List NetItem → ℕ
loops_of l [] = 0
loops_of l (X slots ∷ items) = loops_of l items
loops_of l (Y edges ∷ items) = loops_of l items
loops_of l (Loop label ∷ items) = at l label + loops_of l items

labels-times : (l : ℕ) (items : List NetItem) → times_in (labels net_item_labels items) l ≡ times_in (places items) l + 2 * loops_of l items
labels-times l [] = refl
labels-times l (X slots ∷ items) = let ih = labels-times l items in let e = times_in-append slots (labels net_item_labels items) l in let f = times_in-append slots (places items) l in omega (arith, ih, e, f)
labels-times l (Y edges ∷ items) = let ih = labels-times l items in let e = times_in-append edges (labels net_item_labels items) l in let f = times_in-append edges (places items) l in omega (arith, ih, e, f)
labels-times l (Loop label ∷ items) =
    let ih = labels-times l items in
    let e = times_in-cons label (label ∷ labels net_item_labels items) l in
    let f = times_in-cons label (labels net_item_labels items) l in
    omega (arith, ih, e, f)

module _ (strands : Strands) (x l : ℕ) (only : OnlyLabel strands x l) where
  F : ℕ
  F = first_times strands x l

  -- ---- the boxes of the label
  both : (slots seen : List ℕ) → is_member ◌==◌ (reverse slots ++ seen) l ≡ (is_member ◌==◌ slots l || is_member ◌==◌ seen l)
  both slots seen =
      is_member-append (reverse slots) seen l
      ∙ ap (λ b. b || is_member ◌==◌ seen l)
      (⊎_elim
      (λ t. member_of_times l (reverse slots) (let e = times-reverse l slots in let s = times_of_member l slots t in omega (arith, e, s)) ∙ sym t)
      (λ t. member_none l (reverse slots) (let e = times-reverse l slots in e ∙ absent slots t) ∙ sym t)
      (cases_Bool (is_member ◌==◌ slots l)))
    where
      absent : (slots : List ℕ) → is_member ◌==◌ slots l ≡ false → times_in slots l ≡ 0
      absent slots t = ⊎_elim (λ e. e) (λ r. absurd (let m = member_of_times l slots (let s = r.1 in omega (arith, s)) in grind (arith, m, t))) (zero_or_some (times_in slots l))

  abbrev two : ℕ
  two = first_times strands x l + second_times strands x l

  seen_step : (slots seen : List ℕ) (n : ℕ) → is_member ◌==◌ seen l ≡ true → n ≡ 0 → cond (is_member ◌==◌ slots l && (strands.boxed l && not (is_member ◌==◌ seen l))) two 0 + n ≡ 0
  seen_step slots seen n h e = rw h (elim (is_member ◌==◌ slots l) as (λ b. cond (b && (strands.boxed l && false)) two 0 + n ≡ 0) [
    | true ↦ elim (strands.boxed l) as (λ b. cond (b && false) two 0 + n ≡ 0) [ true ↦ omega (arith, e) | false ↦ omega (arith, e) ]
    | false ↦ omega (arith, e)
  ])

  seen_boxes : (items : List NetItem) (seen : List ℕ) → is_member ◌==◌ seen l ≡ true → box_total strands x l seen items ≡ 0
  seen_boxes [] seen h = refl
  seen_boxes (X slots ∷ items) seen h = seen_step slots seen _ h (seen_boxes items (reverse slots ++ seen) (both slots seen ∙ or_right (is_member ◌==◌ slots l) (is_member ◌==◌ seen l) h))
  seen_boxes (Y slots ∷ items) seen h = seen_step slots seen _ h (seen_boxes items (reverse slots ++ seen) (both slots seen ∙ or_right (is_member ◌==◌ slots l) (is_member ◌==◌ seen l) h))
  seen_boxes (Loop label ∷ items) seen h = seen_boxes items seen h

  here : (slots seen : List ℕ) (n : ℕ) → is_member ◌==◌ slots l ≡ true → is_member ◌==◌ seen l ≡ false → n ≡ 0 →
      cond (is_member ◌==◌ slots l && (strands.boxed l && not (is_member ◌==◌ seen l))) two 0 + n ≡ cond (strands.boxed l) two 0
  here slots seen n t h e = rw (t, h) (elim (strands.boxed l) as (λ b. cond (b && true) two 0 + n ≡ cond b two 0) [ true ↦ omega (arith, e) | false ↦ omega (arith, e) ])

  later : (slots seen : List ℕ) (n m : ℕ) → is_member ◌==◌ slots l ≡ false → n ≡ m →
      cond (is_member ◌==◌ slots l && (strands.boxed l && not (is_member ◌==◌ seen l))) two 0 + n ≡ m
  later slots seen n m t e = rw t (omega (arith, e))

  new_boxes : (items : List NetItem) (seen : List ℕ) → is_member ◌==◌ seen l ≡ false → 1 ≤ times_in (places items) l → box_total strands x l seen items ≡ cond (strands.boxed l) two 0
  new_boxes [] seen h k = absurd (omega (arith, k))
  new_boxes (X slots ∷ items) seen h k =
      ⊎_elim
      (λ t. here slots seen _ t h (seen_boxes items (reverse slots ++ seen) (both slots seen ∙ or_left (is_member ◌==◌ slots l) (is_member ◌==◌ seen l) t)))
      (λ t. later slots seen _ (cond (strands.boxed l) two 0) t
      (new_boxes items (reverse slots ++ seen) (both slots seen ∙ grind (arith, t, h))
      (let e = times_in-append slots (places items) l in let u = member_of_times l slots in grind (arith, e, u, k, t))))
      (cases_Bool (is_member ◌==◌ slots l))
  new_boxes (Y slots ∷ items) seen h k =
      ⊎_elim
      (λ t. here slots seen _ t h (seen_boxes items (reverse slots ++ seen) (both slots seen ∙ or_left (is_member ◌==◌ slots l) (is_member ◌==◌ seen l) t)))
      (λ t. later slots seen _ (cond (strands.boxed l) two 0) t
      (new_boxes items (reverse slots ++ seen) (both slots seen ∙ grind (arith, t, h))
      (let e = times_in-append slots (places items) l in let u = member_of_times l slots in grind (arith, e, u, k, t))))
      (cases_Bool (is_member ◌==◌ slots l))
  new_boxes (Loop label ∷ items) seen h k = new_boxes items seen h k

  pub no_boxes : (items : List NetItem) (seen : List ℕ) → is_member ◌==◌ seen l ≡ false → times_in (places items) l ≡ 0 → box_total strands x l seen items ≡ 0
  no_boxes [] seen h k = refl
  no_boxes (X slots ∷ items) seen h k =
      let e = times_in-append slots (places items) l in
      let t = member_none l slots (omega (arith, e, k)) in
      later slots seen _ 0 t (no_boxes items (reverse slots ++ seen) (both slots seen ∙ grind (arith, t, h)) (omega (arith, e, k)))
  no_boxes (Y slots ∷ items) seen h k =
      let e = times_in-append slots (places items) l in
      let t = member_none l slots (omega (arith, e, k)) in
      later slots seen _ 0 t (no_boxes items (reverse slots ++ seen) (both slots seen ∙ grind (arith, t, h)) (omega (arith, e, k)))
  no_boxes (Loop label ∷ items) seen h k = no_boxes items seen h k

  -- ---- its loops
  abbrev loop_once : List ℕ → ℕ
  loop_once [] = 0
  loop_once (y ∷ []) = 0
  loop_once (y ∷ z ∷ names) = times_in (y ∷ z ∷ names) x

  once-times : (names : List ℕ) → times_in (names_of (loop_nodes strands 0 names)) x ≡ 2 * loop_once names
  once-times [] = refl
  once-times (y ∷ []) = refl
  once-times (y ∷ z ∷ names) =
      let ns = y ∷ z ∷ names in
      let e = times_in-append (ns ++ reverse ns) [] x in let f = times_in-append ns (reverse ns) x in let g = times-reverse x ns in
      omega (arith, e, f, g)

  once-le : (names : List ℕ) → loop_once names ≤ times_in names x
  once-le [] = omega arith
  once-le (y ∷ []) = omega arith
  once-le (y ∷ z ∷ names) = omega arith

  loops_are : (items : List NetItem) → (n : ℕ) × ((loop_total strands x items ≡ 2 * n) × (n ≤ loops_of l items * first_times strands x l))
  loops_are [] = (0, (refl, omega arith))
  loops_are (X slots ∷ items) = loops_are items
  loops_are (Y edges ∷ items) = loops_are items
  loops_are (Loop label ∷ items) =
      let ih = loops_are items in
      let e = ih.1.0 in let b = ih.1.1 in
      let f = once-times (strands.first label) in
      let g = once-le (strands.first label) in
      ⊎_elim
      (λ t.
      let one : at l label ≡ 1 = grind (arith, t) in
      let same : first_times strands x label ≡ first_times strands x l = ap (first_times strands x) (sym (eqb-true l label t)) in
      (loop_once (strands.first label) + ih.0, (omega (arith, e, f), (let k = ap (λ n. (n + loops_of l items) * first_times strands x l) one in omega (arith, b, g, same, k)))))
      (λ t.
      let none : at l label ≡ 0 = grind (arith, t) in
      let off = (only label (λ (s : label ≡ l). let h = eq-eqb l label (sym s) in grind (arith, t, h))).0 in
      (loop_once (strands.first label) + ih.0, (omega (arith, e, f), (let k = ap (λ n. (n + loops_of l items) * first_times strands x l) none in omega (arith, b, g, off, k)))))
      (cases_Bool (l == label))

  -- OUTSIDE OF GRIDS A NAME STANDS TWICE OR NOWHERE
  module _ (plain : strands.boxed l ≡ false → second_times strands x l ≡ first_times strands x l) (first_once : first_times strands x l ≤ 1)
      (box_once : strands.boxed l ≡ true → first_times strands x l + second_times strands x l ≤ 1) where
    -- THE NAMES OUTSIDE OF GRIDS
    pub outer_times : (items : List NetItem) → AllByRecursion (λ label. times_in (labels net_item_labels items) label ≡ 2) (labels net_item_labels items) →
        (h : ℕ) × ((place_sum strands x [] (places items) + box_total strands x l [] items + loop_total strands x items ≡ 2 * h) × ((h ≤ 1) × (1 ≤ h → (1 ≤ times_in (labels net_item_labels items) l) × (1 ≤ first_times strands x l + second_times strands x l))))
    outer_times items twice =
        let ls = labels net_item_labels items in
        let count = labels-times l items in
        let f = first_times strands x l in
        let s = second_times strands x l in
        let lp = loops_are items in
        let lp0 = lp.1.0 in let lp1 = lp.1.1 in
        ⊎_elim
        (λ none.
        let p0 : times_in (places items) l ≡ 0 = omega (arith, none, count) in
        let l0 : loops_of l items ≡ 0 = omega (arith, none, count) in
        let a = none_sum strands x l only (places items) [] refl p0 in
        let b = no_boxes items [] refl p0 in
        let k = ap (λ n. n * f) l0 in
        (0, (omega (arith, a, b, lp0, lp1, k), (omega arith, λ h. absurd (omega (arith, h))))))
        (λ some.
        let stand = some.1 in
        let is_two = at_label (λ label. times_in ls label ≡ 2) l ls twice (omega (arith, stand)) in
        ⊎_elim
        (λ p0.
        let l1 : loops_of l items ≡ 1 = omega (arith, p0, count, is_two) in
        let a = none_sum strands x l only (places items) [] refl p0 in
        let b = no_boxes items [] refl p0 in
        let k = ap (λ n. n * f) l1 in
        (lp.0, (omega (arith, a, b, lp0), (omega (arith, lp1, k, first_once), λ h. (omega (arith, stand), omega (arith, h, lp1, k))))))
        (λ placed.
        let more = placed.1 in
        let p2 : times_in (places items) l ≡ 2 = omega (arith, more, count, is_two) in
        let l0 : loops_of l items ≡ 0 = omega (arith, p2, count, is_two) in
        let a = new_sum strands x l only (places items) [] 1 refl p2 in
        let b = new_boxes items [] refl (omega (arith, p2)) in
        let k = ap (λ n. n * f) l0 in
        ⊎_elim
        (λ t.
        let c : cond (strands.boxed l) two 0 ≡ f + s = ap (λ v. cond v two 0) t in
        let once = box_once t in
        (f + s, (omega (arith, a, b, c, lp0, lp1, k), (once, λ h. (omega (arith, stand), h)))))
        (λ t.
        let c : cond (strands.boxed l) two 0 ≡ 0 = ap (λ v. cond v two 0) t in
        let same = plain t in
        (f, (omega (arith, a, b, c, same, lp0, lp1, k), (first_once, λ h. (omega (arith, stand), omega (arith, h))))))
        (cases_Bool (strands.boxed l)))
        (zero_or_some (times_in (places items) l)))
        (zero_or_some (times_in ls l))
