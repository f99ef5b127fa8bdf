-- The names at places, in boxes and at loops: a name belongs to the strands of one label, and stands as often as that label's
-- places, box and loop have it.
use Rattle.std.proofs.Common.{◌≡◌, ◌≢◌, ℕ, zero, suc, ◌+◌, ◌*◌, ◌<◌, ◌≤◌, ◌==◌, ◌&&◌, not, Bool, true, false, cond, List, [], ◌∷◌, ◌++◌, map, length, refl, sym, ap, ap₂, ◌∙◌, arith, ⊎_elim, inl, inr, subst}
use Rattle.std.specs.List.{range_with_len, filter}
use Rattle.std.specs.Set.{is_member}
use Rattle.std.proofs.lemmas.Bool.{cases_Bool, eqb-true, or_cases, or_left, or_right, eq-eqb}
use Rattle.std.proofs.lemmas.Bool.Decides.{nat_tests}
use Rattle.state_sums.specs.Networks.{names_of}
use Rattle.list_lemmas.specs.Times.{times_in}
use Rattle.cables.specs.Strands.{Strands, names_at}
use Rattle.cables.specs.CableNodes.{box_node}
use Rattle.cables.specs.Cables.{Standing, past_all, box_nodes}
use Rattle.cables.proofs.NameCounts.{at}
use Rattle.list_lemmas.proofs.Times.{times_in-cons, times_in-append}

-- as many strands at the second place as at the first
abbrev pub AreAsMany : Strands → Type 0
AreAsMany strands = (label : ℕ) → length (strands.second label) ≡ length (strands.first label)

module _ (strands : Strands) (x : ℕ) where
  abbrev pub first_times : ℕ → ℕ
  first_times label = times_in (strands.first label) x

  abbrev pub second_times : ℕ → ℕ
  second_times label = times_in (strands.second label) x

  -- over places with these labels, where others stood before
  abbrev pub place_sum : List ℕ → List ℕ → ℕ
  place_sum seen [] = 0
  place_sum seen (label ∷ labels) = times_in (names_at strands seen label) x + place_sum (label ∷ seen) labels

  -- in the boxes at an item with these slots
  abbrev pub box_sum : List ℕ → ℕ
  box_sum [] = 0
  box_sum (label ∷ labels) = first_times label + second_times label + box_sum labels

  -- the names of the label l alone
  abbrev pub OnlyLabel : ℕ → Type 0
  OnlyLabel l = (label : ℕ) → label ≢ l → (first_times label ≡ 0) × (second_times label ≡ 0)

  at_second : (seen : List ℕ) (label : ℕ) → is_member ◌==◌ seen label ≡ true → times_in (names_at strands seen label) x ≡ second_times label
  at_second seen label h = ap (λ b. times_in (cond b (strands.second label) (strands.first label)) x) h

  at_first : (seen : List ℕ) (label : ℕ) → is_member ◌==◌ seen label ≡ false → times_in (names_at strands seen label) x ≡ first_times label
  at_first seen label h = ap (λ b. times_in (cond b (strands.second label) (strands.first label)) x) h

  module _ (l : ℕ) (only : OnlyLabel l) where
    at_other : (seen : List ℕ) (label : ℕ) → label ≢ l → times_in (names_at strands seen label) x ≡ 0
    at_other seen label h =
        ⊎_elim (λ t. at_second seen label t ∙ (only label h).1) (λ t. at_first seen label t ∙ (only label h).0) (cases_Bool (is_member ◌==◌ seen label))

    seen_sum : (labels seen : List ℕ) → is_member ◌==◌ seen l ≡ true → place_sum seen labels ≡ times_in labels l * second_times l
    seen_sum [] seen h = omega arith
    seen_sum (y ∷ labels) seen h =
        let ih = seen_sum labels (y ∷ seen) (or_right (l == y) (is_member ◌==◌ seen l) h) in
        let more = times_in-cons y labels l in
        elim (cases_Bool (l == y)) [
          | inl t ↦ (
              let same = eqb-true l y t in
              let here : times_in (names_at strands seen y) x ≡ second_times l = at_second seen y (subst (λ k. is_member ◌==◌ seen k ≡ true) same h) ∙ ap second_times (sym same) in
              let one : at l y ≡ 1 = grind (arith, t) in
              ap₂ (λ a b. a + b) here ih ∙ (let count : times_in (y ∷ labels) l ≡ 1 + times_in labels l = omega (arith, more, one) in let z = ap (λ n. n * second_times l) count in omega (arith, z)))
          | inr t ↦ (
              let here = at_other seen y (λ (e : y ≡ l). let f = eq-eqb l y (sym e) in grind (arith, t, f)) in
              let one : at l y ≡ 0 = grind (arith, t) in
              ap₂ (λ a b. a + b) here ih ∙ (let count : times_in (y ∷ labels) l ≡ times_in labels l = omega (arith, more, one) in let z = ap (λ n. n * second_times l) count in omega (arith, z)))
        ]

    pub new_sum : (labels seen : List ℕ) (n : ℕ) → is_member ◌==◌ seen l ≡ false → times_in labels l ≡ suc n → place_sum seen labels ≡ first_times l + n * second_times l
    new_sum [] seen n h k = absurd (omega (arith, k))
    new_sum (y ∷ labels) seen n h k =
        let more = times_in-cons y labels l in
        elim (cases_Bool (l == y)) [
          | inl t ↦ (
              let same = eqb-true l y t in
              let here : times_in (names_at strands seen y) x ≡ first_times l = at_first seen y (subst (λ k. is_member ◌==◌ seen k ≡ false) same h) ∙ ap first_times (sym same) in
              let one : at l y ≡ 1 = grind (arith, t) in
              let rest = seen_sum labels (y ∷ seen) (or_left (l == y) (is_member ◌==◌ seen l) t) in
              let count : times_in labels l ≡ n = omega (arith, more, one, k) in
              ap₂ (λ a b. a + b) here (rest ∙ ap (λ i. i * second_times l) count))
          | inr t ↦ (
              let here = at_other seen y (λ (e : y ≡ l). let f = eq-eqb l y (sym e) in grind (arith, t, f)) in
              let one : at l y ≡ 0 = grind (arith, t) in
              let ih = new_sum labels (y ∷ seen) n (grind (arith, t, h)) (omega (arith, more, one, k)) in
              omega (arith, here, ih))
        ]

    pub none_sum : (labels seen : List ℕ) → is_member ◌==◌ seen l ≡ false → times_in labels l ≡ 0 → place_sum seen labels ≡ 0
    none_sum [] seen h k = refl
    none_sum (y ∷ labels) seen h k =
        let more = times_in-cons y labels l in
        let none : at l y ≡ 0 = omega (arith, more, k) in
        let t : (l == y) ≡ false = grind (arith, nat_tests, none) in
        let here = at_other seen y (λ (e : y ≡ l). let f = eq-eqb l y (sym e) in grind (arith, t, f)) in
        let ih = none_sum labels (y ∷ seen) (grind (arith, t, h)) (omega (arith, more, none, k)) in
        omega (arith, here, ih)

    -- ---- boxes
    box_out : (test : ℕ → Bool) (a n : ℕ) → l < a → box_sum (filter test (range_with_len a n)) ≡ 0
    box_out test a zero h = refl
    box_out test a (suc n) h =
        let ih = box_out test (a + 1) n (omega arith) in
        let k = only a (λ (e : a ≡ l). absurd (omega (arith, e, h))) in
        let k0 = k.0 in let k1 = k.1 in
        elim (test a) as (λ b. box_sum (cond b (a ∷ filter test (range_with_len (a + 1) n)) (filter test (range_with_len (a + 1) n))) ≡ 0) [ true ↦ omega (arith, ih, k0, k1) | false ↦ ih ]

    box_in : (test : ℕ → Bool) (a n : ℕ) → a ≤ l → l < a + n → box_sum (filter test (range_with_len a n)) ≡ cond (test l) (first_times l + second_times l) 0
    box_in test a zero h k = absurd (omega (arith, h, k))
    box_in test a (suc n) h k =
        elim (cases_Bool (a == l)) [
          | inl t ↦ (
              let same = eqb-true a l t in
              let rest = box_out test (a + 1) n (omega (arith, same)) in
              subst (λ i. box_sum (cond (test a) (a ∷ filter test (range_with_len (a + 1) n)) (filter test (range_with_len (a + 1) n))) ≡ cond (test i) (first_times i + second_times i) 0) same
              (elim (test a) as (λ b. box_sum (cond b (a ∷ filter test (range_with_len (a + 1) n)) (filter test (range_with_len (a + 1) n))) ≡ cond b (first_times a + second_times a) 0) [ true ↦ omega (arith, rest) | false ↦ rest ]))
          | inr t ↦ (
              let apart : a ≢ l = λ (e : a ≡ l). let f = eq-eqb a l e in grind (arith, t, f) in
              let ih = box_in test (a + 1) n (omega (arith, apart)) (omega arith) in
              let u = only a apart in
              let u0 = u.0 in let u1 = u.1 in
              elim (test a) as (λ b. box_sum (cond b (a ∷ filter test (range_with_len (a + 1) n)) (filter test (range_with_len (a + 1) n))) ≡ cond (test l) (first_times l + second_times l) 0) [ true ↦ omega (arith, ih, u0, u1) | false ↦ ih ])
        ]

    member_below : (slots : List ℕ) → is_member ◌==◌ slots l ≡ true → l < past_all slots
    member_below [] h = absurd (grind (arith, h))
    member_below (y ∷ ys) h =
        ⊎_elim (λ t. let same = eqb-true l y t in omega (arith, same)) (λ t. let ih = member_below ys t in omega (arith, ih)) (or_cases (l == y) (is_member ◌==◌ ys l) h)

    -- the boxes at an item
    abbrev pub has_box : List ℕ → List ℕ → Bool
    has_box seen slots = is_member ◌==◌ slots l && (strands.boxed l && not (is_member ◌==◌ seen l))

    named : (group : ℕ) (labels : List ℕ) →
        times_in (names_of (map (λ label. box_node group (strands.box (length (strands.first label))) (strands.first label) (strands.second label)) labels)) x ≡ box_sum labels
    named group [] = refl
    named group (y ∷ labels) =
        let ih = named group labels in
        let a = times_in-append (strands.first y ++ strands.second y) (names_of (map (λ label. box_node group (strands.box (length (strands.first label))) (strands.first label) (strands.second label)) labels)) x in
        let b = times_in-append (strands.first y) (strands.second y) x in
        omega (arith, ih, a, b)

    -- THE NAMES IN BOXES
    pub box-times : (standing : Standing) (slots : List ℕ) →
        times_in (names_of (box_nodes strands standing slots)) x ≡ cond (has_box standing.seen slots) (first_times l + second_times l) 0
    box-times standing slots =
        let test : ℕ → Bool = λ label. is_member ◌==◌ slots label && (strands.boxed label && not (is_member ◌==◌ standing.seen label)) in
        named standing.group (filter test (range_with_len 0 (past_all slots)))
        ∙ ⊎_elim
        (λ t. box_in test 0 (past_all slots) (omega arith) (let b = member_below slots t in omega (arith, b)))
        (λ t.
        let no : test l ≡ false = ap (λ b. b && (strands.boxed l && not (is_member ◌==◌ standing.seen l))) t in
        box_absent test 0 (past_all slots) no ∙ ap (λ b. cond b (first_times l + second_times l) 0) (sym no))
        (cases_Bool (is_member ◌==◌ slots l))
      where
        box_absent : (test : ℕ → Bool) (a n : ℕ) → test l ≡ false → box_sum (filter test (range_with_len a n)) ≡ 0
        box_absent test a zero h = refl
        box_absent test a (suc n) h =
            let ih = box_absent test (a + 1) n h in
            elim (cases_Bool (a == l)) [
              | inl t ↦ (
                  let same = eqb-true a l t in
                  let off : test a ≡ false = ap test same ∙ h in
                  ap (λ b. box_sum (cond b (a ∷ filter test (range_with_len (a + 1) n)) (filter test (range_with_len (a + 1) n)))) off ∙ ih)
              | inr t ↦ (
                  let u = only a (λ (e : a ≡ l). let f = eq-eqb a l e in grind (arith, t, f)) in
                  let u0 = u.0 in let u1 = u.1 in
                  elim (test a) as (λ b. box_sum (cond b (a ∷ filter test (range_with_len (a + 1) n)) (filter test (range_with_len (a + 1) n))) ≡ 0) [ true ↦ omega (arith, ih, u0, u1) | false ↦ ih ])
            ]
