-- A strictly increasing list with the labels of another as its elements is the list of the different labels.
use Rattle.std.proofs.Common.{◌≡◌, ℕ, zero, suc, ◌+◌, ◌<◌, ◌≤◌, ◌==◌, ◌||◌, Bool, true, false, cond, List, [], ◌∷◌, Less, inl, inr, refl, sym, ap, ◌∙◌, arith, ⊎_elim}
use Rattle.std.specs.List.{AllByRecursion, filter, range_with_len}
use Rattle.std.specs.List.Sorted.{IsStrictlySortedBy}
use Rattle.std.specs.Ordering.{nat_cmp}
use Rattle.std.specs.BTreeSet.{BTreeSet, contains}
use Rattle.std.specs.Cmp.{nat_cmp_total}
use Rattle.std.specs.Set.{is_member}
use Rattle.std.proofs.lemmas.Bool.{cases_Bool, eq-eqb, eqb-true, eqb-false, ne_eqb, or_left, or_right, or_cases}
use Rattle.std.proofs.lemmas.Bool.Decides.{Decides-eqb}
use Rattle.std.proofs.lemmas.Map.Keys.{sorted_head, sorted_tail}
use Rattle.std.proofs.lemmas.Map.Lookups.{exact_unsigned}
use Rattle.std.proofs.lemmas.Map.Views.{btree_set_contains_iff}
use Rattle.std.proofs.lemmas.Map.Made.{is_member-Decides}
use Rattle.planar_check.specs.Components.{greatest, distinct}
use Rattle.planar_check.proofs.Strands.{filter_same, member_at_most}
use Rattle.list_lemmas.proofs.Ranges.{All-below, All-range}
use Rattle.list_lemmas.proofs.Increasing.{less_of_nat_cmp}

abbrev Between : ℕ → ℕ → ℕ → Type 0
Between a n x = (a ≤ x) × (x < a + n)

-- all elements are above the head
above : (x : ℕ) (xs : List ℕ) → AllByRecursion (λ y. nat_cmp x y ≡ Less) xs → (y : ℕ) → is_member ◌==◌ xs y ≡ true → x < y
above x [] h y m = absurd (grind (arith, m))
above x (z ∷ zs) h y m =
    ⊎_elim (λ e. let same = eqb-true y z e in let l = less_of_nat_cmp x z h.0 in omega (arith, same, l)) (λ e. above x zs h.1 y e) (or_cases (y == z) (is_member ◌==◌ zs y) m)

-- the numbers from a on that stand in the list
filter_none : (ns : List ℕ) → filter (λ (x : ℕ). is_member ◌==◌ [] x) ns ≡ []
filter_none [] = refl
filter_none (n ∷ ns) = filter_none ns

filter_is : (a n : ℕ) (xs : List ℕ) → IsStrictlySortedBy nat_cmp xs → ((x : ℕ) → is_member ◌==◌ xs x ≡ true → Between a n x) → filter (is_member ◌==◌ xs) (range_with_len a n) ≡ xs
filter_is a n [] sorted within = filter_none (range_with_len a n)
filter_is a zero (x ∷ xs) sorted within =
    let here = within x (or_left (x == x) (is_member ◌==◌ xs x) (eq-eqb x x refl)) in
    absurd (let low = here.0 in let high = here.1 in omega (arith, low, high))
filter_is a (suc n) (x ∷ xs) sorted within =
    let here = within x (or_left (x == x) (is_member ◌==◌ xs x) (eq-eqb x x refl)) in
    let head = sorted_head nat_cmp x xs sorted in
    let later : (y : ℕ) → is_member ◌==◌ xs y ≡ true → Between (a + 1) n y =
    λ y m. (
      let up = above x xs head y m in let low = here.0 in omega (arith, up, low),
      (let high = (within y (or_right (y == x) (is_member ◌==◌ xs y) m)).1 in omega (arith, high)),
    ) in
    elim (cases_Bool (a == x)) [
      | inl e ↦ (
          let same = eqb-true a x e in
          let rest : filter (is_member ◌==◌ (x ∷ xs)) (range_with_len (a + 1) n) ≡ filter (is_member ◌==◌ xs) (range_with_len (a + 1) n) =
          filter_same (is_member ◌==◌ (x ∷ xs)) (is_member ◌==◌ xs) (range_with_len (a + 1) n)
          (All-range (λ y. is_member ◌==◌ (x ∷ xs) y ≡ is_member ◌==◌ xs y) (a + 1) n (λ y l h. ap (λ (b : Bool). b || is_member ◌==◌ xs y) (ne_eqb y x (λ (s : y ≡ x). absurd (omega (arith, s, same, l)))))) in
          let first : is_member ◌==◌ (x ∷ xs) a ≡ true = or_left (a == x) (is_member ◌==◌ xs a) e in
          ap (λ (b : Bool). cond b (a ∷ filter (is_member ◌==◌ (x ∷ xs)) (range_with_len (a + 1) n)) (filter (is_member ◌==◌ (x ∷ xs)) (range_with_len (a + 1) n))) first
          ∙ (ap (λ (ys : List ℕ). a ∷ ys) (rest ∙ filter_is (a + 1) n xs (sorted_tail nat_cmp x xs sorted) later) ∙ ap (λ (y : ℕ). y ∷ xs) same))
      | inr e ↦ (
          let other = eqb-false a x e in
          let below : a < x = (let low = here.0 in omega (arith, other, low)) in
          let absent : is_member ◌==◌ (x ∷ xs) a ≡ false = elim (cases_Bool (is_member ◌==◌ xs a)) [
            | inl m ↦ absurd (let up = above x xs head a m in omega (arith, up, below))
            | inr m ↦ ap (λ (b : Bool). b || is_member ◌==◌ xs a) e ∙ m
          ] in
          ap (λ (b : Bool). cond b (a ∷ filter (is_member ◌==◌ (x ∷ xs)) (range_with_len (a + 1) n)) (filter (is_member ◌==◌ (x ∷ xs)) (range_with_len (a + 1) n))) absent
          ∙ filter_is (a + 1) n (x ∷ xs) sorted (λ y m.
          let bound = within y m in
          let low : a + 1 ≤ y = ⊎_elim (λ s. let same = eqb-true y x s in omega (arith, same, below)) (λ s. let up = above x xs head y s in omega (arith, up, below)) (or_cases (y == x) (is_member ◌==◌ xs y) m) in
          (low, (let high = bound.1 in omega (arith, high)))))
    ]

-- THE KEYS ARE THE DIFFERENT LABELS
pub distinct_is : (labels keys : List ℕ) → IsStrictlySortedBy nat_cmp keys → ((x : ℕ) → is_member ◌==◌ keys x ≡ is_member ◌==◌ labels x) → keys ≡ distinct labels
unfolding distinct
distinct_is labels keys sorted same =
    let n = greatest labels + 1 in
    sym (filter_is 0 n keys sorted (λ x m. (omega arith, (let h = member_at_most labels x (sym (same x) ∙ m) in omega (arith, h)))))
    ∙ filter_same (is_member ◌==◌ keys) (is_member ◌==◌ labels) (range_with_len 0 n) (All-below (λ x. is_member ◌==◌ keys x ≡ is_member ◌==◌ labels x) n (λ x l. same x))

-- what the set contains stands among its keys
pub contains-member : (set : BTreeSet ℕ) (label : ℕ) → contains nat_cmp set label ≡ is_member ◌==◌ set.keys label
contains-member set label =
    let tells = btree_set_contains_iff nat_cmp_total exact_unsigned set label in
    let decides = is_member-Decides Decides-eqb set.keys label in
    elim (cases_Bool (contains nat_cmp set label)) [
      | inl t ↦ t ∙ sym (decides.1 (tells.0 t))
      | inr t ↦ t ∙ sym (elim (cases_Bool (is_member ◌==◌ set.keys label)) [
        | inl m ↦ absurd (let n = tells.1 (decides.0 m) in let both : true ≡ false = sym n ∙ t in grind (arith, both))
        | inr m ↦ m
      ])
    ]
