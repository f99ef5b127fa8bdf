-- How many different numbers two lists have together: order does not matter, and what stands in the other list adds none.
use Rattle.std.proofs.Common.{◌≡◌, ℕ, ◌≤◌, true, ◌||◌, ◌==◌, List, [], ◌∷◌, ◌++◌, refl, ap, arith, append-nil}
use Rattle.std.proofs.lemmas.Bool.Decides.{nat_tests}
use Rattle.std.proofs.lemmas.List.Elements.{All-head, All-tail}
use Rattle.std.proofs.lemmas.List.Folds.{list_any-append}
use Rattle.std.specs.List.{AllPass}
use Rattle.std.specs.Set.{is_member, distinct_count}
use Rattle.graph_parts.proofs.Counting.{distinct_count-cons}

pub is_member-append : (xs ys : List ℕ) (q : ℕ) → is_member ◌==◌ (xs ++ ys) q ≡ (is_member ◌==◌ xs q || is_member ◌==◌ ys q)
is_member-append xs ys q = list_any-append (◌==◌ q) xs ys

pub distinct_count-insert : (xs ys : List ℕ) (y : ℕ) → distinct_count ◌==◌ (xs ++ y ∷ ys) ≡ distinct_count ◌==◌ (y ∷ (xs ++ ys))
distinct_count-insert [] ys y = refl
distinct_count-insert (x ∷ xs) ys y =
    let ih = distinct_count-insert xs ys y in
    let e = distinct_count-cons x (xs ++ y ∷ ys) in
    let f = distinct_count-cons y (x ∷ (xs ++ ys)) in
    let g = distinct_count-cons x (xs ++ ys) in
    let h = distinct_count-cons y (xs ++ ys) in
    let i = is_member-append xs (y ∷ ys) x in
    let j = is_member-append xs ys x in
    let same = λ (t : x ≡ y). ap (is_member ◌==◌ (xs ++ ys)) t in
    grind (arith, nat_tests, ih, e, f, g, h, i, j, same)

pub distinct_count-swap : (xs ys : List ℕ) → distinct_count ◌==◌ (xs ++ ys) ≡ distinct_count ◌==◌ (ys ++ xs)
distinct_count-swap xs [] = ap (distinct_count ◌==◌) (append-nil xs)
distinct_count-swap xs (y ∷ ys) =
    let ih = distinct_count-swap xs ys in
    let e = distinct_count-insert xs ys y in
    let f = distinct_count-cons y (xs ++ ys) in
    let g = distinct_count-cons y (ys ++ xs) in
    let i = is_member-append xs ys y in
    let j = is_member-append ys xs y in
    grind (arith, nat_tests, ih, e, f, g, i, j)

pub distinct_count-below : (xs ys : List ℕ) → distinct_count ◌==◌ ys ≤ distinct_count ◌==◌ (xs ++ ys)
distinct_count-below [] ys = omega arith
distinct_count-below (x ∷ xs) ys = let ih = distinct_count-below xs ys in let e = distinct_count-cons x (xs ++ ys) in omega (arith, e)

-- WHAT STANDS IN THE OTHER LIST ADDS NONE
pub distinct_count-absorb : (xs ys : List ℕ) → AllPass (is_member ◌==◌ ys) xs → distinct_count ◌==◌ (xs ++ ys) ≡ distinct_count ◌==◌ ys
distinct_count-absorb [] ys h = refl
distinct_count-absorb (x ∷ xs) ys h =
    let ih = distinct_count-absorb xs ys (All-tail (λ z. is_member ◌==◌ ys z ≡ true) x xs h) in
    let here = All-head (λ z. is_member ◌==◌ ys z ≡ true) x xs h in
    let e = distinct_count-cons x (xs ++ ys) in
    let i = is_member-append xs ys x in
    grind (arith, ih, here, e, i)

-- A LIST WITHIN ANOTHER HAS NO MORE NUMBERS
pub distinct_count-le_from_within : (xs ys : List ℕ) → AllPass (is_member ◌==◌ ys) xs → distinct_count ◌==◌ xs ≤ distinct_count ◌==◌ ys
distinct_count-le_from_within xs ys h =
    let e = distinct_count-below ys xs in let f = distinct_count-swap xs ys in let g = distinct_count-absorb xs ys h in omega arith
