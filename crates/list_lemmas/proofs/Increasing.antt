-- Increasing lists. One is told by how often each number stands in it: of two heads that differ the lesser would stand in
-- one list alone.
use Rattle.std.proofs.Common.{◌≡◌, ℕ, suc, ◌<◌, List, [], ◌∷◌, Less, refl, ap, ◌∙◌, arith}
use Rattle.std.specs.List.{All, AllPairs}
use Rattle.std.specs.List.Sorted.{IsStrictlySortedBy}
use Rattle.std.specs.Ordering.{nat_cmp}
use Rattle.std.proofs.lemmas.Bool.Decides.{nat_tests}
use Rattle.std.proofs.lemmas.List.Elements.{All-cons, All-weaker}
use Rattle.std.proofs.lemmas.List.Kept.{AllPairs-from_increasing}
use Rattle.std.proofs.lemmas.Map.Keys.{IsStrictlyIncreasing-from_sorted}
use Rattle.list_lemmas.specs.Laws.{IncreasingListsLaw}
use Rattle.list_lemmas.specs.Times.{times_in}
use Rattle.list_lemmas.proofs.Times.{times_in-cons}

-- What the order of numbers answers.
pub less_of_nat_cmp : (x y : ℕ) → nat_cmp x y ≡ Less → x < y
less_of_nat_cmp x y h = grind (arith, nat_tests, h)

-- The head and the rest of a list whose numbers stand in order.
pub pairs_head : (R : ℕ → ℕ → Type 0) (x : ℕ) (xs : List ℕ) → AllPairs R (x ∷ xs) → All (R x) xs
pairs_head R x xs h k d l = h 0 (suc k) d (omega arith) (omega (arith, l))

pub pairs_tail : (R : ℕ → ℕ → Type 0) (x : ℕ) (xs : List ℕ) → AllPairs R (x ∷ xs) → AllPairs R xs
pairs_tail R x xs h i j d less l = h (suc i) (suc j) d (omega (arith, less)) (omega (arith, l))

-- A number below all numbers of a list stands nowhere in it.
pub times_above : (x : ℕ) (xs : List ℕ) → All (λ y. x < y) xs → times_in xs x ≡ 0
times_above x [] h = refl
times_above x (y ∷ xs) h =
    let a = times_in-cons y xs x in
    let here : x < y = h 0 0 (omega arith) in
    let rest = times_above x xs (λ k d l. h (suc k) d (omega (arith, l))) in
    grind (arith, nat_tests, a, here, rest)

one_by_pairs : (xs ys : List ℕ) → AllPairs (λ x y. x < y) xs → AllPairs (λ x y. x < y) ys → ((x : ℕ) → times_in xs x ≡ times_in ys x) → xs ≡ ys
one_by_pairs [] [] up up2 same = refl
one_by_pairs [] (y ∷ ys) up up2 same = let e = same y in let a = times_in-cons y ys y in absurd (grind (arith, nat_tests, e, a))
one_by_pairs (x ∷ xs) [] up up2 same = let e = same x in let a = times_in-cons x xs x in absurd (grind (arith, nat_tests, e, a))
one_by_pairs (x ∷ xs) (y ∷ ys) up up2 same =
    let above = pairs_head (λ a b. a < b) x xs up in
    let above2 = pairs_head (λ a b. a < b) y ys up2 in
    let not_less : x < y → ⊥ = (λ less.
    let none = times_above x (y ∷ ys) (All-cons (λ z. x < z) y ys less (All-weaker (λ z. y < z) (λ z. x < z) (λ z l. omega (arith, less, l)) ys above2)) in
    let e = same x in let a = times_in-cons x xs x in grind (arith, nat_tests, none, e, a)) in
    let not_more : y < x → ⊥ = (λ more.
    let none = times_above y (x ∷ xs) (All-cons (λ z. y < z) x xs more (All-weaker (λ z. x < z) (λ z. y < z) (λ z l. omega (arith, more, l)) xs above)) in
    let e = same y in let a = times_in-cons y ys y in grind (arith, nat_tests, none, e, a)) in
    let here : x ≡ y = grind (arith, not_less, not_more) in
    let rest = one_by_pairs xs ys (pairs_tail (λ a b. a < b) x xs up) (pairs_tail (λ a b. a < b) y ys up2) (λ z. let e = same z in let a = times_in-cons x xs z in let b = times_in-cons y ys z in grind (arith, nat_tests, e, a, b, here)) in
    ap (λ z. z ∷ xs) here ∙ ap (λ zs. y ∷ zs) rest

-- A list in strict order of the numbers increases.
pub same_sorted : (xs ys : List ℕ) → IsStrictlySortedBy nat_cmp xs → IsStrictlySortedBy nat_cmp ys → ((x : ℕ) → times_in xs x ≡ times_in ys x) → xs ≡ ys
same_sorted xs ys s t same =
    one_by_pairs xs ys (AllPairs-from_increasing xs (IsStrictlyIncreasing-from_sorted xs s)) (AllPairs-from_increasing ys (IsStrictlyIncreasing-from_sorted ys t)) same

-- TWO INCREASING LISTS IN WHICH EACH NUMBER STANDS EQUALLY OFTEN ARE ONE
pub one_increasing : IncreasingListsLaw
one_increasing xs ys up up2 same = one_by_pairs xs ys (AllPairs-from_increasing xs up) (AllPairs-from_increasing ys up2) same
