-- Sorting names, and increasing lists: how often a number stands in them tells them.
use Rattle.std.proofs.Common.{◌≡◌, ℕ, suc, ◌+◌, ◌≤◌, ◌==◌, nat_lt, cond, ⊎_elim, List, [], ◌∷◌, length, get_or, refl, sym, ap, subst, ◌∙◌, arith}
use Rattle.std.specs.List.{All, AllPairs}
use Rattle.std.specs.List.Sorted.{IsNonDecreasing}
use Rattle.std.proofs.lemmas.Bool.{cases_Bool, cases_eq}
use Rattle.std.proofs.lemmas.Bool.Decides.{nat_tests}
use Rattle.std.proofs.lemmas.List.Elements.{All-cons, All-weaker}
use Rattle.std.proofs.lemmas.List.Kept.{AllPairs-cons}
use Rattle.list_lemmas.specs.Times.{times_in}
use Rattle.list_lemmas.proofs.Times.{times_in-cons}
use Rattle.frontier_laws.specs.Orders.{placed, increasing}
use Rattle.list_lemmas.proofs.Increasing.{pairs_head, pairs_tail}

-- ---- how often a number stands in a list
times_placed : (name : ℕ) (names : List ℕ) (x : ℕ) → times_in (placed name names) x ≡ cond (x == name) 1 0 + times_in names x
times_placed name [] x = times_in-cons name [] x
times_placed name (other ∷ names) x =
    ⊎_elim
    (λ t. ap {B = ℕ} (λ c. times_in (cond c (other ∷ placed name names) (name ∷ other ∷ names)) x) t
    ∙ (let ih = times_placed name names x in let a = times_in-cons other (placed name names) x in let b = times_in-cons other names x in omega (arith, ih, a, b)))
    (λ t. ap {B = ℕ} (λ c. times_in (cond c (other ∷ placed name names) (name ∷ other ∷ names)) x) t ∙ times_in-cons name (other ∷ names) x)
    (cases_Bool (nat_lt other name))

-- SORTED, EACH NAME STANDS AS OFTEN AS BEFORE
pub times_increasing : (names : List ℕ) (x : ℕ) → times_in (increasing names) x ≡ times_in names x
times_increasing [] x = refl
times_increasing (name ∷ names) x =
    let ih = times_increasing names x in let a = times_placed name (increasing names) x in let b = times_in-cons name names x in omega (arith, ih, a, b)

length_placed : (name : ℕ) (names : List ℕ) → length (placed name names) ≡ suc (length names)
length_placed name [] = refl
length_placed name (other ∷ names) =
    ⊎_elim
    (λ t. ap {B = ℕ} (λ c. length (cond c (other ∷ placed name names) (name ∷ other ∷ names))) t ∙ ap suc (length_placed name names))
    (λ t. ap {B = ℕ} (λ c. length (cond c (other ∷ placed name names) (name ∷ other ∷ names))) t)
    (cases_Bool (nat_lt other name))

-- Sorted, there are as many names as before.
pub length_increasing : (names : List ℕ) → length (increasing names) ≡ length names
length_increasing [] = refl
length_increasing (name ∷ names) = length_placed name (increasing names) ∙ ap suc (length_increasing names)

-- ---- numbers that do not fall: each is at most those behind it
All-placed : (P : ℕ → Type 0) (name : ℕ) (names : List ℕ) → P name → All P names → All P (placed name names)
All-placed P name [] p h = All-cons P name [] p h
All-placed P name (other ∷ names) p h =
    ⊎_elim
    (λ t. subst (λ c. All P (cond c (other ∷ placed name names) (name ∷ other ∷ names))) (sym t)
    (All-cons P other (placed name names) (h 0 0 (omega arith)) (All-placed P name names p (λ k d l. h (suc k) d (omega (arith, l))))))
    (λ t. subst (λ c. All P (cond c (other ∷ placed name names) (name ∷ other ∷ names))) (sym t) (All-cons P name (other ∷ names) p h))
    (cases_Bool (nat_lt other name))

pairs_placed : (name : ℕ) (names : List ℕ) → AllPairs (λ x y. x ≤ y) names → AllPairs (λ x y. x ≤ y) (placed name names)
pairs_placed name [] h = λ i j d less l. absurd (omega (arith, less, l))
pairs_placed name (other ∷ names) h =
    let above = pairs_head (λ x y. x ≤ y) other names h in
    ⊎_elim
    (λ t. subst (λ c. AllPairs (λ x y. x ≤ y) (cond c (other ∷ placed name names) (name ∷ other ∷ names))) (sym t)
    (AllPairs-cons (λ x y. x ≤ y) other (placed name names) (All-placed (λ y. other ≤ y) name names (grind (arith, nat_tests, t)) above) (pairs_placed name names (pairs_tail (λ x y. x ≤ y) other names h))))
    (λ t. subst (λ c. AllPairs (λ x y. x ≤ y) (cond c (other ∷ placed name names) (name ∷ other ∷ names))) (sym t)
    (let first : name ≤ other = grind (arith, nat_tests, t) in
    AllPairs-cons (λ x y. x ≤ y) name (other ∷ names)
    (All-cons (λ y. name ≤ y) other names first (All-weaker (λ y. other ≤ y) (λ y. name ≤ y) (λ y l. omega (arith, first, l)) names above)) h))
    (cases_Bool (nat_lt other name))

pairs_increasing : (names : List ℕ) → AllPairs (λ x y. x ≤ y) (increasing names)
pairs_increasing [] = λ i j d less l. absurd (omega (arith, l))
pairs_increasing (name ∷ names) = pairs_placed name (increasing names) (pairs_increasing names)

-- SORTED, THE NAMES DO NOT FALL
pub non_decreasing_increasing : (names : List ℕ) → IsNonDecreasing (increasing names)
non_decreasing_increasing names i j d le l =
    ⊎_elim
    (λ same. let e = ap (λ k. get_or (increasing names) k d) same in omega (arith, e))
    (λ apart. pairs_increasing names i j d (omega (arith, le, apart)) l)
    (cases_eq i j)
