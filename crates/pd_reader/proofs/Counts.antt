-- How often a label stands in a list in ascending order: as many as are at most the label, less those that are
-- below it. Each of the two is where a search ends.
--
--     count-partition    the elements that pass a test stand before a place: there are as many
--     times-searches     so the difference of the places is the count
--     times-permuted     which no order of the list changes
use Rattle.std.proofs.Common.{◌≡◌, ℕ, zero, suc, ◌+◌, ◌-◌, ◌<◌, ◌≤◌, ◌==◌, ltb, leb, Bool, true, false, cond, List, [], ◌∷◌, length, get_or, refl, sym, ◌∙◌, arith}
use Rattle.std.specs.List.{count_by, sum_by}
use Rattle.std.specs.List.Sorted.{IsPartitionPoint, IsPermutation}
use Rattle.std.proofs.lemmas.Bool.Decides.{nat_tests}
use Rattle.std.proofs.lemmas.List.Sorted.{sum_by-IsPermutation}
use Rattle.std.proofs.lemmas.List.Sums.{sum_by-cons}
use Rattle.list_lemmas.specs.Times.{times_in}

count_by-cons : (p : ℕ → Bool) (x : ℕ) (xs : List ℕ) → count_by p (x ∷ xs) ≡ cond (p x) 1 0 + count_by p xs
count_by-cons p x xs = sum_by-cons (λ n. cond (p n) 1 0) x xs

count-partition : (p : ℕ → Bool) (xs : List ℕ) (i : ℕ) → i ≤ length xs → ((k : ℕ) → k < i → p (get_or xs k 0) ≡ true) → ((k : ℕ) → i ≤ k → k < length xs → p (get_or xs k 0) ≡ false) → count_by p xs ≡ i
count-partition p [] i le pass fail = omega (arith, le)
count-partition p (x ∷ xs) zero le pass fail =
    count_by-cons p x xs ∙ rw (fail 0 (omega arith) (omega arith), count-partition p xs 0 (omega arith) (λ k lt. absurd (omega arith)) (λ k h lt. fail (suc k) (omega arith) (omega arith))) refl
count-partition p (x ∷ xs) (suc i) le pass fail =
    let rest = count-partition p xs i (omega arith) (λ k lt. pass (suc k) (omega arith)) (λ k h lt. fail (suc k) (omega arith) (omega arith)) in
    count_by-cons p x xs ∙ rw (pass 0 (omega arith)) (omega (arith, rest))

-- at most the label: below it, or the label
one_parted : (n label : ℕ) → cond (leb n label) 1 0 ≡ cond (ltb n label) 1 0 + cond (label == n) 1 0
one_parted n label = grind (arith, nat_tests)

count-parted : (label : ℕ) (xs : List ℕ) → count_by (λ n. leb n label) xs ≡ count_by (λ n. ltb n label) xs + times_in xs label
count-parted label [] = refl
count-parted label (n ∷ xs) =
    let ih = count-parted label xs in
    let one = one_parted n label in
    let up = count_by-cons (λ m. leb m label) n xs in
    let low = count_by-cons (λ m. ltb m label) n xs in
    let here = count_by-cons (λ m. label == m) n xs in
    omega (arith, ih, one, up, low, here)

-- TWO SEARCHES COUNT A LABEL
pub times-searches : (label : ℕ) (xs : List ℕ) (below up_to : ℕ) → below ≤ length xs → up_to ≤ length xs → IsPartitionPoint (λ n. ltb n label ≡ true) (λ n. ltb n label ≡ false) xs below → IsPartitionPoint (λ n. leb n label ≡ true) (λ n. leb n label ≡ false) xs up_to
    → (below ≤ up_to) × (up_to - below ≡ times_in xs label)
times-searches label xs below up_to in_below in_up_to low high =
    let a = count-partition (λ n. ltb n label) xs below in_below (λ k lt. low.0 k 0 (omega arith) lt) (λ k le lt. low.1 k 0 le lt) in
    let b = count-partition (λ n. leb n label) xs up_to in_up_to (λ k lt. high.0 k 0 (omega arith) lt) (λ k le lt. high.1 k 0 le lt) in
    let c = count-parted label xs in
    (omega (arith, a, b, c), omega (arith, a, b, c))

count_by-sum : (label : ℕ) (xs : List ℕ) → times_in xs label ≡ sum_by (λ n. cond (label == n) 1 0) xs
count_by-sum label xs = refl

pub times-permuted : (label : ℕ) (xs ys : List ℕ) → IsPermutation xs ys → times_in ys label ≡ times_in xs label
times-permuted label xs ys h = count_by-sum label ys ∙ (sum_by-IsPermutation (λ n. cond (label == n) 1 0) xs ys h ∙ sym (count_by-sum label xs))
