-- The labels of a text are below 1,000,000, so there are at most so many.
use Rattle.std.proofs.Common.{ℕ, zero, suc, ◌+◌, ◌≤◌, ◌==◌, Bool, true, false, cond, List, [], ◌∷◌, ◌++◌, length, filter, arith}
use Rattle.std.specs.List.{AllByRecursion, range_with_len}
use Rattle.std.specs.Set.{is_member}
use Rattle.text_shapes.specs.Tokens.{IsNumber}
use Rattle.planar_check.specs.Components.{greatest, distinct}
use Rattle.tetra_reader.specs.declared.item.TetraItem.{TetraItem}
use Rattle.tetra_reader.specs.declared.item.TetraItem.TheVariants as items
use Rattle.tetra_reader.specs.Tetras.{IsTextTetraItem, faces_of, tetrahedra_of}
use Rattle.tetra_sum.specs.Sums.{all_labels, text_labels}

kept_few : (p : ℕ → Bool) (a n : ℕ) → length (filter p (range_with_len a n)) ≤ n
kept_few p a zero = omega arith
kept_few p a (suc n) = by_test (p a) (kept_few p (a + 1) n)
  where
    by_test : (b : Bool) → length (filter p (range_with_len (a + 1) n)) ≤ n → length (cond b (a ∷ filter p (range_with_len (a + 1) n)) (filter p (range_with_len (a + 1) n))) ≤ suc n
    by_test true h = omega (arith, h)
    by_test false h = omega (arith, h)

few_distinct : (ls : List ℕ) → length (distinct ls) ≤ greatest ls + 1
unfolding distinct
few_distinct ls = kept_few (is_member ◌==◌ ls) 0 (greatest ls + 1)

numbers_and_more : (ns rest : List ℕ) → AllByRecursion IsNumber ns → greatest rest ≤ 999999 → greatest (ns ++ rest) ≤ 999999
numbers_and_more [] rest h k = k
numbers_and_more (n ∷ ns) rest h k = let ih = numbers_and_more ns rest h.1 k in let high = h.0.high in omega (arith, ih, high)

two_lists : (xs ys : List ℕ) → greatest xs ≤ 999999 → greatest ys ≤ 999999 → greatest (xs ++ ys) ≤ 999999
two_lists [] ys h k = k
two_lists (x ∷ xs) ys h k = let ih = two_lists xs ys (omega (arith, h)) k in omega (arith, ih, h)

face_labels_low : (vs : List TetraItem) → AllByRecursion IsTextTetraItem vs → greatest (all_labels (faces_of vs)) ≤ 999999
face_labels_low [] h = omega arith
face_labels_low (items.F labels ∷ vs) h = numbers_and_more labels (all_labels (faces_of vs)) h.0.are_numbers (face_labels_low vs h.1)
face_labels_low (items.T labels ∷ vs) h = face_labels_low vs h.1

tetrahedron_labels_low : (vs : List TetraItem) → AllByRecursion IsTextTetraItem vs → greatest (all_labels (tetrahedra_of vs)) ≤ 999999
tetrahedron_labels_low [] h = omega arith
tetrahedron_labels_low (items.T labels ∷ vs) h = numbers_and_more labels (all_labels (tetrahedra_of vs)) h.0.are_numbers (tetrahedron_labels_low vs h.1)
tetrahedron_labels_low (items.F labels ∷ vs) h = tetrahedron_labels_low vs h.1

-- THERE ARE FEW LABELS
pub few_labels : (vs : List TetraItem) → AllByRecursion IsTextTetraItem vs → length (text_labels vs) ≤ 1000000
few_labels vs spelled =
    let few = few_distinct (all_labels (faces_of vs) ++ all_labels (tetrahedra_of vs)) in
    let low = two_lists (all_labels (faces_of vs)) (all_labels (tetrahedra_of vs)) (face_labels_low vs spelled) (tetrahedron_labels_low vs spelled) in
    omega (arith, few, low)
