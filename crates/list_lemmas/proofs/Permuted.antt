-- Lists in which each number stands equally often have the same numbers in some order: the first number of one is taken out
-- of the other, and so on.
use Rattle.std.proofs.Common.{◌==◌, cond, [], ◌∷◌, sym, ◌∙◌, arith}
use Rattle.std.specs.List.{remove}
use Rattle.std.proofs.lemmas.Bool.Decides.{nat_tests}
use Rattle.std.proofs.lemmas.List.{get_or_default}
use Rattle.std.proofs.lemmas.List.Sorted.{IsPermutation-cons, IsPermutation-refl, IsPermutation-remove, IsPermutation-trans, sum_by-IsPermutation}
use Rattle.list_lemmas.specs.Laws.{PermutedListsLaw}
use Rattle.list_lemmas.proofs.Items.{member_at}
use Rattle.list_lemmas.proofs.Times.{times_in-cons, member_of_times}

-- LISTS IN WHICH EACH NUMBER STANDS EQUALLY OFTEN ARE PERMUTED
pub permuted_times : PermutedListsLaw
permuted_times [] [] same = IsPermutation-refl []
permuted_times [] (x ∷ xs) same = let e = same x in let a = times_in-cons x xs x in absurd (grind (arith, nat_tests, e, a))
permuted_times (y ∷ ys) xs same =
    let a = times_in-cons y ys y in
    let e = same y in
    let at = member_at xs y (member_of_times y xs (grind (arith, nat_tests, a, e))) in
    let first = IsPermutation-remove xs at.0 y at.1 (sym (get_or_default xs at.0 y 0 at.1 ∙ at.2)) in
    let rest = permuted_times ys (remove xs at.0) (λ z.
    let b = sum_by-IsPermutation (λ w. cond (z == w) 1 0) xs (y ∷ remove xs at.0) first in
    let c = times_in-cons y (remove xs at.0) z in let d = times_in-cons y ys z in let f = same z in omega (arith, b, c, d, f)) in
    IsPermutation-trans xs (y ∷ remove xs at.0) (y ∷ ys) first (IsPermutation-cons y (remove xs at.0) ys rest)
