-- Steps of the loops over terms and nodes, and what a permutation of names keeps.
--
--     all_read          P of one more element, as a loop reads it
--     none_misfits      where no term is a misfit, all fit
--     twice_permuted, miscount_permuted    how often names stand doesn't hang on their order
use Rattle.std.proofs.Common.{◌≡◌, ℕ, ◌+◌, ◌<◌, ◌==◌, Bool, true, false, not, cond, Some, None, List, [], ◌∷◌, length, take, get_or, All, IsPermutation, refl, sym, ◌∙◌, subst, arith}
use Rattle.std.specs.List.{position_from}
use Rattle.std.proofs.lemmas.Bool.Decides.{nat_tests}
use Rattle.std.proofs.lemmas.List.Elements.{All-nil, All-cons, All-more}
use Rattle.std.proofs.lemmas.Iterator.Adapters.{position_from-zero}
use Rattle.std.proofs.lemmas.List.Sorted.{list_any-IsPermutation, sum_by-IsPermutation}
use Rattle.state_sums.specs.Networks.{Term}
use Rattle.arc_pairing.specs.Counts.{StandsTwice, IsLeastMiscount}
use Rattle.arc_pairing.specs.Nodes.{first_misfit}

pub all_read : {X : Type 0} (P : X → Type 0) (xs : List X) (i : ℕ) (x : X) → i < length xs → x ≡ get_or xs i x → All P (take i xs) → P x → All P (take (i + 1) xs)
all_read P xs i x l e a p = All-more P xs i x l a (subst P e p)

pub twice_permuted : (xs ys : List ℕ) (x : ℕ) → IsPermutation xs ys → StandsTwice ys x → StandsTwice xs x
twice_permuted xs ys x p h m =
    sym (sum_by-IsPermutation (λ z. cond (x == z) 1 0) xs ys p) ∙ h (sym (list_any-IsPermutation (◌==◌ x) xs ys p) ∙ m)

pub miscount_permuted : (xs ys : List ℕ) (name count : ℕ) → IsPermutation xs ys → IsLeastMiscount ys name count → IsLeastMiscount xs name count
miscount_permuted xs ys name count p h = record {
  stands = h.stands;
  times = sym (sum_by-IsPermutation (λ z. cond (name == z) 1 0) xs ys p) ∙ h.times;
  not_twice = h.not_twice;
  least = λ x lt. twice_permuted xs ys x p (h.least x lt);
}

none_passes : {X : Type 0} (test : X → Bool) (i : ℕ) (xs : List X) → position_from test i xs ≡ None → All (λ x. test x ≡ false) xs
none_passes test i [] h = All-nil (λ x. test x ≡ false)
none_passes test i (x ∷ xs) h =
    elim (test x) as (λ b. test x ≡ b → cond b (Some i) (position_from test (i + 1) xs) ≡ None → All (λ x. test x ≡ false) (x ∷ xs)) [
      | true ↦ λ e k. absurd (cc)
      | false ↦ λ e k. All-cons (λ x. test x ≡ false) x xs e (none_passes test (i + 1) xs k)
    ] refl h

-- WHERE NO TERM IS A MISFIT, ALL FIT
pub none_misfits : (ends : ℕ) (terms : List Term) → first_misfit ends terms ≡ None → All (λ term. length term.partner ≡ ends) terms
none_misfits ends terms h i d l =
    let test : Term → Bool = λ term. not (length term.partner == ends) in
    let e = none_passes test 0 terms (sym (position_from-zero test terms) ∙ h) i d l in
    grind (arith, nat_tests, e)
