-- Lists told by how often each number stands in them.
--
--     IncreasingListsLaw     two increasing lists in which each number stands equally often are one
--     PermutedListsLaw       two lists in which each number stands equally often have the same numbers in some order
use Rattle.std.specs.Prelude.{◌≡◌, ℕ, List}
use Rattle.std.specs.List.Sorted.{IsStrictlyIncreasing, IsPermutation}
use Rattle.list_lemmas.specs.Times.{times_in}

abbrev pub IncreasingListsLaw : Type 0
IncreasingListsLaw =
    (xs ys : List ℕ) → IsStrictlyIncreasing xs → IsStrictlyIncreasing ys → ((x : ℕ) → times_in xs x ≡ times_in ys x) → xs ≡ ys

abbrev pub PermutedListsLaw : Type 0
PermutedListsLaw = (ys xs : List ℕ) → ((x : ℕ) → times_in xs x ≡ times_in ys x) → IsPermutation xs ys
