-- The relations of hooks, for at most eight strands, by computing products by labels.
use Rattle.std.proofs.Common.{◌≡◌, ℕ, ◌+◌, ◌-◌, Bool, true, ◌&&◌, ◌==◌, List, refl}
use Rattle.std.specs.List.{range_with_len, list_all}
use Rattle.std.specs.Str.{bytes_eq}
use Rattle.strand_algebra.proofs.LabelProducts.{label_product, label_loops, hooked_behind}

abbrev pub gives : ℕ → List ℕ → List ℕ → List ℕ → ℕ → Bool
gives n p q s k = bytes_eq (label_product n p q) s && label_loops n p q == k

abbrev pub squares : ℕ → Bool
squares n = list_all (λ i. gives n (hooked_behind n i) (hooked_behind n i) (hooked_behind n i) 1) (range_with_len 0 (n - 1))

-- e i, e j, e i, where j is next to i: the product of the first two has no loop, nor has that with the third
abbrev pub gives_first : ℕ → ℕ → ℕ → Bool
gives_first n i j =
    label_loops n (hooked_behind n i) (hooked_behind n j) == 0 && gives n (label_product n (hooked_behind n i) (hooked_behind n j)) (hooked_behind n i) (hooked_behind n i) 0

abbrev pub neighbours : ℕ → Bool
neighbours n = list_all (λ i. gives_first n i (i + 1) && gives_first n (i + 1) i) (range_with_len 0 (n - 2))

abbrev pub apart : ℕ → Bool
apart n = list_all (λ i. list_all (λ j. gives n (hooked_behind n j) (hooked_behind n i) (label_product n (hooked_behind n i) (hooked_behind n j)) 0 && label_loops n (hooked_behind n i) (hooked_behind n j) == 0) (range_with_len (i + 2) (n - 3 - i))) (range_with_len 0 (n - 3))

pub square_tests : list_all squares (range_with_len 0 9) ≡ true
square_tests = refl

pub neighbour_tests : list_all neighbours (range_with_len 0 9) ≡ true
neighbour_tests = refl

pub apart_tests : list_all apart (range_with_len 0 9) ≡ true
apart_tests = refl
