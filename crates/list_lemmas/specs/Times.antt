-- How often a number stands in a list: 2 for 4 in 4,1,4, and 0 for 7.
--
--     times_in xs x        how often x stands in xs
use Rattle.std.specs.Prelude.{ℕ, ◌==◌, List}
use Rattle.std.specs.List.{count_by}

-- How often the number stands in the list.
abbrev pub times_in : List ℕ → ℕ → ℕ
times_in xs x = count_by (λ y. x == y) xs
