-- Counts of faults. A source or a sink counts its faults. The count never falls, and since it is
-- kept in 64 bits it stops at 2^64 - 1: there a further fault leaves it as it is. So a count rose
-- where it is at least one more than before, or stands at its end. This project's own.
--
--     one_more count        the count after one more
--     Rose before now       a fault came between the two counts
--
-- Rose 3 4 and Rose 3 7 hold, and Rose 3 3 doesn't; Rose (2 ^ 64 - 1) (2 ^ 64 - 1) holds.
use Rattle.std.specs.Prelude.{ℕ, ◌+◌, ◌-◌, ◌^◌, ◌≤◌, min}

-- the count after one more, which stops at its end
abbrev pub one_more : ℕ → ℕ
one_more count = min (count + 1) (2 ^ 64 - 1)

-- the count is at least one more, or has come to its end
abbrev pub Rose : ℕ → ℕ → Type 0
Rose before now = one_more before ≤ now
