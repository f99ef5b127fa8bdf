-- Where the elimination leaves 128 bits. For each entry that a move computes there is a test whether the numbers that it
-- forms fit; a step fits where all of these do. Steps are counted from 1 in what is refused.
--
--     fits z                      z is at most 2^127 - 1 in size
--     add_fits, subtract_fits, multiply_fits, divide_fits    what one operation on fractions forms
--     every n test                all places below n pass
--     every_place n test          all places of a matrix of size n pass
--     step_fits n k s             all numbers of step k, from 0, fit
--     first_leaving n l           the first step, from 1, that forms a number that doesn't fit; for the rows t,1,1; 1,t,0;
--                                 1,0,t with t = 2^60 it is 2
use Rattle.std.specs.Prelude.{ℕ, zero, suc, pred, ◌-◌, ◌==◌, ◌^◌, Bool, true, not, ◌&&◌, ◌||◌, nat_lt, ℤ, ◌+ℤ◌, ◌-ℤ◌, ◌*ℤ◌, Option, Some, None}
use Rattle.std.specs.Int.RustNames.{unsigned_abs}
use Rattle.inertia_laws.specs.Matrices.{is_zero}
use Rattle.inertia_laws.specs.Fractions.{Fraction, times, ratio}
use Rattle.inertia_laws.specs.Elimination.{State, is_met, is_cleared, gathered, add_column, prepared, steps, first_from, start}

-- at most 2^127 - 1 in size
abbrev pub fits : ℤ → Bool
fits z = nat_lt (unsigned_abs z) (2 ^ 127)

-- ---- what one operation forms
abbrev pub add_fits : Fraction → Fraction → Bool
add_fits x y = fits (x.num *ℤ y.den) && fits (y.num *ℤ x.den) && fits (x.num *ℤ y.den +ℤ y.num *ℤ x.den) && fits (x.den *ℤ y.den)

abbrev pub subtract_fits : Fraction → Fraction → Bool
subtract_fits x y = fits (x.num *ℤ y.den) && fits (y.num *ℤ x.den) && fits (x.num *ℤ y.den -ℤ y.num *ℤ x.den) && fits (x.den *ℤ y.den)

abbrev pub multiply_fits : Fraction → Fraction → Bool
multiply_fits x y = fits (x.num *ℤ y.num) && fits (x.den *ℤ y.den)

abbrev pub divide_fits : Fraction → Fraction → Bool
divide_fits x y = fits (x.num *ℤ y.den) && fits (x.den *ℤ y.num)

-- ---- places
-- all places below n pass
abbrev pub every : ℕ → (ℕ → Bool) → Bool
every zero test = true
every (suc n) test = every n test && test n

-- all places of a matrix of size n pass
abbrev pub every_place : ℕ → (ℕ → ℕ → Bool) → Bool
every_place n test = every n (λ a. every n (test a))

-- ---- part 2: the entries that are sums or differences
abbrev pub add_column_fits : ℕ → ℕ → (ℕ → ℕ → Fraction) → ℕ → ℕ → Bool
add_column_fits k j m a b = not (b == k) || add_fits (m a k) (m a j)

abbrev pub add_row_fits : ℕ → ℕ → (ℕ → ℕ → Fraction) → ℕ → ℕ → Bool
add_row_fits k j m a b = not (a == k) || add_fits (m k b) (m j b)

abbrev pub take_row_fits : ℕ → ℕ → (ℕ → ℕ → Fraction) → ℕ → ℕ → Bool
take_row_fits k j m a b = not (a == j) || subtract_fits (m j b) (m k b)

-- M's columns and then its rows, P's columns, Q's rows
abbrev pub add_place_fits : ℕ → ℕ → ℕ → State → Bool
add_place_fits n k j s =
    every_place n (add_column_fits k j s.m)
    && every_place n (add_row_fits k j (add_column k j s.m))
    && every_place n (add_column_fits k j s.p)
    && every_place n (take_row_fits k j s.q)

-- ---- part 4: the entries of M, those of P, and row k of Q, each with the quotients rho that it takes
abbrev pub clear_matrix_fits : ℕ → (ℕ → ℕ → Fraction) → ℕ → ℕ → Bool
clear_matrix_fits k m a b =
    not (is_cleared k m b && is_met k m a)
    || (divide_fits (m k b) (m k k)
    && (multiply_fits (m a k) (ratio (m k b) (m k k)) && subtract_fits (m a b) (times (m a k) (ratio (m k b) (m k k)))))

abbrev pub clear_columns_fits : ℕ → (ℕ → ℕ → Fraction) → (ℕ → ℕ → Fraction) → ℕ → ℕ → Bool
clear_columns_fits k m p a b =
    not (is_cleared k m b)
    || (divide_fits (m k b) (m k k)
    && (multiply_fits (ratio (m k b) (m k k)) (p a k) && subtract_fits (p a b) (times (ratio (m k b) (m k k)) (p a k))))

-- the row of Q with the place j added, and with all places below n
abbrev pub gather_place_fits : ℕ → (ℕ → ℕ → Fraction) → (ℕ → ℕ → Fraction) → ℕ → ℕ → Bool
gather_place_fits k m q b j =
    not (is_cleared k m j)
    || (divide_fits (m k j) (m k k)
    && (multiply_fits (ratio (m k j) (m k k)) (q j b) && add_fits (gathered k m q b j) (times (ratio (m k j) (m k k)) (q j b))))

abbrev pub gather_fits : ℕ → ℕ → (ℕ → ℕ → Fraction) → (ℕ → ℕ → Fraction) → ℕ → ℕ → Bool
gather_fits n k m q a b = not (a == k) || every n (gather_place_fits k m q b)

abbrev pub clear_fits : ℕ → ℕ → State → Bool
clear_fits n k s =
    every_place n (clear_matrix_fits k s.m)
    && every_place n (clear_columns_fits k s.m s.p)
    && every_place n (gather_fits n k s.m s.q)

-- ---- steps
abbrev pub added_fits : ℕ → ℕ → State → Option ℕ → Bool
added_fits n k s None = true
added_fits n k s (Some j) = add_place_fits n k j s

abbrev pub exchanged_fits : ℕ → ℕ → State → Option ℕ → Bool
exchanged_fits n k s (Some j) = true
exchanged_fits n k s None = added_fits n k s (first_from (n - suc k) (suc k) (λ j. not (is_zero (s.m k j).num)))

-- parts 1 and 2
abbrev pub prepared_fits : ℕ → ℕ → State → Bool
prepared_fits n k s =
    not (is_zero (s.m k k).num) || exchanged_fits n k s (first_from (n - suc k) (suc k) (λ j. not (is_zero (s.m j j).num)))

-- parts 3 and 4
abbrev pub finished_fits : ℕ → ℕ → State → Bool
finished_fits n k s = is_zero (s.m k k).num || clear_fits n k s

-- whether each number that step k forms, from the state before it, fits
abbrev pub step_fits : ℕ → ℕ → State → Bool
step_fits n k s = prepared_fits n k s && finished_fits n k (prepared n k s)

-- the first step that leaves 128 bits, counted from 1
abbrev pub first_leaving : ℕ → (ℕ → ℕ → ℤ) → Option ℕ
first_leaving n l = first_from n 1 (λ k. not (step_fits n (pred k) (steps n (pred k) (start l))))
