-- Sums of numbers, each of which may be refused.
--
--     result_plus x y        the sum of two, or the first refusal
--     result_sum each n      the sum of each 1 to each n, or the first refusal
use Rattle.std.specs.Prelude.{ℕ, zero, suc, ◌+◌, Result, Ok, Err}

abbrev pub result_plus : {E : Type 0} → Result ℕ E → Result ℕ E → Result ℕ E
result_plus (Ok x) (Ok y) = Ok (x + y)
result_plus (Ok x) (Err refusal) = Err refusal
result_plus (Err refusal) y = Err refusal

abbrev pub result_sum : {E : Type 0} → (ℕ → Result ℕ E) → ℕ → Result ℕ E
result_sum each zero = Ok 0
result_sum each (suc n) = result_plus (result_sum each n) (each (suc n))
