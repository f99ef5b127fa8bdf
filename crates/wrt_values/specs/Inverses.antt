-- Which projectors are wanting, as a value: the first of Delta_1 to Delta_(n-1) that shares a factor with the modulus.
-- (Lickorish, ch. 13, for the projectors; the rest is this project's own.)
--
--     shares_factor p k      Delta_k has a factor above 1 in common with the modulus
--     inverses p n           nothing, where none of Delta_1 to Delta_(n-1) does; or the refusal for the first that does
--
-- At 1009, 192, 3 all colours up to 2 have projectors.
use Rattle.std.specs.Prelude.{ℕ, ◌-◌, ◌==◌, not, Bool, find, Option, Some, None, Result, Ok, Err}
use Rattle.std.specs.List.{range_with_len}
use Rattle.inertia_laws.specs.Fractions.{gcd}
use Rattle.root_quantum.specs.Parameters.{Parameters}
use Rattle.root_quantum.specs.QuantumNumbers.{delta}
use Rattle.wrt_values.specs.declared.fault.ValueRefusal.{ValueRefusal}
use Rattle.wrt_values.specs.declared.fault.ValueRefusal.TheVariants.{NoInverse}

-- Delta_k has a factor above 1 in common with the modulus.
abbrev pub shares_factor : Parameters → ℕ → Bool
shares_factor p k = not (gcd (delta p k) p.modulus == 1)

-- No index is the first, or one is: its refusal names the greatest common divisor.
abbrev pub against_index : Parameters → Option ℕ → Result (Unit {0}) ValueRefusal
against_index p None = Ok tt
against_index p (Some k) = Err (NoInverse k (gcd (delta p k) p.modulus))

-- None of Delta_1 to Delta_(n-1) shares a factor, or the refusal for the first that does.
abbrev pub inverses : Parameters → ℕ → Result (Unit {0}) ValueRefusal
inverses p n = against_index p (find (shares_factor p) (range_with_len 1 (n - 1)))
