-- Powers of whole numbers, inverses of residues and their orders. (Standard; the words are this project's own.)
--
--     power z n            z to the power n; with exponent 0 it is 1
--     sign n               (-1)^n
--     signed_power x y t   x to the power t, where y stands for the inverse of x: for a negative t it is
--                          y to the power -t
--     IsInverse m x y      x y is 1 modulo m: 2 and 21 for m = 41
--     IsUnity m x t        x^t is 1 modulo m
--     IsOrder m x t        t is the least number of at least 1 with x^t = 1 modulo m: 20 for x = 2 and m = 41
--     IsOrderUpTo m x n o  o is that number where it is at most n, and None where it isn't
--     order_up_to m x n    that o, by trying each exponent: it computes at small numbers
use Rattle.std.specs.Prelude.{◌≡◌, ℕ, zero, suc, ◌<◌, ◌≤◌, ℤ, pos, negsuc, ◌*ℤ◌, neg_ℤ, Option, Some, None, MatchOption, ◌==◌, if◌then◌else◌}
use Rattle.std.specs.Option.{option_or}
use Rattle.ring_identities.specs.Residues.{residue}

-- z to the power n
unfoldable pub power : ℤ → ℕ → ℤ
power z zero = pos 1
power z (suc n) = z *ℤ power z n

-- (-1)^n
abbrev pub sign : ℕ → ℤ
sign n = power (neg_ℤ (pos 1)) n

-- x to the power t, where y stands for the inverse of x
unfoldable pub signed_power : ℤ → ℤ → ℤ → ℤ
signed_power x y (pos t) = power x t
signed_power x y (negsuc t) = power y (suc t)

-- x times y is 1 modulo m
abbrev pub IsInverse : ℕ → ℕ → ℕ → Type 0
IsInverse m x y = residue m (pos x *ℤ pos y) ≡ 1

-- x to the power t is 1 modulo m
abbrev pub IsUnity : ℕ → ℕ → ℕ → Type 0
IsUnity m x t = residue m (power (pos x) t) ≡ 1

-- t is the least number of at least 1 with x^t = 1 modulo m
pub record IsOrder (m x t : ℕ) : Type 0 where
  pub positive : 1 ≤ t
  pub unity : IsUnity m x t
  pub least : (s : ℕ) → 1 ≤ s → s < t → ¬ IsUnity m x s

-- the least t from 1 to limit with x^t = 1 modulo m, or None where there is none
abbrev pub IsOrderUpTo : ℕ → ℕ → ℕ → Option ℕ → Type 0
IsOrderUpTo m x limit found =
    MatchOption found ((t : ℕ) → 1 ≤ t → t ≤ limit → ¬ IsUnity m x t) (λ t. (t ≤ limit) × IsOrder m x t)

-- the same, by trying each exponent
unfoldable pub order_up_to : ℕ → ℕ → ℕ → Option ℕ
order_up_to m x zero = None
order_up_to m x (suc n) =
    option_or (order_up_to m x n) (if residue m (power (pos x) (suc n)) == 1 then Some (suc n) else None)
