-- What a ring keeps beside its modulus m, so that a product is reduced with no division.
--
--     shift_of m           the exponent of the greatest power of 2 up to m: 5 for 41
--     reciprocal_of m      4 K^2 / m for that power K: 99 for 41
--     estimate s v p       the quotient of p by m, too small by at most 2, from that exponent and reciprocal
--     EstimateBounds       what it keeps within, for p below m^2
use Rattle.std.specs.Prelude.{ℕ, ◌+◌, ◌-◌, ◌*◌, ◌/◌, ◌^◌, ◌<◌, ◌≤◌}
use Rattle.std.specs.Int.{leading_zeros, w64}

unfoldable pub shift_of : ℕ → ℕ
shift_of m = 63 - leading_zeros w64 m

unfoldable pub reciprocal_of : ℕ → ℕ
reciprocal_of m = 2 ^ (2 * shift_of m + 2) / m

-- the quotient's estimate
abbrev pub estimate : ℕ → ℕ → ℕ → ℕ
estimate shift reciprocal p = p / 2 ^ shift * reciprocal / 2 ^ (shift + 2)

pub record EstimateBounds (m shift reciprocal p : ℕ) : Type 0 where
  pub modulus_small : m < 2 ^ 62
  pub shift_small : shift ≤ 61
  pub top_small : p / 2 ^ shift < 2 ^ 63
  pub reciprocal_small : reciprocal ≤ 2 ^ 63
  pub product_small : p / 2 ^ shift * reciprocal < 2 ^ 128
  pub estimate_small : estimate shift reciprocal p < 2 ^ 62
  pub low : estimate shift reciprocal p * m ≤ p
  pub high : p < estimate shift reciprocal p * m + 3 * m
