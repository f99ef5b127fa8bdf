-- Sizes of whole numbers.
use Rattle.std.proofs.Common.{◌≡◌, ℕ, zero, suc, ◌*◌, ◌<◌, pos, neg_ℤ, unsigned_abs, refl, arith}

-- The opposite of n has the size n.
pub abs_negative : (n : ℕ) → unsigned_abs (neg_ℤ (pos n)) ≡ n
abs_negative zero = refl
abs_negative (suc n) = refl

-- A factor of a number above 0 is above 0.
pub factor_positive : (q g b : ℕ) → q * g ≡ b → 0 < b → 0 < g
factor_positive q zero b e h = omega arith
factor_positive q (suc g) b e h = omega arith
