-- What the coefficients of a step are made with.
--
--     LoopPowers       the modulus, and what a loop is worth
use Rattle.std.specs.Prelude.{ℕ}

-- The modulus, and what a loop is worth.
pub record LoopPowers : Type 0 where
  pub modulus : ℕ
  pub delta : ℕ
