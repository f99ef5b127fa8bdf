-- Where a projector exists: exactly where none of Delta_1 to Delta_(n-1) shares a factor with m.
--
--     AreCoprime p n                       none of them does
--     IsFirstCommon p n index common       Delta_index is the first that does, and common the greatest common divisor
use Rattle.std.specs.Prelude.{◌≢◌, ℕ, ◌<◌}
use Rattle.std.specs.Int.{IsGcd}
use Rattle.root_quantum.specs.Parameters.{Parameters}
use Rattle.root_quantum.specs.QuantumNumbers.{delta}

-- None of Delta_1 to Delta_(n-1) shares a factor with m.
abbrev pub AreCoprime : Parameters → ℕ → Type 0
AreCoprime p n = (k : ℕ) → 0 < k → k < n → IsGcd (delta p k) p.modulus 1

-- The first of Delta_1 to Delta_(n-1) that shares a factor with m, and the greatest one.
pub record IsFirstCommon (p : Parameters) (n index common : ℕ) : Type 0 where
  pub above : 0 < index
  pub below : index < n
  pub divisor : IsGcd (delta p index) p.modulus common
  pub shared : common ≢ 1
  pub before : AreCoprime p index
