-- The products that a check computes column by column: a column of L P, and with it that column of P-transposed times L P.
--
--     AreImages n l p column count list    the first so many entries of the list are those of the column of L P, and fit
--     column_fits n l p column             the numbers of both columns fit
use Rattle.std.specs.Prelude.{◌≡◌, ℕ, ◌<◌, Bool, true, ◌&&◌, ℤ}
use Rattle.inertia_laws.specs.Fractions as logic
use Rattle.inertia_laws.specs.Range.{every}
use Rattle.inertia_laws.specs.Checking.{image_entry, image_fits, congruence_fits}

pub record AreImages (n : ℕ) (l : ℕ → ℕ → ℤ) (p : ℕ → ℕ → logic.Fraction) (column count : ℕ) (list : ℕ → logic.Fraction) : Type 0 where
  pub fit : every count (λ k. image_fits n l p k column) ≡ true
  pub are : (k : ℕ) → k < count → list k ≡ image_entry n l p k column

abbrev pub column_fits : ℕ → (ℕ → ℕ → ℤ) → (ℕ → ℕ → logic.Fraction) → ℕ → Bool
column_fits n l p column = every n (λ k. image_fits n l p k column) && every n (λ i. congruence_fits n l p i column)
