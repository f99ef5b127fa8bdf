-- Linear equations in whole numbers whose right sides are 0. An equation is its row of coefficients.
--
--     Solves n x rows      the vector x of n numbers meets each equation
--     Solution n rows      a solution other than zero, with a place where it isn't 0
use Rattle.std.specs.Prelude.{◌≡◌, ℕ, ◌<◌, List, [], ◌∷◌, ℤ, pos, false}
use Rattle.inertia_laws.specs.Matrices.{is_zero, dot}

-- x meets each equation
abbrev pub Solves : ℕ → (ℕ → ℤ) → List (ℕ → ℤ) → Type 0
Solves n x [] = Unit {0}
Solves n x (row ∷ rows) = (dot n row x ≡ pos 0) × Solves n x rows

-- a solution other than zero
pub record Solution (n : ℕ) (rows : List (ℕ → ℤ)) : Type 0 where
  pub x : ℕ → ℤ
  pub place : ℕ
  pub within : place < n
  pub not_zero : is_zero (x place) ≡ false
  pub solves : Solves n x rows
