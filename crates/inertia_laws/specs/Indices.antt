-- The indices of inertia of a symmetric matrix of whole numbers: how many places of the diagonal that the elimination ends
-- with are above 0, below 0 and 0. Over the reals they are the numbers of positive, negative and zero eigenvalues. (Standard;
-- in surgery they are written b+ and b-.) Every certificate of the matrix has these counts.
--
--     positive_index n l, negative_index n l, nullity n l    b+, b- and the number of zeros
--     IsSameBelow n l m          the same entries below n
--     IsInverse n c d            c times d is the identity, in whole numbers
--     IsCongruent n l c m        m is c-transposed times l times c
--     HaveSameCounts n d e, HaveSameIndices n l m    two diagonals, two matrices
--     AreIndices n l d           the counts of a diagonal are the indices of l
--
-- The matrix of rows 0,1; 1,0 has the indices 1, 1 and 0.
use Rattle.std.specs.Prelude.{◌≡◌, ℕ, ◌<◌, ℤ, pos}
use Rattle.inertia_laws.specs.Matrices.{single, transpose, product}
use Rattle.inertia_laws.specs.Fractions.{Fraction}
use Rattle.inertia_laws.specs.Certificates.{positives, negatives, zeros}
use Rattle.inertia_laws.specs.Elimination.{eliminated}

-- the diagonal at the end of the elimination
abbrev pub final_diagonal : ℕ → (ℕ → ℕ → ℤ) → ℕ → Fraction
final_diagonal n l i = (eliminated n l).m i i

-- b+
unfoldable pub positive_index : ℕ → (ℕ → ℕ → ℤ) → ℕ
positive_index n l = positives n (final_diagonal n l)

-- b-
unfoldable pub negative_index : ℕ → (ℕ → ℕ → ℤ) → ℕ
negative_index n l = negatives n (final_diagonal n l)

unfoldable pub nullity : ℕ → (ℕ → ℕ → ℤ) → ℕ
nullity n l = zeros n (final_diagonal n l)

-- the same entries below n
abbrev pub IsSameBelow : ℕ → (ℕ → ℕ → ℤ) → (ℕ → ℕ → ℤ) → Type 0
IsSameBelow n l m = (i j : ℕ) → i < n → j < n → l i j ≡ m i j

-- c times d is the identity
abbrev pub IsInverse : ℕ → (ℕ → ℕ → ℤ) → (ℕ → ℕ → ℤ) → Type 0
IsInverse n c d = (i j : ℕ) → i < n → j < n → product n c d i j ≡ single i (pos 1) j

-- m is c-transposed times l times c
abbrev pub IsCongruent : ℕ → (ℕ → ℕ → ℤ) → (ℕ → ℕ → ℤ) → (ℕ → ℕ → ℤ) → Type 0
IsCongruent n l c m = (i j : ℕ) → i < n → j < n → m i j ≡ product n (transpose c) (product n l c) i j

-- the diagonals d and e have the same counts
pub record HaveSameCounts (n : ℕ) (d e : ℕ → Fraction) : Type 0 where
  pub positive : positives n d ≡ positives n e
  pub negative : negatives n d ≡ negatives n e
  pub zero : zeros n d ≡ zeros n e

-- the counts of the diagonal d are the indices of l
pub record AreIndices (n : ℕ) (l : ℕ → ℕ → ℤ) (d : ℕ → Fraction) : Type 0 where
  pub positive : positives n d ≡ positive_index n l
  pub negative : negatives n d ≡ negative_index n l
  pub zero : zeros n d ≡ nullity n l

-- the matrices l and m have the same indices
pub record HaveSameIndices (n : ℕ) (l m : ℕ → ℕ → ℤ) : Type 0 where
  pub positive : positive_index n l ≡ positive_index n m
  pub negative : negative_index n l ≡ negative_index n m
  pub zero : nullity n l ≡ nullity n m
