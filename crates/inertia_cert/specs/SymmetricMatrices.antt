-- Symmetric matrices of whole numbers of 128 bits. Rows and columns count from 0.
--
--     SquareMatrix               a size and the entries, rows one after the other
--     square size entries        the matrix of that size with those entries
--     entry matrix i j           the entry in row i and column j
--     IsSymmetricMatrix matrix   size at most 512, size times size entries, symmetric, none -2^127
--     IsFirstUnequal matrix i j  the first place by rows whose entry isn't the one with row and column exchanged
use Rattle.std.specs.Prelude.{◌≡◌, ℕ, ◌+◌, ◌*◌, ◌<◌, ◌≤◌, ℤ, pos, List, length, slice_index_or, IsTrue}
use Rattle.inertia_laws.specs.Range.{fits}

-- a size and the entries, rows one after the other
pub record SquareMatrix : Type 0 where
  pub size : ℕ
  pub entries : List ℤ

-- the matrix of that size with those entries
abbrev pub square : ℕ → List ℤ → SquareMatrix
square size entries = record { size = size; entries = entries }

-- the entry in row i and column j
abbrev pub entry : SquareMatrix → ℕ → ℕ → ℤ
entry matrix i j = slice_index_or matrix.entries (i * matrix.size + j) (pos 0)

-- no entry is -2^127
abbrev pub AllFit : List ℤ → Type 0
AllFit entries = (k : ℕ) → k < length entries → IsTrue (fits (slice_index_or entries k (pos 0)))

-- the entry in row i and column j is the one in row j and column i
abbrev pub IsEqualAcross : SquareMatrix → ℕ → ℕ → Type 0
IsEqualAcross matrix i j = entry matrix i j ≡ entry matrix j i

-- the first n entries of row i are those across
abbrev pub IsRowEqual : SquareMatrix → ℕ → ℕ → Type 0
IsRowEqual matrix i n = (j : ℕ) → j < n → IsEqualAcross matrix i j

-- the first n rows are as the columns across
abbrev pub AreRowsEqual : SquareMatrix → ℕ → Type 0
AreRowsEqual matrix n = (i : ℕ) → i < n → IsRowEqual matrix i matrix.size

-- what each matrix keeps
pub record IsSymmetricMatrix (matrix : SquareMatrix) : Type 0 where
  pub small : matrix.size ≤ 512
  pub full : length matrix.entries ≡ matrix.size * matrix.size
  pub symmetric : (i j : ℕ) → i < matrix.size → j < matrix.size → IsEqualAcross matrix i j
  pub fit : AllFit matrix.entries

-- the first place by rows at which it isn't symmetric
pub record IsFirstUnequal (matrix : SquareMatrix) (i j : ℕ) : Type 0 where
  pub row_in_range : i < matrix.size
  pub column_in_range : j < matrix.size
  pub unequal : ¬ IsEqualAcross matrix i j
  pub rows_before : AreRowsEqual matrix i
  pub columns_before : IsRowEqual matrix i j
