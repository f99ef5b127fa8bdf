-- Certificates of inertia over whole numbers, up to factors: what a certificate of fractions becomes when each matrix is
-- brought over one denominator. (This project's own.)
--
--     Diagonalises n l p q d     P Q is a multiple of the identity, and P-transposed L P one of the diagonal d
--     positive_count n d, negative_count n d, zero_count n d    the counts of a diagonal of n whole numbers
use Rattle.std.specs.Prelude.{◌≡◌, ℕ, ◌<◌, true, false, ℤ, ◌*ℤ◌}
use Rattle.inertia_laws.specs.Matrices.{single, transpose, product, is_positive, is_negative, is_zero, count}

-- P Q is a multiple of the identity, and P-transposed times L times P is, up to a positive factor, the diagonal
pub record Diagonalises (n : ℕ) (l p q : ℕ → ℕ → ℤ) (diagonal : ℕ → ℤ) : Type 0 where
  pub side : ℤ
  pub side_not_zero : is_zero side ≡ false
  pub inverse : (i j : ℕ) → i < n → j < n → product n p q i j ≡ single i side j
  pub from : ℤ
  pub from_positive : is_positive from ≡ true
  pub to : ℤ
  pub to_positive : is_positive to ≡ true
  pub congruence : (i j : ℕ) → i < n → j < n → from *ℤ product n (transpose p) (product n l p) i j ≡ single i (to *ℤ diagonal i) j

abbrev pub positive_count : ℕ → (ℕ → ℤ) → ℕ
positive_count n d = count n (λ i. is_positive (d i))

abbrev pub negative_count : ℕ → (ℕ → ℤ) → ℕ
negative_count n d = count n (λ i. is_negative (d i))

abbrev pub zero_count : ℕ → (ℕ → ℤ) → ℕ
zero_count n d = count n (λ i. is_zero (d i))
