-- Certificates of the inertia of a symmetric matrix L of whole numbers: fractions P, Q and a diagonal, with P Q the
-- identity and P-transposed times L times P that diagonal. Both equations are those of whole numbers that arise when all
-- denominators are multiplied out. By Sylvester's law the signs of the diagonal depend on L alone.
--
--     identity                       the matrix with 1 on the diagonal and 0 elsewhere
--     IsCertificate n l p q d        p, q and the diagonal d certify the inertia of l, of size n
--     positives n d, negatives n d, zeros n d    the counts of a diagonal of n fractions
--     bordered n e a                 the matrix a of size n with one more place, e on its diagonal and 0 elsewhere
use Rattle.std.specs.Prelude.{◌≡◌, ℕ, ◌<◌, true, ◌==◌, if◌then◌else◌, ℤ, pos}
use Rattle.inertia_laws.specs.Matrices.{count, is_positive, is_negative, is_zero}
use Rattle.inertia_laws.specs.Fractions.{Fraction, whole, AreEqual, multiply, total_fraction}

-- 1 on the diagonal and 0 elsewhere
abbrev pub identity : ℕ → ℕ → Fraction
identity i j = if i == j then whole (pos 1) else whole (pos 0)

-- P Q is the identity, and P-transposed times L times P is the diagonal
pub record IsCertificate (n : ℕ) (l : ℕ → ℕ → ℤ) (p q : ℕ → ℕ → Fraction) (diagonal : ℕ → Fraction) : Type 0 where
  pub positive_p : (i j : ℕ) → i < n → j < n → is_positive (p i j).den ≡ true
  pub positive_q : (i j : ℕ) → i < n → j < n → is_positive (q i j).den ≡ true
  pub positive_diagonal : (i : ℕ) → i < n → is_positive (diagonal i).den ≡ true
  pub inverse : (i j : ℕ) → i < n → j < n → AreEqual (total_fraction n (λ k. multiply (p i k) (q k j))) (identity i j)
  pub congruence : (i j : ℕ) → i < n → j < n →
      AreEqual (total_fraction n (λ a. multiply (p a i) (total_fraction n (λ b. multiply (whole (l a b)) (p b j))))) (if i == j then diagonal i else whole (pos 0))

-- how many entries of the diagonal are above 0
abbrev pub positives : ℕ → (ℕ → Fraction) → ℕ
positives n d = count n (λ i. is_positive (d i).num)

-- how many are below 0
abbrev pub negatives : ℕ → (ℕ → Fraction) → ℕ
negatives n d = count n (λ i. is_negative (d i).num)

-- how many are 0
abbrev pub zeros : ℕ → (ℕ → Fraction) → ℕ
zeros n d = count n (λ i. is_zero (d i).num)

-- a below n in both places, e at n in both, and 0 elsewhere
abbrev pub bordered : ℕ → ℤ → (ℕ → ℕ → ℤ) → ℕ → ℕ → ℤ
bordered n e a i j = if i == n then (if j == n then e else pos 0) else if j == n then pos 0 else a i j
