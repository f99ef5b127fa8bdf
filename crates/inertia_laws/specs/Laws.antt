-- Laws of inertia, for matrices of any size and fractions of any size.
--
--     EliminationCertifies     the elimination of a symmetric matrix gives a certificate of its inertia
--     SylvesterLaw             any two certificates of one matrix have the same counts (Sylvester)
--     BorderCounts             one more place with e on the diagonal raises the count of e's sign by one
--     EquationsSolvable        fewer equations than unknowns, right sides 0, have a solution other than zero
--     LowestTerms              a reduced fraction is in lowest terms and has the same value
--     CertificateIndices       each certificate of a symmetric matrix has the matrix's indices as its counts
--     SizeAlone                certificates and the elimination depend on the entries below the size alone
--     CongruenceLaw            congruent matrices have certificates with the same counts, and the same indices
use Rattle.std.specs.Prelude.{◌≡◌, ℕ, suc, ◌+◌, ◌<◌, true, if◌then◌else◌, List, length, ℤ}
use Rattle.std.specs.Int.{IsGcd}
use Rattle.std.specs.Int.RustNames.{unsigned_abs}
use Rattle.inertia_laws.specs.Matrices.{is_positive, is_negative, is_zero}
use Rattle.inertia_laws.specs.Fractions.{Fraction, AreEqual, reduce}
use Rattle.inertia_laws.specs.Equations.{Solution}
use Rattle.inertia_laws.specs.Certificates.{IsCertificate, positives, negatives, zeros, bordered}
use Rattle.inertia_laws.specs.Elimination.{eliminated}
use Rattle.inertia_laws.specs.Agreement.{AgreeAll}
use Rattle.inertia_laws.specs.Range.{first_leaving}
use Rattle.inertia_laws.specs.Indices.{IsSameBelow, IsInverse, IsCongruent, AreIndices, HaveSameCounts, HaveSameIndices}

-- the matrix l of size n is symmetric
abbrev pub IsSymmetric : ℕ → (ℕ → ℕ → ℤ) → Type 0
IsSymmetric n l = (i j : ℕ) → i < n → j < n → l i j ≡ l j i

abbrev pub EliminationCertifies : Type 0
EliminationCertifies =
    (n : ℕ) (l : ℕ → ℕ → ℤ) → IsSymmetric n l → IsCertificate n l (eliminated n l).p (eliminated n l).q (λ i. (eliminated n l).m i i)

abbrev pub SylvesterLaw : Type 0
SylvesterLaw =
    (n : ℕ) (l : ℕ → ℕ → ℤ) (p q : ℕ → ℕ → Fraction) (d : ℕ → Fraction) (p' q' : ℕ → ℕ → Fraction) (d' : ℕ → Fraction) →
    IsCertificate n l p q d → IsCertificate n l p' q' d' →
    (positives n d ≡ positives n d') × (negatives n d ≡ negatives n d') × (zeros n d ≡ zeros n d')

abbrev pub BorderCounts : Type 0
BorderCounts =
    (n : ℕ) (l : ℕ → ℕ → ℤ) (e : ℤ) (p q : ℕ → ℕ → Fraction) (d : ℕ → Fraction) (p' q' : ℕ → ℕ → Fraction) (d' : ℕ → Fraction) →
    IsCertificate n l p q d → IsCertificate (suc n) (bordered n e l) p' q' d' →
    (positives (suc n) d' ≡ positives n d + (if is_positive e then 1 else 0))
    × (negatives (suc n) d' ≡ negatives n d + (if is_negative e then 1 else 0))
    × (zeros (suc n) d' ≡ zeros n d + (if is_zero e then 1 else 0))

abbrev pub EquationsSolvable : Type 0
EquationsSolvable = (n : ℕ) (rows : List (ℕ → ℤ)) → length rows < n → Solution n rows

abbrev pub LowestTerms : Type 0
LowestTerms = (x : Fraction) → is_positive x.den ≡ true →
    IsGcd (unsigned_abs (reduce x).num) (unsigned_abs (reduce x).den) 1 × AreEqual (reduce x) x

abbrev pub CertificateIndices : Type 0
CertificateIndices =
    (n : ℕ) (l : ℕ → ℕ → ℤ) (p q : ℕ → ℕ → Fraction) (d : ℕ → Fraction) → IsSymmetric n l → IsCertificate n l p q d → AreIndices n l d

-- what two matrices with the same entries below n share
pub record AreAlike (n : ℕ) (l m : ℕ → ℕ → ℤ) : Type 0 where
  pub certificates : (p q : ℕ → ℕ → Fraction) (d : ℕ → Fraction) → IsCertificate n l p q d → IsCertificate n m p q d
  pub elimination : AgreeAll n (eliminated n l) (eliminated n m)
  pub leaving : first_leaving n l ≡ first_leaving n m
  pub indices : HaveSameIndices n l m

abbrev pub SizeAlone : Type 0
SizeAlone = (n : ℕ) (l m : ℕ → ℕ → ℤ) → IsSameBelow n l m → AreAlike n l m

-- what congruent matrices share
pub record AreCongruentAlike (n : ℕ) (l m : ℕ → ℕ → ℤ) : Type 0 where
  pub certificates : (p q : ℕ → ℕ → Fraction) (d : ℕ → Fraction) (p' q' : ℕ → ℕ → Fraction) (d' : ℕ → Fraction) →
      IsCertificate n l p q d → IsCertificate n m p' q' d' → HaveSameCounts n d d'
  pub indices : IsSymmetric n l → HaveSameIndices n l m

abbrev pub CongruenceLaw : Type 0
CongruenceLaw = (n : ℕ) (l c inverse m : ℕ → ℕ → ℤ) → IsInverse n c inverse → IsCongruent n l c m → AreCongruentAlike n l m
