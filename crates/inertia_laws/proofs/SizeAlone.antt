-- Certificates and the elimination depend on the entries below the size alone: each step, and each equation of a certificate,
-- reads places below it.
use Rattle.std.proofs.Common.{◌≡◌, ℕ, zero, suc, pred, ◌+◌, ◌<◌, ◌≤◌, ℤ, pos, Bool, not, cond, eqb, refl, subst, ap, arith}
use Rattle.inertia_laws.specs.Matrices.{is_positive, is_negative, is_zero}
use Rattle.inertia_laws.specs.Fractions.{Fraction, whole, AreEqual, multiply}
use Rattle.inertia_laws.specs.Certificates.{IsCertificate}
use Rattle.inertia_laws.specs.Elimination.{start, steps}
use Rattle.inertia_laws.specs.Agreement.{AgreeAll}
use Rattle.inertia_laws.specs.Range.{step_fits}
use Rattle.inertia_laws.specs.Indices.{positive_index, negative_index, nullity, final_diagonal, IsSameBelow, HaveSameIndices}
use Rattle.inertia_laws.specs.Laws.{SizeAlone}
use Rattle.inertia_laws.proofs.Agreement.{step-agree, step_fits-agree, first_from-agree}
use Rattle.inertia_laws.proofs.SameCertificate.{total_fraction-agree}
use Rattle.inertia_laws.proofs.Counts.{count_agree}

module _ (n : ℕ) (l m : ℕ → ℕ → ℤ) (same : IsSameBelow n l m) where
  certificate : (p q : ℕ → ℕ → Fraction) (d : ℕ → Fraction) → IsCertificate n l p q d → IsCertificate n m p q d
  certificate p q d c = record {
    positive_p = c.positive_p;
    positive_q = c.positive_q;
    positive_diagonal = c.positive_diagonal;
    inverse = c.inverse;
    congruence = λ i j hi hj. subst (λ x. AreEqual x (cond (eqb i j) (d i) (whole (pos 0))))
        (total_fraction-agree n _ _ (λ a ha. ap (multiply (p a i)) (total_fraction-agree n _ _ (λ b hb. ap (λ z. multiply (whole z) (p b j)) (same a b ha hb)))))
        (c.congruence i j hi hj);
  }

  steps-agree : (k : ℕ) → k ≤ n → AgreeAll n (steps n k (start l)) (steps n k (start m))
  steps-agree zero h = record { m = λ i j hi hj. ap whole (same i j hi hj); p = λ i j hi hj. refl; q = λ i j hi hj. refl }
  steps-agree (suc k) h = step-agree n k (omega arith) (steps n k (start l)) (steps n k (start m)) (steps-agree k (omega arith))

  leaves-agree : (a : ℕ) → 1 ≤ a → a < n + 1 → not (step_fits n (pred a) (steps n (pred a) (start l))) ≡ not (step_fits n (pred a) (steps n (pred a) (start m)))
  leaves-agree zero low high = absurd (omega arith)
  leaves-agree (suc k) low high = ap not (step_fits-agree n k (omega arith) (steps n k (start l)) (steps n k (start m)) (steps-agree k (omega arith)))

  final-agree : (test : ℤ → Bool) (i : ℕ) → i < n → test (final_diagonal n l i).num ≡ test (final_diagonal n m i).num
  final-agree test i h = ap (λ (x : Fraction). test x.num) ((steps-agree n (omega arith)).m i i h h)

  same_indices : HaveSameIndices n l m
  unfolding positive_index negative_index nullity
  same_indices = record {
    positive = count_agree n _ _ (final-agree is_positive);
    negative = count_agree n _ _ (final-agree is_negative);
    zero = count_agree n _ _ (final-agree is_zero);
  }

-- THE ENTRIES BELOW THE SIZE ALONE
pub size_alone_law : SizeAlone
size_alone_law n l m same = record {
  certificates = certificate n l m same;
  elimination = steps-agree n l m same n (omega arith);
  leaving = first_from-agree n 1 (n + 1) _ _ (omega arith) (leaves-agree n l m same);
  indices = same_indices n l m same;
}
