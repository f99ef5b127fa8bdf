-- Matrices that agree below n with those of a certificate are a certificate.
use Rattle.std.proofs.Common.{◌≡◌, ℕ, zero, suc, ◌<◌, ℤ, pos, cond, eqb, refl, sym, subst, ap, ap₂, ◌∙◌, arith}
use Rattle.inertia_laws.specs.Matrices.{is_positive}
use Rattle.inertia_laws.specs.Fractions.{Fraction, whole, AreEqual, add, multiply, total_fraction}
use Rattle.inertia_laws.specs.Certificates.{identity, IsCertificate}
use Rattle.inertia_laws.specs.Agreement.{Agree}

pub total_fraction-agree : (n : ℕ) (f g : ℕ → Fraction) → ((i : ℕ) → i < n → f i ≡ g i) → total_fraction n f ≡ total_fraction n g
total_fraction-agree zero f g h = refl
total_fraction-agree (suc n) f g h =
    let last : n < suc n = omega arith in
    ap₂ add (total_fraction-agree n f g (λ i below. h i (omega arith))) (h n last)

pub same_certificate : (n : ℕ) (l : ℕ → ℕ → ℤ) (p q p' q' : ℕ → ℕ → Fraction) (d d' : ℕ → Fraction) →
    Agree n p p' → Agree n q q' → ((i : ℕ) → i < n → d i ≡ d' i) → IsCertificate n l p q d → IsCertificate n l p' q' d'
same_certificate n l p q p' q' d d' same_p same_q same_d c = record {
  positive_p = λ i j hi hj. ap (λ x. is_positive x.den) (sym (same_p i j hi hj)) ∙ c.positive_p i j hi hj;
  positive_q = λ i j hi hj. ap (λ x. is_positive x.den) (sym (same_q i j hi hj)) ∙ c.positive_q i j hi hj;
  positive_diagonal = λ i hi. ap (λ x. is_positive x.den) (sym (same_d i hi)) ∙ c.positive_diagonal i hi;
  inverse = λ i j hi hj. subst (λ x. AreEqual x (identity i j))
      (total_fraction-agree n (λ k. multiply (p i k) (q k j)) (λ k. multiply (p' i k) (q' k j)) (λ k hk. ap₂ multiply (same_p i k hi hk) (same_q k j hk hj)))
      (c.inverse i j hi hj);
  congruence = λ i j hi hj. subst (λ x. AreEqual x (cond (eqb i j) (d' i) (whole (pos 0))))
      (total_fraction-agree n (λ a. multiply (p a i) (total_fraction n (λ b. multiply (whole (l a b)) (p b j)))) (λ a. multiply (p' a i) (total_fraction n (λ b. multiply (whole (l a b)) (p' b j))))
      (λ a ha. ap₂ multiply (same_p a i ha hi) (total_fraction-agree n (λ b. multiply (whole (l a b)) (p b j)) (λ b. multiply (whole (l a b)) (p' b j)) (λ b hb. ap (multiply (whole (l a b))) (same_p b j hb hj)))))
      (subst (λ x. AreEqual (total_fraction n (λ a. multiply (p a i) (total_fraction n (λ b. multiply (whole (l a b)) (p b j))))) (cond (eqb i j) x (whole (pos 0)))) (same_d i hi) (c.congruence i j hi hj));
}
