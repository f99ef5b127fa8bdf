-- Congruent matrices have the same inertia: where C has an inverse of whole numbers, what diagonalises C-transposed times L
-- times C becomes, with C before P and the inverse behind Q, what diagonalises L. So Sylvester's law compares the counts.
use Rattle.std.proofs.Common.{◌≡◌, ℕ, ◌<◌, ℤ, pos, ◌*ℤ◌, sym, ap, ◌∙◌}
use Rattle.ring_identities.proofs.Integers.{times_one}
use Rattle.inertia_laws.specs.Matrices.{single, transpose, product}
use Rattle.inertia_laws.specs.Fractions.{Fraction}
use Rattle.inertia_laws.specs.Inertia.{Diagonalises}
use Rattle.inertia_laws.specs.Certificates.{IsCertificate}
use Rattle.inertia_laws.specs.Elimination.{eliminated}
use Rattle.inertia_laws.specs.Indices.{IsInverse, IsCongruent, HaveSameCounts, HaveSameIndices, final_diagonal, positive_index, negative_index, nullity}
use Rattle.inertia_laws.specs.Laws.{IsSymmetric, CongruenceLaw}
use Rattle.inertia_laws.proofs.Totals.{total_agree, total_times, apply_product, dot_apply, dot_single}
use Rattle.inertia_laws.proofs.Moves.{single_scaled, bilinear_symmetric}
use Rattle.inertia_laws.proofs.Sylvester.{sylvester}
use Rattle.inertia_laws.proofs.Values.{positive_by_value, negative_by_value, zero_by_value, swapped}
use Rattle.inertia_laws.proofs.Clearing.{Cleared, clear_denominators}
use Rattle.inertia_laws.proofs.Eliminated.{eliminated_certifies}
use Rattle.inertia_laws.proofs.Counts.{count_agree}

-- ---- products
product_assoc : (n : ℕ) (a b c : ℕ → ℕ → ℤ) (i j : ℕ) → product n (product n a b) c i j ≡ product n a (product n b c) i j
product_assoc n a b c i j = apply_product n a b (λ k. c k j) i

product_right : (n : ℕ) (a b c : ℕ → ℕ → ℤ) (i j : ℕ) → ((k : ℕ) → k < n → b k j ≡ c k j) → product n a b i j ≡ product n a c i j
product_right n a b c i j h = total_agree n (λ k. a i k *ℤ b k j) (λ k. a i k *ℤ c k j) (λ k l. ap (λ z. a i k *ℤ z) (h k l))

product_left : (n : ℕ) (a b c : ℕ → ℕ → ℤ) (i j : ℕ) → ((k : ℕ) → k < n → a i k ≡ b i k) → product n a c i j ≡ product n b c i j
product_left n a b c i j h = total_agree n (λ k. a i k *ℤ c k j) (λ k. b i k *ℤ c k j) (λ k l. ap (λ z. z *ℤ c k j) (h k l))

module _ (n : ℕ) (l m c c' : ℕ → ℕ → ℤ) (inverse : IsInverse n c c') (congruent : IsCongruent n l c m) where
  -- what diagonalises C-transposed times L times C gives what diagonalises L
  carried : (p q : ℕ → ℕ → ℤ) (d : ℕ → ℤ) → Diagonalises n m p q d → Diagonalises n l (product n c p) (product n q c') d
  carried p q d h = record {
    side = h.side;
    side_not_zero = h.side_not_zero;
    inverse = λ i j li lj.
        product_assoc n c p (product n q c') i j
        ∙ (product_right n c (product n p (product n q c')) (λ k b. h.side *ℤ c' k b) i j
        (λ k lk.
        sym (product_assoc n p q c' k j)
        ∙ (product_left n (product n p q) (λ a b. single a h.side b) c' k j (λ b lb. h.inverse k b lk lb)
        ∙ dot_single n k h.side (λ b. c' b j) lk))
        ∙ (total_agree n (λ k. c i k *ℤ (h.side *ℤ c' k j)) (λ k. h.side *ℤ (c i k *ℤ c' k j)) (λ k lk. swapped (c i k) h.side (c' k j))
        ∙ (total_times n h.side (λ k. c i k *ℤ c' k j)
        ∙ (ap (λ z. h.side *ℤ z) (inverse i j li lj) ∙ (single_scaled i h.side (pos 1) j ∙ ap (λ z. single i z j) (times_one h.side))))));
    from = h.from;
    from_positive = h.from_positive;
    to = h.to;
    to_positive = h.to_positive;
    congruence = λ i j li lj.
        ap (λ z. h.from *ℤ z)
        (dot_apply n c (λ k. p k i) (λ k. product n l (product n c p) k j)
        ∙ total_agree n (λ k. p k i *ℤ product n (transpose c) (product n l (product n c p)) k j) (λ k. p k i *ℤ product n m p k j)
        (λ k lk. ap (λ z. p k i *ℤ z)
        (product_right n (transpose c) (product n l (product n c p)) (product n (product n l c) p) k j (λ b lb. sym (product_assoc n l c p b j))
        ∙ (sym (product_assoc n (transpose c) (product n l c) p k j)
        ∙ product_left n (product n (transpose c) (product n l c)) m p k j (λ b lb. sym (congruent k b lk lb))))))
        ∙ h.congruence i j li lj;
  }

  same_counts : (p q : ℕ → ℕ → Fraction) (d : ℕ → Fraction) (p' q' : ℕ → ℕ → Fraction) (d' : ℕ → Fraction) → IsCertificate n l p q d → IsCertificate n m p' q' d' → HaveSameCounts n d d'
  same_counts p q d p' q' d' h g =
      let x : Cleared n l d = clear_denominators n l p q d h in
      let y : Cleared n m d' = clear_denominators n m p' q' d' g in
      let same = sylvester n l x.p x.q x.d x.diagonalises (product n c y.p) (product n y.q c') y.d (carried y.p y.q y.d y.diagonalises) in
      record {
        positive = count_agree n _ _ (λ i below. positive_by_value (x.means i below)) ∙ same.0 ∙ sym (count_agree n _ _ (λ i below. positive_by_value (y.means i below)));
        negative = count_agree n _ _ (λ i below. negative_by_value (x.means i below)) ∙ same.1 ∙ sym (count_agree n _ _ (λ i below. negative_by_value (y.means i below)));
        zero = count_agree n _ _ (λ i below. zero_by_value (x.means i below)) ∙ same.2 ∙ sym (count_agree n _ _ (λ i below. zero_by_value (y.means i below)));
      }

  symmetric_again : IsSymmetric n l → IsSymmetric n m
  symmetric_again h i j hi hj = congruent i j hi hj ∙ bilinear_symmetric n l (λ a. c a i) (λ a. c a j) h ∙ sym (congruent j i hj hi)

  same_indices : IsSymmetric n l → HaveSameIndices n l m
  unfolding positive_index negative_index nullity
  same_indices h =
      let old = eliminated n l in
      let new = eliminated n m in
      let same = same_counts old.p old.q (final_diagonal n l) new.p new.q (final_diagonal n m) (eliminated_certifies n l h) (eliminated_certifies n m (symmetric_again h)) in
      record { positive = same.positive; negative = same.negative; zero = same.zero }

-- CONGRUENT MATRICES HAVE THE SAME INERTIA
pub congruence : CongruenceLaw
congruence n l c inverse m inverts congruent = record {
  certificates = same_counts n l m c inverse inverts congruent;
  indices = same_indices n l m c inverse inverts congruent;
}
