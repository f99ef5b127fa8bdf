-- A matrix bordered by one more place, with e alone there.
use Rattle.std.proofs.Common.{◌≡◌, ℕ, suc, ◌+◌, ◌<◌, ◌≢◌, ℤ, pos, ◌+ℤ◌, ◌*ℤ◌, Bool, true, false, cond, eqb, refl, sym, ap, ap₂, ◌∙◌, arith}
use Rattle.std.proofs.lemmas.Bool.{eqb-true, eqb-false, ne_eqb, eq-eqb}
use Rattle.ring_identities.proofs.Integers.{times_zero, zero_times, times_one, one_times, zero_plus, plus_zero}
use Rattle.inertia_laws.specs.Matrices.{total, count, single, product, transpose, is_zero, is_positive, is_negative}
use Rattle.inertia_laws.specs.Certificates.{bordered}
use Rattle.inertia_laws.specs.Inertia.{Diagonalises, positive_count, negative_count, zero_count}
use Rattle.inertia_laws.proofs.Totals.{total_agree, total_none, single_other}
use Rattle.inertia_laws.proofs.Signs.{positive_times, positive_times_negative, zero_of_times}
use Rattle.inertia_laws.proofs.Values.{not_zero}
use Rattle.inertia_laws.proofs.Sylvester.{sylvester}
use Rattle.inertia_laws.proofs.Counts.{count_agree}

abbrev pub longer : ℕ → ℤ → (ℕ → ℤ) → ℕ → ℤ
longer n e d i = cond (eqb i n) e (d i)

same_longer : (e : ℤ) (b : Bool) → cond b e e ≡ e
same_longer e true = refl
same_longer e false = refl

module _ (n : ℕ) where
  border_in : (e : ℤ) (a : ℕ → ℕ → ℤ) (i j : ℕ) → i < n → j < n → bordered n e a i j ≡ a i j
  border_in e a i j hi hj =
      ap₂ (λ x y. cond x (cond y e (pos 0)) (cond y (pos 0) (a i j))) (ne_eqb i n (λ same. omega arith)) (ne_eqb j n (λ same. omega arith))

  border_row : (e : ℤ) (a : ℕ → ℕ → ℤ) (j : ℕ) → j < n → bordered n e a n j ≡ pos 0
  border_row e a j hj = ap₂ (λ x y. cond x (cond y e (pos 0)) (cond y (pos 0) (a n j))) (eq-eqb n n refl) (ne_eqb j n (λ same. omega arith))

  border_column : (e : ℤ) (a : ℕ → ℕ → ℤ) (i : ℕ) → i < n → bordered n e a i n ≡ pos 0
  border_column e a i hi = ap₂ (λ x y. cond x (cond y e (pos 0)) (cond y (pos 0) (a i n))) (ne_eqb i n (λ same. omega arith)) (eq-eqb n n refl)

  border_corner : (e : ℤ) (a : ℕ → ℕ → ℤ) → bordered n e a n n ≡ e
  border_corner e a = ap₂ (λ x y. cond x (cond y e (pos 0)) (cond y (pos 0) (a n n))) (eq-eqb n n refl) (eq-eqb n n refl)

  -- the product of bordered matrices is bordered
  border_product : (e f : ℤ) (a b : ℕ → ℕ → ℤ) (i j : ℕ) → i < suc n → j < suc n → product (suc n) (bordered n e a) (bordered n f b) i j ≡ bordered n (e *ℤ f) (product n a b) i j
  border_product e f a b i j hi hj =
      elim (eqb i n) as (λ x. eqb i n ≡ x → product (suc n) (bordered n e a) (bordered n f b) i j ≡ cond x (cond (eqb j n) (e *ℤ f) (pos 0)) (cond (eqb j n) (pos 0) (product n a b i j))) [
        | true ↦ λ s.
            let at_i : i ≡ n = eqb-true i n s in
            ap (λ t. product (suc n) (bordered n e a) (bordered n f b) t j) at_i
            ∙ ap₂ (λ u v. u +ℤ v)
            (total_none n _ (λ k hk. ap (λ u. u *ℤ bordered n f b k j) (border_row e a k hk) ∙ zero_times (bordered n f b k j)))
            (ap (λ u. u *ℤ bordered n f b n j) (border_corner e a))
            ∙ zero_plus (e *ℤ bordered n f b n j)
            ∙ elim (eqb j n) as (λ y. eqb j n ≡ y → e *ℤ bordered n f b n j ≡ cond y (e *ℤ f) (pos 0)) [
              | true ↦ λ t. ap (λ u. e *ℤ bordered n f b n u) (eqb-true j n t) ∙ ap (λ u. e *ℤ u) (border_corner f b)
              | false ↦ λ t. let other : j ≢ n = eqb-false j n t in ap (λ u. e *ℤ u) (border_row f b j (omega arith)) ∙ times_zero e
            ] refl
        | false ↦ λ s.
            let not_i : i ≢ n = eqb-false i n s in
            let below : i < n = omega arith in
            ap (λ v. total n (λ k. bordered n e a i k *ℤ bordered n f b k j) +ℤ v) (ap (λ u. u *ℤ bordered n f b n j) (border_column e a i below) ∙ zero_times (bordered n f b n j))
            ∙ plus_zero (total n (λ k. bordered n e a i k *ℤ bordered n f b k j))
            ∙ elim (eqb j n) as (λ y. eqb j n ≡ y → total n (λ k. bordered n e a i k *ℤ bordered n f b k j) ≡ cond y (pos 0) (product n a b i j)) [
              | true ↦ λ t. total_none n _ (λ k hk. ap (λ u. bordered n e a i k *ℤ u) (ap (bordered n f b k) (eqb-true j n t) ∙ border_column f b k hk) ∙ times_zero (bordered n e a i k))
              | false ↦ λ t.
                  let other : j ≢ n = eqb-false j n t in
                  let hj' : j < n = omega arith in
                  total_agree n _ _ (λ k hk. ap₂ (λ u v. u *ℤ v) (border_in e a i k below hk) (border_in f b k j hk hj'))
            ] refl
      ] refl

  border_transpose : (e : ℤ) (a : ℕ → ℕ → ℤ) (i j : ℕ) → bordered n e (transpose a) i j ≡ transpose (bordered n e a) i j
  border_transpose e a i j =
      elim (eqb i n) as (λ x. cond x (cond (eqb j n) e (pos 0)) (cond (eqb j n) (pos 0) (a j i)) ≡ cond (eqb j n) (cond x e (pos 0)) (cond x (pos 0) (a j i))) [
        | true ↦ elim (eqb j n) as (λ y. cond y e (pos 0) ≡ cond y e (pos 0)) [ true ↦ refl | false ↦ refl ]
        | false ↦ elim (eqb j n) as (λ y. cond y (pos 0) (a j i) ≡ cond y (pos 0) (a j i)) [ true ↦ refl | false ↦ refl ]
      ]

  border_times : (c e : ℤ) (a b : ℕ → ℕ → ℤ) → ((i j : ℕ) → i < n → j < n → c *ℤ a i j ≡ b i j) → (i j : ℕ) → i < suc n → j < suc n → c *ℤ bordered n e a i j ≡ bordered n (c *ℤ e) b i j
  border_times c e a b h i j hi hj =
      elim (eqb i n) as (λ x. eqb i n ≡ x → c *ℤ cond x (cond (eqb j n) e (pos 0)) (cond (eqb j n) (pos 0) (a i j)) ≡ cond x (cond (eqb j n) (c *ℤ e) (pos 0)) (cond (eqb j n) (pos 0) (b i j))) [
        | true ↦ λ s. elim (eqb j n) as (λ y. c *ℤ cond y e (pos 0) ≡ cond y (c *ℤ e) (pos 0)) [ true ↦ refl | false ↦ times_zero c ]
        | false ↦ λ s. elim (eqb j n) as (λ y. eqb j n ≡ y → c *ℤ cond y (pos 0) (a i j) ≡ cond y (pos 0) (b i j)) [
          | true ↦ λ t. times_zero c
          | false ↦ λ t.
              let not_i : i ≢ n = eqb-false i n s in
              let not_j : j ≢ n = eqb-false j n t in
              h i j (omega arith) (omega arith)
        ] refl
      ] refl

  -- a diagonal matrix, bordered
  border_single : (e : ℤ) (d : ℕ → ℤ) (i j : ℕ) → i < suc n → j < suc n → bordered n e (λ i. single i (d i)) i j ≡ single i (longer n e d i) j
  border_single e d i j hi hj =
      elim (eqb i n) as (λ x. eqb i n ≡ x → cond x (cond (eqb j n) e (pos 0)) (cond (eqb j n) (pos 0) (single i (d i) j)) ≡ cond (eqb j i) (cond x e (d i)) (pos 0)) [
        | true ↦ λ s. ap (λ t. cond (eqb j t) e (pos 0)) (sym (eqb-true i n s))
        | false ↦ λ s. elim (eqb j n) as (λ y. eqb j n ≡ y → cond y (pos 0) (single i (d i) j) ≡ single i (d i) j) [
          | true ↦ λ t. sym (single_other i j (d i) (λ same. eqb-false i n s (sym same ∙ eqb-true j n t)))
          | false ↦ λ t. refl
        ] refl
      ] refl

  border_agree : (e f : ℤ) (a b : ℕ → ℕ → ℤ) → e ≡ f → ((i j : ℕ) → i < n → j < n → a i j ≡ b i j) → (i j : ℕ) → i < suc n → j < suc n → bordered n e a i j ≡ bordered n f b i j
  border_agree e f a b same h i j hi hj =
      elim (eqb i n) as (λ x. eqb i n ≡ x → cond x (cond (eqb j n) e (pos 0)) (cond (eqb j n) (pos 0) (a i j)) ≡ cond x (cond (eqb j n) f (pos 0)) (cond (eqb j n) (pos 0) (b i j))) [
        | true ↦ λ s. ap (λ u. cond (eqb j n) u (pos 0)) same
        | false ↦ λ s. elim (eqb j n) as (λ y. eqb j n ≡ y → cond y (pos 0) (a i j) ≡ cond y (pos 0) (b i j)) [
          | true ↦ λ t. refl
          | false ↦ λ t.
              let not_i : i ≢ n = eqb-false i n s in
              let not_j : j ≢ n = eqb-false j n t in
              h i j (omega arith) (omega arith)
        ] refl
      ] refl

  pub border_certificate : (l p q : ℕ → ℕ → ℤ) (d : ℕ → ℤ) (c : Diagonalises n l p q d) (e : ℤ) →
      Diagonalises (suc n) (bordered n e l) (bordered n (pos 1) p) (bordered n c.side q) (longer n (c.from *ℤ e) (λ i. c.to *ℤ d i))
  border_certificate l p q d c e = record {
    side = c.side;
    side_not_zero = c.side_not_zero;
    inverse = λ i j hi hj.
        border_product (pos 1) c.side p q i j hi hj
        ∙ border_agree (pos 1 *ℤ c.side) c.side (product n p q) (λ i. single i c.side) (one_times c.side) c.inverse i j hi hj
        ∙ border_single c.side (λ t. c.side) i j hi hj
        ∙ ap (λ u. single i u j) (same_longer c.side (eqb i n));
    from = c.from;
    from_positive = c.from_positive;
    to = pos 1;
    to_positive = refl;
    congruence = λ i j hi hj.
        ap (λ u. c.from *ℤ u)
        (total_agree (suc n) _ _ (λ k hk. ap₂ (λ u v. u *ℤ v) (sym (border_transpose (pos 1) p i k)) (border_product e (pos 1) l p k j hk hj))
        ∙ border_product (pos 1) (e *ℤ pos 1) (transpose p) (product n l p) i j hi hj)
        ∙ border_times c.from (pos 1 *ℤ (e *ℤ pos 1)) (product n (transpose p) (product n l p)) (λ i. single i (c.to *ℤ d i)) c.congruence i j hi hj
        ∙ border_single (c.from *ℤ (pos 1 *ℤ (e *ℤ pos 1))) (λ i. c.to *ℤ d i) i j hi hj
        ∙ ap (λ u. single i (longer n u (λ i. c.to *ℤ d i) i) j) (ap (λ u. c.from *ℤ u) (one_times (e *ℤ pos 1) ∙ times_one e))
        ∙ ap (λ u. single i u j) (sym (one_times (longer n (c.from *ℤ e) (λ i. c.to *ℤ d i) i)));
  }

longer_count : (n : ℕ) (test : ℤ → Bool) (e t : ℤ) (d : ℕ → ℤ) → ((z : ℤ) → test (t *ℤ z) ≡ test z) → count (suc n) (λ i. test (longer n e (λ i. t *ℤ d i) i)) ≡ count n (λ i. test (d i)) + cond (test e) 1 0
longer_count n test e t d h =
    ap₂ (λ u b. u + cond b 1 0)
    (count_agree n (λ i. test (longer n e (λ i. t *ℤ d i) i)) (λ i. test (d i)) (λ i below. ap (λ b. test (cond b e (t *ℤ d i))) (ne_eqb i n (λ same. omega arith)) ∙ h (d i)))
    (ap (λ b. test (cond b e (t *ℤ d n))) (eq-eqb n n refl))

-- any certificate of the bordered matrix counts e once more than any certificate of the matrix
pub border_counts : (n : ℕ) (l p q : ℕ → ℕ → ℤ) (d : ℕ → ℤ) → Diagonalises n l p q d → (e : ℤ) → (p' q' : ℕ → ℕ → ℤ) (d' : ℕ → ℤ) → Diagonalises (suc n) (bordered n e l) p' q' d' →
    (positive_count (suc n) d' ≡ positive_count n d + cond (is_positive e) 1 0) × (negative_count (suc n) d' ≡ negative_count n d + cond (is_negative e) 1 0) × (zero_count (suc n) d' ≡ zero_count n d + cond (is_zero e) 1 0)
border_counts n l p q d c e p' q' d' c' =
    let own = border_certificate n l p q d c e in
    let same = sylvester (suc n) (bordered n e l) (bordered n (pos 1) p) (bordered n c.side q) (longer n (c.from *ℤ e) (λ i. c.to *ℤ d i)) own p' q' d' c' in (
      sym same.0 ∙ longer_count n is_positive (c.from *ℤ e) c.to d (λ z. positive_times c.to z c.to_positive) ∙ ap (λ b. positive_count n d + cond b 1 0) (positive_times c.from e c.from_positive),
      sym same.1 ∙ longer_count n is_negative (c.from *ℤ e) c.to d (λ z. positive_times_negative c.to z c.to_positive) ∙ ap (λ b. negative_count n d + cond b 1 0) (positive_times_negative c.from e c.from_positive),
      sym same.2 ∙ longer_count n is_zero (c.from *ℤ e) c.to d (λ z. zero_of_times c.to z (not_zero c.to c.to_positive)) ∙ ap (λ b. zero_count n d + cond b 1 0) (zero_of_times c.from e (not_zero c.from c.from_positive)),
    )
