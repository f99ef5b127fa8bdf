-- Sums of whole numbers over the places below n.
use Rattle.std.proofs.Common.{◌≡◌, ℕ, zero, suc, ◌<◌, ◌≢◌, [], ◌∷◌, ℤ, pos, ◌+ℤ◌, ◌*ℤ◌, true, false, cond, eqb, refl, sym, ap, ap₂, ◌∙◌, arith}
use Rattle.std.proofs.lemmas.Int.{ints}
use Rattle.std.proofs.lemmas.Bool.{eqb-true, eqb-false, ne_eqb, eq-eqb}
use Rattle.ring_identities.proofs.Identities.{reads, by_ring}
use Rattle.ring_identities.proofs.Integers.{times_zero, zero_times, times_plus, plus_zero, zero_plus, times_comm, times_assoc}
use Rattle.inertia_laws.specs.Matrices.{total, single, dot, product, apply, transpose}

pub total_agree : (n : ℕ) (f g : ℕ → ℤ) → ((i : ℕ) → i < n → f i ≡ g i) → total n f ≡ total n g
total_agree zero f g h = refl
total_agree (suc n) f g h =
    let last : n < suc n = omega arith in
    ap₂ (λ u v. u +ℤ v) (total_agree n f g (λ i below. h i (omega arith))) (h n last)

pub total_none : (n : ℕ) (f : ℕ → ℤ) → ((i : ℕ) → i < n → f i ≡ pos 0) → total n f ≡ pos 0
total_none zero f h = refl
total_none (suc n) f h =
    let last : n < suc n = omega arith in
    ap₂ (λ u v. u +ℤ v) (total_none n f (λ i below. h i (omega arith))) (h n last)

plus_step : (a b c d : ℤ) → (a +ℤ b) +ℤ (c +ℤ d) ≡ (a +ℤ c) +ℤ (b +ℤ d)
plus_step a b c d = omega (arith, ints)

pub total_plus : (n : ℕ) (f g : ℕ → ℤ) → total n (λ i. f i +ℤ g i) ≡ total n f +ℤ total n g
total_plus zero f g = refl
total_plus (suc n) f g = ap (λ u. u +ℤ (f n +ℤ g n)) (total_plus n f g) ∙ plus_step (total n f) (total n g) (f n) (g n)

pub total_times : (n : ℕ) (c : ℤ) (f : ℕ → ℤ) → total n (λ i. c *ℤ f i) ≡ c *ℤ total n f
total_times zero c f = sym (times_zero c)
total_times (suc n) c f = ap (λ u. u +ℤ c *ℤ f n) (total_times n c f) ∙ sym (times_plus c (total n f) (f n))

pub total_exchange : (n m : ℕ) (f : ℕ → ℕ → ℤ) → total n (λ i. total m (λ j. f i j)) ≡ total m (λ j. total n (λ i. f i j))
total_exchange zero m f = sym (total_none m (λ j. pos 0) (λ j below. refl))
total_exchange (suc n) m f = ap (λ u. u +ℤ total m (f n)) (total_exchange n m f) ∙ sym (total_plus m (λ j. total n (λ i. f i j)) (f n))

pub rearranged : (p y z : ℤ) → p *ℤ y *ℤ z ≡ y *ℤ (p *ℤ z)
rearranged p y z = by_ring (p ∷ y ∷ z ∷ []) (search reads depth 30) (search reads depth 30) refl

-- a sum in which one place counts
pub total_single : (n i : ℕ) (f : ℕ → ℤ) → i < n → ((k : ℕ) → k < n → k ≢ i → f k ≡ pos 0) → total n f ≡ f i
total_single zero i f h others = absurd (omega arith)
total_single (suc n) i f h others =
    elim (eqb i n) as (λ v. eqb i n ≡ v → total n f +ℤ f n ≡ f i) [
      | true ↦ λ e.
          let same : i ≡ n = eqb-true i n e in
          ap (λ u. u +ℤ f n) (total_none n f (λ k below. others k (omega arith) (λ bad. omega arith))) ∙ zero_plus (f n) ∙ ap f (sym same)
      | false ↦ λ e.
          let apart : i ≢ n = eqb-false i n e in
          let last : n < suc n = omega arith in
          ap₂ (λ u v. u +ℤ v) (total_single n i f (omega arith) (λ k below other. others k (omega arith) other)) (others n last (λ bad. apart (sym bad))) ∙ plus_zero (f i)
    ] refl

pub times_total : (n : ℕ) (c : ℤ) (f : ℕ → ℤ) → total n f *ℤ c ≡ total n (λ i. f i *ℤ c)
times_total n c f = times_comm (total n f) c ∙ sym (total_times n c f) ∙ total_agree n _ _ (λ i below. times_comm c (f i))

-- ---- vectors
pub apply_product : (n : ℕ) (a b : ℕ → ℕ → ℤ) (x : ℕ → ℤ) (i : ℕ) → apply n (product n a b) x i ≡ apply n a (apply n b x) i
apply_product n a b x i =
    total_agree n _ _ (λ j below. times_total n (x j) (λ k. a i k *ℤ b k j) ∙ total_agree n _ _ (λ k within. times_assoc (a i k) (b k j) (x j)))
    ∙ total_exchange n n (λ j k. a i k *ℤ (b k j *ℤ x j))
    ∙ total_agree n _ _ (λ k below. total_times n (a i k) (λ j. b k j *ℤ x j))

pub dot_apply : (n : ℕ) (p : ℕ → ℕ → ℤ) (y z : ℕ → ℤ) → dot n (apply n p y) z ≡ dot n y (apply n (transpose p) z)
dot_apply n p y z =
    total_agree n _ _ (λ k below. times_total n (z k) (λ i. p k i *ℤ y i) ∙ total_agree n _ _ (λ i within. rearranged (p k i) (y i) (z k)))
    ∙ total_exchange n n (λ k i. y i *ℤ (p k i *ℤ z k))
    ∙ total_agree n _ _ (λ i below. total_times n (y i) (λ k. p k i *ℤ z k))

-- ---- vectors with one place
pub single_at : (i : ℕ) (c : ℤ) → single i c i ≡ c
single_at i c = ap (λ b. cond b c (pos 0)) (eq-eqb i i refl)

pub single_other : (i k : ℕ) (c : ℤ) → k ≢ i → single i c k ≡ pos 0
single_other i k c other = ap (λ b. cond b c (pos 0)) (ne_eqb k i other)

pub dot_single : (n i : ℕ) (c : ℤ) (x : ℕ → ℤ) → i < n → dot n (single i c) x ≡ c *ℤ x i
dot_single n i c x h =
    total_single n i (λ k. single i c k *ℤ x k) h (λ k below other. ap (λ u. u *ℤ x k) (single_other i k c other) ∙ zero_times (x k))
    ∙ ap (λ u. u *ℤ x i) (single_at i c)
