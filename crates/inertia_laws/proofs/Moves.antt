-- Moves of a diagonalisation: column operations on P, their inverses on the rows of Q.
use Rattle.std.proofs.Common.{◌≡◌, ℕ, ◌<◌, [], ◌∷◌, ℤ, pos, ◌+ℤ◌, ◌*ℤ◌, neg_ℤ, Bool, true, false, cond, eqb, refl, sym, ap, ap₂, ◌∙◌, arith}
use Rattle.std.proofs.lemmas.Bool.{eqb-true, eqb-false, ne_eqb, eq-eqb}
use Rattle.std.proofs.lemmas.Bool.Decides.{nat_tests}
use Rattle.ring_identities.proofs.Identities.{reads, by_ring}
use Rattle.ring_identities.proofs.Integers.{times_zero, zero_times, times_comm, times_assoc, one_times, plus_zero}
use Rattle.inertia_laws.specs.Matrices.{total, dot, single, apply, product, transpose}
use Rattle.inertia_laws.specs.Elimination.{exchanged}
use Rattle.inertia_laws.proofs.Totals.{total_agree, total_none, total_plus, total_times, total_exchange, apply_product, dot_apply, dot_single}
use Rattle.inertia_laws.proofs.Values.{swapped}

paired : (v a b : ℤ) → v *ℤ v *ℤ (a *ℤ b) ≡ v *ℤ a *ℤ (v *ℤ b)
paired v a b = by_ring (v ∷ a ∷ b ∷ []) (search reads depth 30) (search reads depth 30) refl

squares : (v a z : ℤ) → v *ℤ v *ℤ (a *ℤ a *ℤ z) ≡ v *ℤ a *ℤ (v *ℤ a) *ℤ z
squares v a z = by_ring (v ∷ a ∷ z ∷ []) (search reads depth 30) (search reads depth 30) refl

spread : (x s t : ℤ) → x *ℤ (s +ℤ t) ≡ s *ℤ x +ℤ t *ℤ x
spread x s t = by_ring (x ∷ s ∷ t ∷ []) (search reads depth 30) (search reads depth 30) refl

turned : (a m b : ℤ) → a *ℤ (m *ℤ b) ≡ b *ℤ (m *ℤ a)
turned a m b = by_ring (a ∷ m ∷ b ∷ []) (search reads depth 30) (search reads depth 30) refl

-- P and Q over op and oq are inverse, and the matrix M over om is P-transposed times L times P
pub record AreMoved (n : ℕ) (l : ℕ → ℕ → ℤ) (op oq om : ℤ) (p q m : ℕ → ℕ → ℤ) : Type 0 where
  pub inverse : (i j : ℕ) → i < n → j < n → product n p q i j ≡ single i (op *ℤ oq) j
  pub congruence : (i j : ℕ) → i < n → j < n → om *ℤ product n (transpose p) (product n l p) i j ≡ op *ℤ op *ℤ m i j
  pub symmetric : (i j : ℕ) → i < n → j < n → m i j ≡ m j i

pub single_scaled : (i : ℕ) (c d : ℤ) (j : ℕ) → c *ℤ single i d j ≡ single i (c *ℤ d) j
single_scaled i c d j = elim (eqb j i) as (λ b. c *ℤ cond b d (pos 0) ≡ cond b (c *ℤ d) (pos 0)) [ true ↦ refl | false ↦ times_zero c ]

pub single_flip : (i : ℕ) (c : ℤ) (k : ℕ) → single i c k ≡ single k c i
single_flip i c k =
    elim (eqb k i) as (λ b. eqb k i ≡ b → cond b c (pos 0) ≡ single k c i) [
      | true ↦ λ e. ap (λ b. cond b c (pos 0)) (sym (eq-eqb i k (sym (eqb-true k i e))))
      | false ↦ λ e. ap (λ b. cond b c (pos 0)) (sym (ne_eqb i k (λ same. eqb-false k i e (sym same))))
    ] refl

bilinear_moved : (n : ℕ) (l p : ℕ → ℕ → ℤ) (y z : ℕ → ℤ) → dot n (apply n p y) (apply n l (apply n p z)) ≡ dot n y (apply n (product n (transpose p) (product n l p)) z)
bilinear_moved n l p y z =
    dot_apply n p y (apply n l (apply n p z))
    ∙ total_agree n _ _ (λ i below. ap (λ u. y i *ℤ u) (total_agree n _ _ (λ k within. ap (λ u. p k i *ℤ u) (sym (apply_product n l p z k))) ∙ sym (apply_product n (transpose p) (product n l p) z i)))

bilinear_scaled : (n : ℕ) (c d : ℤ) (x y : ℕ → ℕ → ℤ) (a b : ℕ → ℤ) → ((i j : ℕ) → i < n → j < n → c *ℤ x i j ≡ d *ℤ y i j) → c *ℤ dot n a (apply n x b) ≡ d *ℤ dot n a (apply n y b)
bilinear_scaled n c d x y a b h =
    sym (total_times n c (λ i. a i *ℤ apply n x b i))
    ∙ total_agree n _ _ (λ i below.
    swapped c (a i) (apply n x b i)
    ∙ ap (λ u. a i *ℤ u)
    (sym (total_times n c (λ j. x i j *ℤ b j))
    ∙ total_agree n _ _ (λ j within. sym (times_assoc c (x i j) (b j)) ∙ ap (λ u. u *ℤ b j) (h i j below within) ∙ times_assoc d (y i j) (b j))
    ∙ total_times n d (λ j. y i j *ℤ b j))
    ∙ swapped (a i) d (apply n y b i))
    ∙ total_times n d (λ i. a i *ℤ apply n y b i)

pub bilinear_symmetric : (n : ℕ) (m : ℕ → ℕ → ℤ) (a b : ℕ → ℤ) → ((i j : ℕ) → i < n → j < n → m i j ≡ m j i) → dot n a (apply n m b) ≡ dot n b (apply n m a)
bilinear_symmetric n m a b h =
    total_agree n _ _ (λ k below. sym (total_times n (a k) (λ t. m k t *ℤ b t)))
    ∙ total_exchange n n (λ k t. a k *ℤ (m k t *ℤ b t))
    ∙ total_agree n _ _ (λ t below.
    total_agree n _ _ (λ k within. ap (λ u. a k *ℤ (u *ℤ b t)) (h k t within below) ∙ turned (a k) (m t k) (b t))
    ∙ total_times n (b t) (λ k. m t k *ℤ a k))

module _ (n : ℕ) (l : ℕ → ℕ → ℤ) (op oq om : ℤ) (p q m : ℕ → ℕ → ℤ) (h : AreMoved n l op oq om p q m)
    (e f : ℕ → ℕ → ℤ) (v : ℤ) (inverses : (i j : ℕ) → i < n → j < n → product n e f i j ≡ single i (v *ℤ v) j)
    (p' q' m' : ℕ → ℕ → ℤ)
    (p_is : (i j : ℕ) → i < n → j < n → p' i j ≡ product n p e i j)
    (q_is : (i j : ℕ) → i < n → j < n → q' i j ≡ product n f q i j)
    (m_is : (i j : ℕ) → i < n → j < n → m' i j ≡ product n (transpose e) (product n m e) i j) where
  pub AreMoved-on : AreMoved n l (v *ℤ op) (v *ℤ oq) (v *ℤ v *ℤ om) p' q' m'
  AreMoved-on = record {
    inverse = λ i j hi hj.
        total_agree n _ _ (λ k below. ap₂ (λ u w. u *ℤ w) (p_is i k hi below) (q_is k j below hj))
        ∙ apply_product n p e (λ k. product n f q k j) i
        ∙ total_agree n _ _ (λ k below.
        ap (λ u. p i k *ℤ u)
        (sym (apply_product n e f (λ t. q t j) k)
        ∙ total_agree n _ _ (λ t within. ap (λ u. u *ℤ q t j) (inverses k t below within))
        ∙ dot_single n k (v *ℤ v) (λ t. q t j) below)
        ∙ swapped (p i k) (v *ℤ v) (q k j))
        ∙ total_times n (v *ℤ v) (λ k. p i k *ℤ q k j)
        ∙ ap (λ u. v *ℤ v *ℤ u) (h.inverse i j hi hj)
        ∙ single_scaled i (v *ℤ v) (op *ℤ oq) j
        ∙ ap (λ c. single i c j) (paired v op oq);
    congruence = λ i j hi hj.
        times_assoc (v *ℤ v) om (product n (transpose p') (product n l p') i j)
        ∙ ap (λ u. v *ℤ v *ℤ (om *ℤ u))
        (total_agree n _ _ (λ k below. ap₂ (λ u w. u *ℤ w) (p_is k i below hi) (total_agree n _ _ (λ t within. ap (λ u. l k t *ℤ u) (p_is t j within hj))))
        ∙ bilinear_moved n l p (λ t. e t i) (λ t. e t j))
        ∙ ap (λ u. v *ℤ v *ℤ u) (bilinear_scaled n om (op *ℤ op) (product n (transpose p) (product n l p)) m (λ t. e t i) (λ t. e t j) h.congruence)
        ∙ squares v op (dot n (λ t. e t i) (apply n m (λ t. e t j)))
        ∙ ap (λ u. v *ℤ op *ℤ (v *ℤ op) *ℤ u) (sym (m_is i j hi hj));
    symmetric = λ i j hi hj. m_is i j hi hj ∙ bilinear_symmetric n m (λ t. e t i) (λ t. e t j) h.symmetric ∙ sym (m_is j i hj hi);
  }

-- ---- column k, times u j over v, added to each column j
abbrev pub shear : ℕ → (ℕ → ℤ) → ℤ → ℕ → ℕ → ℤ
shear k u v i j = single j v i +ℤ single k (u j) i

pub dot_shear : (n k : ℕ) (u : ℕ → ℤ) (v : ℤ) (x : ℕ → ℤ) (j : ℕ) → k < n → j < n → total n (λ i. x i *ℤ shear k u v i j) ≡ v *ℤ x j +ℤ u j *ℤ x k
dot_shear n k u v x j hk hj =
    total_agree n _ _ (λ i below. spread (x i) (single j v i) (single k (u j) i))
    ∙ total_plus n (λ i. single j v i *ℤ x i) (λ i. single k (u j) i *ℤ x i)
    ∙ ap₂ (λ a b. a +ℤ b) (dot_single n j v x hj) (dot_single n k (u j) x hk)

pub shear_dot : (n k : ℕ) (u : ℕ → ℤ) (v : ℤ) (x : ℕ → ℤ) (j : ℕ) → k < n → j < n → total n (λ i. shear k u v i j *ℤ x i) ≡ v *ℤ x j +ℤ u j *ℤ x k
shear_dot n k u v x j hk hj = total_agree n _ _ (λ i below. times_comm (shear k u v i j) (x i)) ∙ dot_shear n k u v x j hk hj

row_part : (n : ℕ) (u x : ℕ → ℤ) (b : Bool) → total n (λ j. cond b (u j) (pos 0) *ℤ x j) ≡ cond b (total n (λ j. u j *ℤ x j)) (pos 0)
row_part n u x true = refl
row_part n u x false = total_none n _ (λ j below. zero_times (x j))

pub row_shear : (n k : ℕ) (u : ℕ → ℤ) (v : ℤ) (x : ℕ → ℤ) (i : ℕ) → i < n → total n (λ j. shear k u v i j *ℤ x j) ≡ v *ℤ x i +ℤ single k (total n (λ j. u j *ℤ x j)) i
row_shear n k u v x i hi =
    total_agree n _ _ (λ j below. times_comm (shear k u v i j) (x j) ∙ spread (x j) (single j v i) (single k (u j) i) ∙ ap (λ w. w *ℤ x j +ℤ single k (u j) i *ℤ x j) (single_flip j v i))
    ∙ total_plus n (λ j. single i v j *ℤ x j) (λ j. single k (u j) i *ℤ x j)
    ∙ ap₂ (λ a b. a +ℤ b) (dot_single n i v x hi) (row_part n u x (eqb i k))

undone : (v a s : ℤ) → v *ℤ (s +ℤ a) +ℤ neg_ℤ a *ℤ v ≡ v *ℤ s
undone v a s = by_ring (v ∷ a ∷ s ∷ []) (search reads depth 30) (search reads depth 30) refl

nothing : (b : Bool) → cond b (pos 0) (pos 0) ≡ pos 0
nothing true = refl
nothing false = refl

cancelled : (v a s : ℤ) (b : Bool) → v *ℤ (s +ℤ cond b a (pos 0)) +ℤ neg_ℤ a *ℤ cond b v (pos 0) ≡ v *ℤ s
cancelled v a s true = undone v a s
cancelled v a s false = ap₂ (λ x y. v *ℤ x +ℤ y) (plus_zero s) (times_zero (neg_ℤ a)) ∙ plus_zero (v *ℤ s)

pub shear_inverse : (n k : ℕ) (u : ℕ → ℤ) (v : ℤ) → u k ≡ pos 0 → k < n → (i j : ℕ) → i < n → j < n → product n (shear k u v) (shear k (λ t. neg_ℤ (u t)) v) i j ≡ single i (v *ℤ v) j
shear_inverse n k u v none hk i j hi hj =
    dot_shear n k (λ t. neg_ℤ (u t)) v (shear k u v i) j hk hj
    ∙ ap (λ w. v *ℤ shear k u v i j +ℤ neg_ℤ (u j) *ℤ (single k v i +ℤ w)) (ap (λ c. single k c i) none ∙ nothing (eqb i k))
    ∙ ap (λ w. v *ℤ shear k u v i j +ℤ neg_ℤ (u j) *ℤ w) (plus_zero (single k v i))
    ∙ cancelled v (u j) (single j v i) (eqb i k)
    ∙ ap (λ w. v *ℤ w) (single_flip j v i)
    ∙ single_scaled i v v j

-- ---- two places exchanged
pub exchanged_below : (n k j i : ℕ) → k < n → j < n → i < n → exchanged k j i < n
exchanged_below n k j i hk hj hi = grind (arith, nat_tests)

pub exchanged_twice : (k j i : ℕ) → exchanged k j (exchanged k j i) ≡ i
exchanged_twice k j i = grind (arith, nat_tests)

pub exchanged_flip : (k j i t : ℕ) → eqb i (exchanged k j t) ≡ eqb t (exchanged k j i)
exchanged_flip k j i t = grind (arith, nat_tests)

abbrev pub swap_columns : ℕ → ℕ → ℕ → ℕ → ℤ
swap_columns k j a b = single (exchanged k j b) (pos 1) a

abbrev pub swap_rows : ℕ → ℕ → ℕ → ℕ → ℤ
swap_rows k j a b = single (exchanged k j a) (pos 1) b

pub dot_swap : (n k j : ℕ) (x : ℕ → ℤ) (b : ℕ) → k < n → j < n → b < n → total n (λ a. x a *ℤ swap_columns k j a b) ≡ x (exchanged k j b)
dot_swap n k j x b hk hj hb =
    total_agree n _ _ (λ a below. times_comm (x a) (swap_columns k j a b)) ∙ dot_single n (exchanged k j b) (pos 1) x (exchanged_below n k j b hk hj hb) ∙ one_times (x (exchanged k j b))

pub swap_dot : (n k j : ℕ) (x : ℕ → ℤ) (b : ℕ) → k < n → j < n → b < n → total n (λ a. swap_columns k j a b *ℤ x a) ≡ x (exchanged k j b)
swap_dot n k j x b hk hj hb = dot_single n (exchanged k j b) (pos 1) x (exchanged_below n k j b hk hj hb) ∙ one_times (x (exchanged k j b))

pub swap_inverse : (n k j : ℕ) → k < n → j < n → (a b : ℕ) → a < n → b < n → product n (swap_columns k j) (swap_rows k j) a b ≡ single a (pos 1 *ℤ pos 1) b
swap_inverse n k j hk hj a b ha hb =
    total_agree n _ _ (λ t below. ap (λ c. cond c (pos 1) (pos 0) *ℤ swap_rows k j t b) (exchanged_flip k j a t))
    ∙ swap_dot n k j (λ t. swap_rows k j t b) a hk hj ha
    ∙ ap (λ t. single t (pos 1) b) (exchanged_twice k j a)
