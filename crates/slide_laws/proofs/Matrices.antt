-- The product of a matrix from both sides with the identity to which one entry was added and whose columns were given signs.
use Rattle.std.proofs.Common.{◌≡◌, ◌≢◌, ℕ, ◌<◌, ◌==◌, ◌&&◌, Bool, true, false, cond, ℤ, pos, ◌+ℤ◌, ◌*ℤ◌, neg_ℤ, inl, inr, refl, sym, ap, ap₂, ◌∙◌, arith, eq-eqb, ne_eqb, [], ◌∷◌}
use Rattle.std.proofs.lemmas.Bool.{cases_Bool, eqb-true, eqb-false}
use Rattle.std.proofs.lemmas.Int.{ints}
use Rattle.inertia_laws.specs.Matrices.{total, transpose, product}
use Rattle.inertia_laws.proofs.Totals.{total_agree, total_plus, total_times, total_single}
use Rattle.ring_identities.proofs.Identities.{reads, by_ring}
use Rattle.ring_identities.proofs.Integers.{times_comm}

module _ (n i j : ℕ) (s : ℤ) (F : ℕ → ℤ) (below_j : j < n) where
  -- the identity with s added in row j and column i, columns with signs
  abbrev pub signed : ℕ → ℕ → ℤ
  signed r c = ((cond (r == c) (pos 1) (pos 0)) +ℤ (cond (r == j && c == i) s (pos 0))) *ℤ F c

  added : (p q : Bool) → cond (p && q) s (pos 0) ≡ (s *ℤ cond q (pos 1) (pos 0)) *ℤ cond p (pos 1) (pos 0)
  added true true = omega (arith, ints)
  added true false = omega (arith, ints)
  added false true = omega (arith, ints)
  added false false = omega (arith, ints)

  abbrev pub digit : ℕ → ℕ → ℤ
  digit r c = cond (r == c) (pos 1) (pos 0)

  spread : (d u v f x : ℤ) → ((d +ℤ (u *ℤ v)) *ℤ f) *ℤ x ≡ f *ℤ ((d *ℤ x) +ℤ (u *ℤ (v *ℤ x)))
  spread d u v f x = by_ring (d ∷ u ∷ v ∷ f ∷ x ∷ []) (search reads depth 30) (search reads depth 30) refl

  picks : (c : ℕ) (x : ℕ → ℤ) → c < n → total n (λ k. digit k c *ℤ x k) ≡ x c
  picks c x l =
      total_single n c (λ k. digit k c *ℤ x k) l
      (λ k h d. ap (λ (b : Bool). cond b (pos 1) (pos 0) *ℤ x k) (ne_eqb k c d) ∙ zero_times (x k))
      ∙ (ap (λ (b : Bool). cond b (pos 1) (pos 0) *ℤ x c) (eq-eqb c c refl) ∙ one_times (x c))
    where
      zero_times : (z : ℤ) → pos 0 *ℤ z ≡ pos 0
      zero_times z = omega (arith, ints)

      one_times : (z : ℤ) → pos 1 *ℤ z ≡ z
      one_times z = omega (arith, ints)

  pub column : (c : ℕ) (x : ℕ → ℤ) → c < n → total n (λ k. signed k c *ℤ x k) ≡ F c *ℤ (x c +ℤ ((s *ℤ digit c i) *ℤ x j))
  column c x l =
      let u = s *ℤ digit c i in
      total_agree n (λ k. signed k c *ℤ x k) (λ k. F c *ℤ ((digit k c *ℤ x k) +ℤ (u *ℤ (digit k j *ℤ x k))))
      (λ k h. ap (λ z. ((digit k c +ℤ z) *ℤ F c) *ℤ x k) (added (k == j) (c == i)) ∙ spread (digit k c) u (digit k j) (F c) (x k))
      ∙ (total_times n (F c) (λ k. (digit k c *ℤ x k) +ℤ (u *ℤ (digit k j *ℤ x k)))
      ∙ ap (λ z. F c *ℤ z)
      (total_plus n (λ k. digit k c *ℤ x k) (λ k. u *ℤ (digit k j *ℤ x k))
      ∙ ap₂ (λ y z. y +ℤ z) (picks c x l) (total_times n u (λ k. digit k j *ℤ x k) ∙ ap (λ z. u *ℤ z) (picks j x below_j))))

  outer : (fa fb p q w x y z : ℤ) → fa *ℤ ((fb *ℤ (w +ℤ q *ℤ x)) +ℤ (p *ℤ (fb *ℤ (y +ℤ q *ℤ z)))) ≡ (fa *ℤ fb) *ℤ ((w +ℤ q *ℤ x) +ℤ p *ℤ (y +ℤ q *ℤ z))
  outer fa fb p q w x y z = by_ring (fa ∷ fb ∷ p ∷ q ∷ w ∷ x ∷ y ∷ z ∷ []) (search reads depth 30) (search reads depth 30) refl

  -- AN ENTRY OF THE PRODUCT
  pub congruence_entry : (l : ℕ → ℕ → ℤ) (a b : ℕ) → a < n → b < n →
      product n (transpose signed) (product n l signed) a b
      ≡ (F a *ℤ F b) *ℤ ((l a b +ℤ ((s *ℤ digit b i) *ℤ l a j)) +ℤ ((s *ℤ digit a i) *ℤ (l j b +ℤ ((s *ℤ digit b i) *ℤ l j j))))
  congruence_entry l a b ha hb =
      let row : (k : ℕ) → product n l signed k b ≡ F b *ℤ (l k b +ℤ ((s *ℤ digit b i) *ℤ l k j)) =
      λ k. total_agree n (λ c. l k c *ℤ signed c b) (λ c. signed c b *ℤ l k c) (λ c h. times_comm (l k c) (signed c b)) ∙ column b (l k) hb in
      column a (λ k. product n l signed k b) ha
      ∙ (ap₂ (λ y z. F a *ℤ (y +ℤ ((s *ℤ digit a i) *ℤ z))) (row a) (row j)
      ∙ outer (F a) (F b) (s *ℤ digit a i) (s *ℤ digit b i) (l a b) (l a j) (l j b) (l j j))

  -- ---- the inverse
  abbrev pub unsigned : ℕ → ℕ → ℤ
  unsigned r c = F r *ℤ ((cond (r == c) (pos 1) (pos 0)) +ℤ neg_ℤ (cond (r == j && c == i) s (pos 0)))

  -- one place of the product
  entry_ring : (d u v f w x : ℤ) → f *ℤ f ≡ pos 1 → ((d +ℤ (u *ℤ v)) *ℤ f) *ℤ (f *ℤ (w +ℤ x)) ≡ (d *ℤ (w +ℤ x)) +ℤ (u *ℤ (v *ℤ (w +ℤ x)))
  entry_ring d u v f w x h =
      (let e : ((d +ℤ (u *ℤ v)) *ℤ f) *ℤ (f *ℤ (w +ℤ x)) ≡ (f *ℤ f) *ℤ ((d *ℤ (w +ℤ x)) +ℤ (u *ℤ (v *ℤ (w +ℤ x)))) = by_ring (d ∷ u ∷ v ∷ f ∷ w ∷ x ∷ []) (search reads depth 30) (search reads depth 30) refl in e)
      ∙ (ap (λ z. z *ℤ ((d *ℤ (w +ℤ x)) +ℤ (u *ℤ (v *ℤ (w +ℤ x))))) h ∙ one_times ((d *ℤ (w +ℤ x)) +ℤ (u *ℤ (v *ℤ (w +ℤ x)))))
    where
      one_times : (z : ℤ) → pos 1 *ℤ z ≡ z
      one_times z = omega (arith, ints)

  flip : (r c : ℕ) → digit r c ≡ digit c r
  flip r c = ap (λ (b : Bool). cond b (pos 1) (pos 0)) (elim (cases_Bool (r == c)) [
    | inl t ↦ t ∙ sym (eq-eqb c r (sym (eqb-true r c t)))
    | inr t ↦ t ∙ sym (ne_eqb c r (λ e. eqb-false r c t (sym e)))
  ])

  added_at : (p q : Bool) → cond (p && q) s (pos 0) ≡ (s *ℤ cond p (pos 1) (pos 0)) *ℤ cond q (pos 1) (pos 0)
  added_at true true = omega (arith, ints)
  added_at true false = omega (arith, ints)
  added_at false true = omega (arith, ints)
  added_at false false = omega (arith, ints)

  pub inverse_entry : ((c : ℕ) → F c *ℤ F c ≡ pos 1) → i < n → i ≢ j → (a b : ℕ) → a < n → b < n → product n signed unsigned a b ≡ digit a b
  inverse_entry square below_i apart a b la lb =
      let u = s *ℤ digit a j in
      let row : ℕ → ℤ = λ k. digit k b +ℤ neg_ℤ (cond (k == j && b == i) s (pos 0)) in
      total_agree n (λ k. signed a k *ℤ unsigned k b) (λ k. (digit k a *ℤ row k) +ℤ (u *ℤ (digit k i *ℤ row k)))
      (λ k h.
      ap₂ (λ x y. ((x +ℤ y) *ℤ F k) *ℤ (F k *ℤ row k)) (flip a k) (added_at (a == j) (k == i))
      ∙ entry_ring (digit k a) u (digit k i) (F k) (digit k b) (neg_ℤ (cond (k == j && b == i) s (pos 0))) (square k))
      ∙ (total_plus n (λ k. digit k a *ℤ row k) (λ k. u *ℤ (digit k i *ℤ row k))
      ∙ (ap₂ (λ x y. x +ℤ y) (picks a row la) (total_times n u (λ k. digit k i *ℤ row k) ∙ ap (λ z. u *ℤ z) (picks i row below_i))
      ∙ cancel a b apart))
    where
      cancel : (a b : ℕ) → i ≢ j → (digit a b +ℤ neg_ℤ (cond (a == j && b == i) s (pos 0))) +ℤ ((s *ℤ digit a j) *ℤ (digit i b +ℤ neg_ℤ (cond (i == j && b == i) s (pos 0)))) ≡ digit a b
      cancel a b d =
          let none : cond (i == j && b == i) s (pos 0) ≡ pos 0 = ap (λ (t : Bool). cond (t && b == i) s (pos 0)) (ne_eqb i j d) in
          let one : cond (a == j && b == i) s (pos 0) ≡ (s *ℤ digit a j) *ℤ digit b i = added_at (a == j) (b == i) in
          ap₂ (λ x y. (digit a b +ℤ neg_ℤ x) +ℤ ((s *ℤ digit a j) *ℤ (digit i b +ℤ neg_ℤ y))) one none
          ∙ (ap (λ x. (digit a b +ℤ neg_ℤ ((s *ℤ digit a j) *ℤ digit b i)) +ℤ ((s *ℤ digit a j) *ℤ (x +ℤ neg_ℤ (pos 0)))) (flip i b)
          ∙ sum_cancels (digit a b) (s *ℤ digit a j) (digit b i))
        where
          sum_cancels : (x y z : ℤ) → (x +ℤ neg_ℤ (y *ℤ z)) +ℤ (y *ℤ (z +ℤ neg_ℤ (pos 0))) ≡ x
          sum_cancels x y z = by_ring (x ∷ y ∷ z ∷ []) (search reads depth 30) (search reads depth 30) refl
