-- The steps of the elimination keep P Q the identity and M the transform of L.
use Rattle.std.proofs.Common.{◌≡◌, ℕ, ◌<◌, ◌≢◌, ℤ, pos, negsuc, ◌+ℤ◌, ◌*ℤ◌, neg_ℤ, Bool, true, false, cond, eqb, refl, sym, ap, ap₂, subst, ◌∙◌, arith}
use Rattle.std.proofs.lemmas.Int.{ints}
use Rattle.std.proofs.lemmas.Bool.{eqb-true}
use Rattle.std.proofs.lemmas.Bool.Decides.{nat_tests}
use Rattle.ring_identities.proofs.Integers.{times_zero, zero_times, times_comm, one_times, plus_zero}
use Rattle.inertia_laws.specs.Matrices.{total, single, product, is_positive}
use Rattle.inertia_laws.specs.Fractions.{Fraction, whole, plus, minus}
use Rattle.inertia_laws.specs.Elimination.{State, start, exchanged, exchange, add_column, add_place}
use Rattle.inertia_laws.proofs.Totals.{total_agree, single_other, dot_single}
use Rattle.inertia_laws.proofs.Values.{Means, Means-whole, Means-eq, Means-plus, Means-minus, both_positive}
use Rattle.inertia_laws.proofs.Moves.{AreMoved, AreMoved-on, single_flip, shear, dot_shear, shear_dot, row_shear, shear_inverse, exchanged_below, exchanged_twice, swap_columns, swap_rows, dot_swap, swap_dot, swap_inverse}

-- after the first k steps: whole numbers over common denominators for P, Q and M; the first k rows of M are cleared
pub record Reached (n : ℕ) (l : ℕ → ℕ → ℤ) (k : ℕ) (s : State) : Type 0 where
  pub op : ℤ
  pub oq : ℤ
  pub om : ℤ
  pub op_positive : is_positive op ≡ true
  pub oq_positive : is_positive oq ≡ true
  pub om_positive : is_positive om ≡ true
  pub p : ℕ → ℕ → ℤ
  pub q : ℕ → ℕ → ℤ
  pub m : ℕ → ℕ → ℤ
  pub p_means : (i j : ℕ) → i < n → j < n → Means (s.p i j) (p i j) op
  pub q_means : (i j : ℕ) → i < n → j < n → Means (s.q i j) (q i j) oq
  pub m_means : (i j : ℕ) → i < n → j < n → Means (s.m i j) (m i j) om
  pub moved : AreMoved n l op oq om p q m
  pub cleared : (i j : ℕ) → i < k → i < n → j < n → j ≢ i → m i j ≡ pos 0

-- ---- the start
unit_means : (b : Bool) → Means (cond b (whole (pos 1)) (whole (pos 0))) (cond b (pos 1) (pos 0)) (pos 1)
unit_means true = Means-whole (pos 1)
unit_means false = Means-whole (pos 0)

dot_unit : (n j : ℕ) (x : ℕ → ℤ) → j < n → total n (λ b. x b *ℤ single j (pos 1) b) ≡ x j
dot_unit n j x h = total_agree n _ _ (λ b below. times_comm (x b) (single j (pos 1) b)) ∙ dot_single n j (pos 1) x h ∙ one_times (x j)

unit_dot : (n j : ℕ) (x : ℕ → ℤ) → j < n → total n (λ b. single j (pos 1) b *ℤ x b) ≡ x j
unit_dot n j x h = dot_single n j (pos 1) x h ∙ one_times (x j)

pub Reached-start : (n : ℕ) (l : ℕ → ℕ → ℤ) → ((i j : ℕ) → i < n → j < n → l i j ≡ l j i) → Reached n l 0 (start l)
Reached-start n l symmetric = record {
  op = pos 1;
  oq = pos 1;
  om = pos 1;
  op_positive = refl;
  oq_positive = refl;
  om_positive = refl;
  p = λ i j. single j (pos 1) i;
  q = λ i j. single j (pos 1) i;
  m = l;
  p_means = λ i j hi hj. unit_means (eqb i j);
  q_means = λ i j hi hj. unit_means (eqb i j);
  m_means = λ i j hi hj. Means-whole (l i j);
  moved = record {
    inverse = λ i j hi hj. dot_unit n j (λ t. single t (pos 1) i) hj ∙ single_flip j (pos 1) i;
    congruence = λ i j hi hj.
        one_times (product n (λ a b. single a (pos 1) b) (product n l (λ a b. single b (pos 1) a)) i j)
        ∙ unit_dot n i (λ a. product n l (λ a b. single b (pos 1) a) a j) hi
        ∙ dot_unit n j (l i) hj
        ∙ sym (one_times (l i j));
    symmetric = symmetric;
  };
  cleared = λ i j h hi hj other. absurd (omega arith);
}

-- ---- part 1: two places exchanged
exchanged_fixed : (k j i : ℕ) → i < k → k < j → exchanged k j i ≡ i
exchanged_fixed k j i h g = grind (arith, nat_tests)

module _ (n : ℕ) (l : ℕ → ℕ → ℤ) (k : ℕ) (s : State) (h : Reached n l k s) where
  pub Reached-exchange : (j : ℕ) → k < j → j < n → Reached n l k (exchange k j s)
  Reached-exchange j later within =
      let hk : k < n = omega arith in
      record {
        op = pos 1 *ℤ h.op;
        oq = pos 1 *ℤ h.oq;
        om = pos 1 *ℤ pos 1 *ℤ h.om;
        op_positive = both_positive (pos 1) h.op refl h.op_positive;
        oq_positive = both_positive (pos 1) h.oq refl h.oq_positive;
        om_positive = both_positive (pos 1) h.om refl h.om_positive;
        p = λ a b. h.p a (exchanged k j b);
        q = λ a b. h.q (exchanged k j a) b;
        m = λ a b. h.m (exchanged k j a) (exchanged k j b);
        p_means = λ a b ha hb. Means-eq refl (sym (one_times h.op)) (h.p_means a (exchanged k j b) ha (exchanged_below n k j b hk within hb));
        q_means = λ a b ha hb. Means-eq refl (sym (one_times h.oq)) (h.q_means (exchanged k j a) b (exchanged_below n k j a hk within ha) hb);
        m_means = λ a b ha hb. Means-eq refl (sym (one_times h.om)) (h.m_means (exchanged k j a) (exchanged k j b) (exchanged_below n k j a hk within ha) (exchanged_below n k j b hk within hb));
        moved = AreMoved-on n l h.op h.oq h.om h.p h.q h.m h.moved (swap_columns k j) (swap_rows k j) (pos 1) (swap_inverse n k j hk within)
            (λ a b. h.p a (exchanged k j b)) (λ a b. h.q (exchanged k j a) b) (λ a b. h.m (exchanged k j a) (exchanged k j b))
            (λ a b ha hb. sym (dot_swap n k j (h.p a) b hk within hb))
            (λ a b ha hb. sym (swap_dot n k j (λ t. h.q t b) a hk within ha))
            (λ a b ha hb. sym (swap_dot n k j (λ t. product n h.m (swap_columns k j) t b) a hk within ha ∙ dot_swap n k j (h.m (exchanged k j a)) b hk within hb));
        cleared = λ a b before ha hb other.
            let fixed : exchanged k j a ≡ a = exchanged_fixed k j a before later in
            ap (λ t. h.m t (exchanged k j b)) fixed
            ∙ h.cleared a (exchanged k j b) before ha (exchanged_below n k j b hk within hb)
            (λ same. other (sym (exchanged_twice k j b) ∙ ap (exchanged k j) same ∙ fixed));
      }

-- ---- part 2: place j added to place k
added_means : (f : ℕ → Fraction) (g : ℕ → ℤ) (d : ℤ) (b k j : ℕ) → Means (f b) (g b) d → Means (f j) (g j) d → Means (cond (eqb b k) (plus (f k) (f j)) (f b)) (pos 1 *ℤ g b +ℤ single k (pos 1) b *ℤ g j) d
added_means f g d b k j h i =
    elim (eqb b k) as (λ v. eqb b k ≡ v → Means (cond v (plus (f k) (f j)) (f b)) (pos 1 *ℤ g b +ℤ cond v (pos 1) (pos 0) *ℤ g j) d) [
      | true ↦ λ e.
          let same : b ≡ k = eqb-true b k e in
          Means-eq (ap (λ t. g t +ℤ g j) (sym same) ∙ ap₂ (λ u v. u +ℤ v) (sym (one_times (g b))) (sym (one_times (g j)))) refl (Means-plus (subst (λ t. Means (f t) (g t) d) same h) i)
      | false ↦ λ e. Means-eq (sym (plus_zero (g b)) ∙ ap₂ (λ u v. u +ℤ v) (sym (one_times (g b))) (sym (zero_times (g j)))) refl h
    ] refl

taken_means : (f : ℕ → Fraction) (g : ℕ → ℤ) (d : ℤ) (a k j : ℕ) (sum : ℤ) → sum ≡ neg_ℤ (g k) → Means (f a) (g a) d → Means (f k) (g k) d → Means (cond (eqb a j) (minus (f j) (f k)) (f a)) (pos 1 *ℤ g a +ℤ single j sum a) d
taken_means f g d a k j sum is h i =
    elim (eqb a j) as (λ v. eqb a j ≡ v → Means (cond v (minus (f j) (f k)) (f a)) (pos 1 *ℤ g a +ℤ cond v sum (pos 0)) d) [
      | true ↦ λ e.
          let same : a ≡ j = eqb-true a j e in
          Means-eq (ap (λ t. g t +ℤ neg_ℤ (g k)) (sym same) ∙ ap₂ (λ u v. u +ℤ v) (sym (one_times (g a))) (sym is)) refl (Means-minus (subst (λ t. Means (f t) (g t) d) same h) i)
      | false ↦ λ e. Means-eq (sym (plus_zero (g a)) ∙ ap (λ u. u +ℤ pos 0) (sym (one_times (g a)))) refl h
    ] refl

negated : (b : Bool) (x : ℤ) → neg_ℤ (cond b (pos 1) (pos 0)) *ℤ x ≡ cond b (negsuc 0) (pos 0) *ℤ x
negated true x = refl
negated false x = refl

minus_one : (x : ℤ) → negsuc 0 *ℤ x ≡ neg_ℤ x
minus_one x = omega (arith, ints)

module _ (n : ℕ) (l : ℕ → ℕ → ℤ) (k : ℕ) (s : State) (h : Reached n l k s) where
  abbrev pub added : (ℕ → ℕ → ℤ) → ℕ → ℕ → ℕ → ℤ
  added x j a b = pos 1 *ℤ x a b +ℤ single k (pos 1) b *ℤ x a j

  abbrev pub added_both : (ℕ → ℕ → ℤ) → ℕ → ℕ → ℕ → ℤ
  added_both x j a b = pos 1 *ℤ added x j a b +ℤ single k (pos 1) a *ℤ added x j j b

  row_of_unit : (j b : ℕ) → k < n → total n (λ t. neg_ℤ (single k (pos 1) t) *ℤ h.q t b) ≡ neg_ℤ (h.q k b)
  row_of_unit j b hk =
      total_agree n _ _ (λ t below. negated (eqb t k) (h.q t b))
      ∙ dot_single n k (negsuc 0) (λ t. h.q t b) hk
      ∙ minus_one (h.q k b)

  pub Reached-add : (j : ℕ) → k < j → j < n → Reached n l k (add_place k j s)
  Reached-add j later within =
      let hk : k < n = omega arith in
      let apart : j ≢ k = (λ same. omega arith) in
      let none : single k (pos 1) j ≡ pos 0 = single_other k j (pos 1) apart in
      record {
        op = pos 1 *ℤ h.op;
        oq = pos 1 *ℤ h.oq;
        om = pos 1 *ℤ pos 1 *ℤ h.om;
        op_positive = both_positive (pos 1) h.op refl h.op_positive;
        oq_positive = both_positive (pos 1) h.oq refl h.oq_positive;
        om_positive = both_positive (pos 1) h.om refl h.om_positive;
        p = added h.p j;
        q = λ a b. pos 1 *ℤ h.q a b +ℤ single j (total n (λ t. neg_ℤ (single k (pos 1) t) *ℤ h.q t b)) a;
        m = added_both h.m j;
        p_means = λ a b ha hb. Means-eq refl (sym (one_times h.op)) (added_means (s.p a) (h.p a) h.op b k j (h.p_means a b ha hb) (h.p_means a j ha within));
        q_means = λ a b ha hb. Means-eq refl (sym (one_times h.oq)) (taken_means (λ t. s.q t b) (λ t. h.q t b) h.oq a k j (total n (λ t. neg_ℤ (single k (pos 1) t) *ℤ h.q t b)) (row_of_unit j b hk) (h.q_means a b ha hb) (h.q_means k b hk hb));
        m_means = λ a b ha hb. Means-eq refl (sym (one_times h.om))
            (added_means (λ t. add_column k j s.m t b) (λ t. added h.m j t b) h.om a k j
            (added_means (s.m a) (h.m a) h.om b k j (h.m_means a b ha hb) (h.m_means a j ha within))
            (added_means (s.m j) (h.m j) h.om b k j (h.m_means j b within hb) (h.m_means j j within within)));
        moved = AreMoved-on n l h.op h.oq h.om h.p h.q h.m h.moved (shear j (single k (pos 1)) (pos 1)) (shear j (λ t. neg_ℤ (single k (pos 1) t)) (pos 1)) (pos 1)
            (shear_inverse n j (single k (pos 1)) (pos 1) none within)
            (added h.p j) (λ a b. pos 1 *ℤ h.q a b +ℤ single j (total n (λ t. neg_ℤ (single k (pos 1) t) *ℤ h.q t b)) a) (added_both h.m j)
            (λ a b ha hb. sym (dot_shear n j (single k (pos 1)) (pos 1) (h.p a) b within hb))
            (λ a b ha hb. sym (row_shear n j (λ t. neg_ℤ (single k (pos 1) t)) (pos 1) (λ t. h.q t b) a ha))
            (λ a b ha hb. sym
            (shear_dot n j (single k (pos 1)) (pos 1) (λ t. product n h.m (shear j (single k (pos 1)) (pos 1)) t b) a within ha
            ∙ ap₂ (λ u w. pos 1 *ℤ u +ℤ single k (pos 1) a *ℤ w) (dot_shear n j (single k (pos 1)) (pos 1) (h.m a) b within hb) (dot_shear n j (single k (pos 1)) (pos 1) (h.m j) b within hb)));
        cleared = λ a b before ha hb other.
            let here : h.m a b ≡ pos 0 = h.cleared a b before ha hb other in
            let there : h.m a j ≡ pos 0 = h.cleared a j before ha within (λ same. omega arith) in
            let not_k : a ≢ k = (λ same. omega arith) in
            ap₂ (λ u w. pos 1 *ℤ (pos 1 *ℤ u +ℤ single k (pos 1) b *ℤ w) +ℤ single k (pos 1) a *ℤ added h.m j j b) here there
            ∙ ap (λ u. pos 1 *ℤ (pos 1 *ℤ pos 0 +ℤ single k (pos 1) b *ℤ pos 0) +ℤ u *ℤ added h.m j j b) (single_other k a (pos 1) not_k)
            ∙ ap₂ (λ u w. pos 1 *ℤ (pos 0 +ℤ u) +ℤ w) (times_zero (single k (pos 1) b)) (zero_times (added h.m j j b));
      }

  pub added_pivot : (j : ℕ) (later : k < j) (within : j < n) → (Reached-add j later within).m k k ≡ added_both h.m j k k
  unfolding Reached-add
  added_pivot j later within = refl
