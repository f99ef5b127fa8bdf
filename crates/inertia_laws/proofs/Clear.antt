-- Part 4 of a step of the elimination: row and column k are cleared.
use Rattle.std.proofs.Common.{◌≡◌, ℕ, zero, suc, ◌<◌, ◌≤◌, ◌≢◌, [], ◌∷◌, ℤ, pos, ◌+ℤ◌, ◌-ℤ◌, ◌*ℤ◌, neg_ℤ, Bool, true, false, not, ◌&&◌, cond, eqb, ltb, refl, sym, ap, ap₂, subst, ◌∙◌, arith}
use Rattle.std.proofs.lemmas.Bool.{eqb-true, eqb-false, ne_eqb, eq-eqb, true≢false, ltb-true, ltb-false, not-false}
use Rattle.ring_identities.proofs.Identities.{reads, by_ring}
use Rattle.ring_identities.proofs.Integers.{plus_assoc, times_zero, zero_times, times_comm, times_assoc, plus_zero}
use Rattle.inertia_laws.specs.Matrices.{total, single, product, is_zero, is_positive, is_negative}
use Rattle.inertia_laws.specs.Fractions.{whole, plus, minus, times, ratio}
use Rattle.inertia_laws.specs.Elimination.{State, is_met, is_cleared, clear_matrix, clear_columns, gathered, clear}
use Rattle.inertia_laws.proofs.Signs.{is_zero_means}
use Rattle.inertia_laws.proofs.Values.{Means, Means-scaled, Means-eq, Means-plus, Means-minus, Means-times, Means-ratio, Means-zero, zero_by_value, signed, signed_positive, both_positive}
use Rattle.inertia_laws.proofs.Moves.{AreMoved-on, shear, dot_shear, shear_dot, row_shear, shear_inverse}
use Rattle.inertia_laws.proofs.Steps.{Reached}

clear_first : (v a g c : ℤ) → v *ℤ a -ℤ g *ℤ c ≡ v *ℤ a +ℤ neg_ℤ g *ℤ c
clear_first v a g c = by_ring (v ∷ a ∷ g ∷ c ∷ []) (search reads depth 30) (search reads depth 30) refl

clear_last : (v a g c : ℤ) → v *ℤ a -ℤ c *ℤ g ≡ v *ℤ a +ℤ neg_ℤ g *ℤ c
clear_last v a g c = by_ring (v ∷ a ∷ g ∷ c ∷ []) (search reads depth 30) (search reads depth 30) refl

vanish_plain : (x y : ℤ) → y *ℤ x +ℤ neg_ℤ x *ℤ y ≡ pos 0
vanish_plain x y = by_ring (x ∷ y ∷ []) (search reads depth 30) (search reads depth 30) refl

vanish_signed : (x y : ℤ) → neg_ℤ y *ℤ x +ℤ neg_ℤ (neg_ℤ x) *ℤ y ≡ pos 0
vanish_signed x y = by_ring (x ∷ y ∷ []) (search reads depth 30) (search reads depth 30) refl

once_more : (v z w : ℤ) → v *ℤ z ≡ v *ℤ z +ℤ w *ℤ pos 0
once_more v z w = by_ring (v ∷ z ∷ w ∷ []) (search reads depth 30) (search reads depth 30) refl

twice_negative : (x : ℤ) → neg_ℤ (neg_ℤ x) ≡ x
twice_negative x = by_ring (x ∷ []) (search reads depth 30) (search reads depth 30) refl

column_step : (v x w d y : ℤ) → v *ℤ (v *ℤ x +ℤ pos 0 *ℤ y) +ℤ w *ℤ (v *ℤ d +ℤ pos 0 *ℤ d) ≡ v *ℤ (v *ℤ x +ℤ w *ℤ d)
column_step v x w d y = by_ring (v ∷ x ∷ w ∷ d ∷ y ∷ []) (search reads depth 30) (search reads depth 30) refl

pivot_step : (v d : ℤ) → v *ℤ (v *ℤ d +ℤ pos 0 *ℤ d) +ℤ pos 0 *ℤ (v *ℤ d +ℤ pos 0 *ℤ d) ≡ v *ℤ v *ℤ d
pivot_step v d = by_ring (v ∷ d ∷ []) (search reads depth 30) (search reads depth 30) refl

vanish : (b : Bool) (x y : ℤ) → signed b y *ℤ x +ℤ neg_ℤ (signed b x) *ℤ y ≡ pos 0
vanish true x y = vanish_signed x y
vanish false x y = vanish_plain x y

signed_zero : (b : Bool) → signed b (pos 0) ≡ pos 0
signed_zero true = refl
signed_zero false = refl

and_true : (a b : Bool) → a && b ≡ true → (a ≡ true) × (b ≡ true)
and_true true true e = (refl, refl)
and_true true false e = absurd (true≢false (sym e))
and_true false b e = absurd (true≢false (sym e))

and_false : (a b : Bool) → a && b ≡ false → a ≡ true → b ≡ false
and_false true b e h = e
and_false false b e h = absurd (true≢false (sym h))

module _ (n : ℕ) (l : ℕ → ℕ → ℤ) (k : ℕ) (s : State) (h : Reached n l k s) (hk : k < n) (pivot : is_zero (s.m k k).num ≡ false) where
  abbrev sign : Bool
  sign = is_negative (h.m k k)

  abbrev v : ℤ
  v = signed sign (h.m k k)

  abbrev u : ℕ → ℤ
  u b = cond (eqb b k) (pos 0) (neg_ℤ (signed sign (h.m k b)))

  pivot_value : is_zero (h.m k k) ≡ false
  pivot_value = sym (zero_by_value (h.m_means k k hk hk)) ∙ pivot

  v_positive : is_positive v ≡ true
  v_positive = signed_positive (h.m k k) pivot_value

  u_at : u k ≡ pos 0
  u_at = ap (λ b. cond b (pos 0) (neg_ℤ (signed sign (h.m k k)))) (eq-eqb k k refl)

  u_other : (b : ℕ) → b ≢ k → u b ≡ neg_ℤ (signed sign (h.m k b))
  u_other b other = ap (λ c. cond c (pos 0) (neg_ℤ (signed sign (h.m k b)))) (ne_eqb b k other)

  -- row k, but for the place k, becomes 0
  row_vanishes : (b : ℕ) → b ≢ k → v *ℤ h.m k b +ℤ u b *ℤ h.m k k ≡ pos 0
  row_vanishes b other = ap (λ w. v *ℤ h.m k b +ℤ w *ℤ h.m k k) (u_other b other) ∙ vanish sign (h.m k b) (h.m k k)

  cleared_later : (b : ℕ) → is_cleared k s.m b ≡ true → k < b
  cleared_later b e = ltb-true k b (and_true (ltb k b) (not (is_zero (s.m k b).num)) e).0

  cleared_other : (b : ℕ) → is_cleared k s.m b ≡ true → b ≢ k
  cleared_other b e = let later : k < b = cleared_later b e in λ same. omega arith

  -- the entries of row k that are not cleared are 0
  entry_zero : (b : ℕ) → b < n → is_cleared k s.m b ≡ false → b ≢ k → h.m k b ≡ pos 0
  entry_zero b hb e other =
      elim (ltb k b) as (λ c. ltb k b ≡ c → h.m k b ≡ pos 0) [
        | true ↦ λ after.
            is_zero_means (h.m k b) (sym (zero_by_value (h.m_means k b hk hb)) ∙ not-false (is_zero (s.m k b).num) (and_false (ltb k b) (not (is_zero (s.m k b).num)) e after))
        | false ↦ λ before.
            let not_after : b ≤ k = ltb-false k b before in
            h.moved.symmetric k b hk hb ∙ h.cleared b k (omega arith) hb hk (λ same. other (sym same))
      ] refl

  u_zero : (b : ℕ) → b < n → is_cleared k s.m b ≡ false → u b ≡ pos 0
  u_zero b hb e =
      elim (eqb b k) as (λ c. eqb b k ≡ c → u b ≡ pos 0) [
        | true ↦ λ same. ap u (eqb-true b k same) ∙ u_at
        | false ↦ λ other. u_other b (eqb-false b k other) ∙ ap (λ w. neg_ℤ (signed sign w)) (entry_zero b hb e (eqb-false b k other)) ∙ ap neg_ℤ (signed_zero sign)
      ] refl

  ratio_means : (b : ℕ) → b < n → Means (ratio (s.m k b) (s.m k k)) (signed sign (h.m k b)) v
  ratio_means b hb = Means-ratio (h.m_means k b hk hb) (h.m_means k k hk hk) pivot_value

  abbrev new_p : ℕ → ℕ → ℤ
  new_p a b = v *ℤ h.p a b +ℤ u b *ℤ h.p a k

  p_means : (a b : ℕ) → a < n → b < n → Means (clear_columns k s.m s.p a b) (new_p a b) (v *ℤ h.op)
  p_means a b ha hb =
      elim (is_cleared k s.m b) as (λ c. is_cleared k s.m b ≡ c → Means (cond c (minus (s.p a b) (times (ratio (s.m k b) (s.m k k)) (s.p a k))) (s.p a b)) (new_p a b) (v *ℤ h.op)) [
        | true ↦ λ e. Means-eq
            (clear_first v (h.p a b) (signed sign (h.m k b)) (h.p a k) ∙ ap (λ w. v *ℤ h.p a b +ℤ w *ℤ h.p a k) (sym (u_other b (cleared_other b e)))) refl
            (Means-minus (Means-scaled v v_positive (h.p_means a b ha hb)) (Means-times (ratio_means b hb) (h.p_means a k ha hk)))
        | false ↦ λ e. Means-eq
            (sym (ap (λ w. v *ℤ h.p a b +ℤ w *ℤ h.p a k) (u_zero b hb e) ∙ ap (λ w. v *ℤ h.p a b +ℤ w) (zero_times (h.p a k)) ∙ plus_zero (v *ℤ h.p a b))) refl
            (Means-scaled v v_positive (h.p_means a b ha hb))
      ] refl

  gathered_means : (b : ℕ) → b < n → (c : ℕ) → c ≤ n → Means (gathered k s.m s.q b c) (v *ℤ h.q k b +ℤ total c (λ t. neg_ℤ (u t) *ℤ h.q t b)) (v *ℤ h.oq)
  gathered_means b hb zero le = Means-eq (sym (plus_zero (v *ℤ h.q k b))) refl (Means-scaled v v_positive (h.q_means k b hk hb))
  gathered_means b hb (suc c) le =
      let hc : c < n = omega arith in
      let so_far : Means (gathered k s.m s.q b c) (v *ℤ h.q k b +ℤ total c (λ t. neg_ℤ (u t) *ℤ h.q t b)) (v *ℤ h.oq) = gathered_means b hb c (omega arith) in
      elim (is_cleared k s.m c) as (λ w. is_cleared k s.m c ≡ w →
      Means (cond w (plus (gathered k s.m s.q b c) (times (ratio (s.m k c) (s.m k k)) (s.q c b))) (gathered k s.m s.q b c)) (v *ℤ h.q k b +ℤ (total c (λ t. neg_ℤ (u t) *ℤ h.q t b) +ℤ neg_ℤ (u c) *ℤ h.q c b)) (v *ℤ h.oq)) [
        | true ↦ λ e. Means-eq
            (plus_assoc (v *ℤ h.q k b) (total c (λ t. neg_ℤ (u t) *ℤ h.q t b)) (signed sign (h.m k c) *ℤ h.q c b)
            ∙ ap (λ w. v *ℤ h.q k b +ℤ (total c (λ t. neg_ℤ (u t) *ℤ h.q t b) +ℤ w *ℤ h.q c b)) (sym (ap neg_ℤ (u_other c (cleared_other c e)) ∙ twice_negative (signed sign (h.m k c))))) refl
            (Means-plus so_far (Means-times (ratio_means c hc) (h.q_means c b hc hb)))
        | false ↦ λ e. Means-eq
            (ap (λ w. v *ℤ h.q k b +ℤ w) (sym (ap (λ w. total c (λ t. neg_ℤ (u t) *ℤ h.q t b) +ℤ neg_ℤ w *ℤ h.q c b) (u_zero c hc e) ∙ ap (λ w. total c (λ t. neg_ℤ (u t) *ℤ h.q t b) +ℤ w) (zero_times (h.q c b)) ∙ plus_zero (total c (λ t. neg_ℤ (u t) *ℤ h.q t b))))) refl
            so_far
      ] refl

  abbrev new_q : ℕ → ℕ → ℤ
  new_q a b = v *ℤ h.q a b +ℤ single k (total n (λ t. neg_ℤ (u t) *ℤ h.q t b)) a

  q_means : (a b : ℕ) → a < n → b < n → Means (cond (eqb a k) (gathered k s.m s.q b n) (s.q a b)) (new_q a b) (v *ℤ h.oq)
  q_means a b ha hb =
      elim (eqb a k) as (λ c. eqb a k ≡ c → Means (cond c (gathered k s.m s.q b n) (s.q a b)) (v *ℤ h.q a b +ℤ cond c (total n (λ t. neg_ℤ (u t) *ℤ h.q t b)) (pos 0)) (v *ℤ h.oq)) [
        | true ↦ λ e. Means-eq (ap (λ t. v *ℤ h.q t b +ℤ total n (λ t. neg_ℤ (u t) *ℤ h.q t b)) (sym (eqb-true a k e))) refl (gathered_means b hb n (omega arith))
        | false ↦ λ e. Means-eq (sym (plus_zero (v *ℤ h.q a b))) refl (Means-scaled v v_positive (h.q_means a b ha hb))
      ] refl

  abbrev new_m : ℕ → ℕ → ℤ
  new_m a b = v *ℤ (v *ℤ h.m a b +ℤ u b *ℤ h.m a k) +ℤ u a *ℤ (v *ℤ h.m k b +ℤ u b *ℤ h.m k k)

  -- the new matrix at each kind of place
  new_row : (b : ℕ) → b ≢ k → new_m k b ≡ pos 0
  new_row b other =
      ap₂ (λ x y. v *ℤ x +ℤ u k *ℤ y) (row_vanishes b other) (row_vanishes b other) ∙ ap₂ (λ x y. x +ℤ y) (times_zero v) (times_zero (u k))

  new_column : (a : ℕ) → a < n → a ≢ k → new_m a k ≡ pos 0
  new_column a ha other =
      ap₂ (λ x y. v *ℤ (v *ℤ x +ℤ y *ℤ h.m a k) +ℤ u a *ℤ (v *ℤ h.m k k +ℤ y *ℤ h.m k k)) (h.moved.symmetric a k ha hk) u_at
      ∙ column_step v (h.m k a) (u a) (h.m k k) (h.m a k)
      ∙ ap (λ w. v *ℤ w) (row_vanishes a other)
      ∙ times_zero v

  new_pivot : new_m k k ≡ v *ℤ v *ℤ h.m k k
  new_pivot = ap (λ w. v *ℤ (v *ℤ h.m k k +ℤ w *ℤ h.m k k) +ℤ w *ℤ (v *ℤ h.m k k +ℤ w *ℤ h.m k k)) u_at ∙ pivot_step v (h.m k k)

  new_inner : (a b : ℕ) → b ≢ k → new_m a b ≡ v *ℤ (v *ℤ h.m a b +ℤ u b *ℤ h.m a k)
  new_inner a b other = ap (λ w. v *ℤ (v *ℤ h.m a b +ℤ u b *ℤ h.m a k) +ℤ u a *ℤ w) (row_vanishes b other) ∙ sym (once_more v (v *ℤ h.m a b +ℤ u b *ℤ h.m a k) (u a))

  -- where a is not met, column k is 0 there
  column_zero : (a : ℕ) → a < n → is_met k s.m a ≡ false → a ≢ k → h.m a k ≡ pos 0
  column_zero a ha e other =
      elim (ltb k a) as (λ c. ltb k a ≡ c → h.m a k ≡ pos 0) [
        | true ↦ λ after.
            is_zero_means (h.m a k) (sym (zero_by_value (h.m_means a k ha hk)) ∙ not-false (is_zero (s.m a k).num) (and_false (ltb k a) (not (is_zero (s.m a k).num)) e after))
        | false ↦ λ before.
            let not_after : a ≤ k = ltb-false k a before in
            h.cleared a k (omega arith) ha hk (λ same. other (sym same))
      ] refl

  kept_means : (a b : ℕ) → a < n → b < n → b ≢ k → u b *ℤ h.m a k ≡ pos 0 → Means (s.m a b) (new_m a b) (v *ℤ v *ℤ h.om)
  kept_means a b ha hb other none =
      Means-eq (sym (new_inner a b other ∙ ap (λ w. v *ℤ (v *ℤ h.m a b +ℤ w)) none ∙ ap (λ w. v *ℤ w) (plus_zero (v *ℤ h.m a b)) ∙ sym (times_assoc v v (h.m a b)))) refl
      (Means-scaled (v *ℤ v) (both_positive v v v_positive v_positive) (h.m_means a b ha hb))

  inner_means : (a b : ℕ) → a < n → b < n → a ≢ k → b ≢ k → (c d : Bool) → is_cleared k s.m b ≡ c → is_met k s.m a ≡ d →
      Means (cond (c && d) (minus (s.m a b) (times (s.m a k) (ratio (s.m k b) (s.m k k)))) (s.m a b)) (new_m a b) (v *ℤ v *ℤ h.om)
  inner_means a b ha hb not_a not_b false d e g = kept_means a b ha hb not_b (ap (λ w. w *ℤ h.m a k) (u_zero b hb e) ∙ zero_times (h.m a k))
  inner_means a b ha hb not_a not_b true false e g = kept_means a b ha hb not_b (ap (λ w. u b *ℤ w) (column_zero a ha g not_a) ∙ times_zero (u b))
  inner_means a b ha hb not_a not_b true true e g =
      Means-eq (sym (new_inner a b not_b ∙ ap (λ w. v *ℤ (v *ℤ h.m a b +ℤ w *ℤ h.m a k)) (u_other b not_b) ∙ ap (λ w. v *ℤ w) (sym (clear_last v (h.m a b) (signed sign (h.m k b)) (h.m a k)))))
      (sym (times_assoc v v h.om))
      (Means-scaled v v_positive (Means-minus (Means-scaled v v_positive (h.m_means a b ha hb)) (Means-eq refl (times_comm h.om v) (Means-times (h.m_means a k ha hk) (ratio_means b hb)))))

  zero_or_kept : (a b : ℕ) → a < n → b < n → (c : Bool) → new_m a b ≡ pos 0 → (c ≡ false → h.m a b ≡ pos 0) → Means (cond c (whole (pos 0)) (s.m a b)) (new_m a b) (v *ℤ v *ℤ h.om)
  zero_or_kept a b ha hb true none h0 = Means-eq (sym none) refl (Means-zero (v *ℤ v *ℤ h.om) (both_positive (v *ℤ v) h.om (both_positive v v v_positive v_positive) h.om_positive))
  zero_or_kept a b ha hb false none h0 =
      Means-eq (ap (λ w. v *ℤ v *ℤ w) (h0 refl) ∙ times_zero (v *ℤ v) ∙ sym none) refl (Means-scaled (v *ℤ v) (both_positive v v v_positive v_positive) (h.m_means a b ha hb))

  pivot_means : (a b : ℕ) → a < n → b < n → a ≡ k → b ≡ k → Means (cond (is_cleared k s.m b) (whole (pos 0)) (s.m a b)) (new_m a b) (v *ℤ v *ℤ h.om)
  pivot_means a b ha hb at_a at_b =
      elim (is_cleared k s.m b) as (λ c. is_cleared k s.m b ≡ c → Means (cond c (whole (pos 0)) (s.m a b)) (new_m a b) (v *ℤ v *ℤ h.om)) [
        | true ↦ λ e. absurd (cleared_other b e at_b)
        | false ↦ λ e. subst (λ x. Means (s.m x b) (new_m x b) (v *ℤ v *ℤ h.om)) (sym at_a)
            (subst (λ y. Means (s.m k y) (new_m k y) (v *ℤ v *ℤ h.om)) (sym at_b)
            (Means-eq (sym new_pivot) refl (Means-scaled (v *ℤ v) (both_positive v v v_positive v_positive) (h.m_means k k hk hk))))
      ] refl

  m_means : (a b : ℕ) → a < n → b < n → Means (clear_matrix k s.m a b) (new_m a b) (v *ℤ v *ℤ h.om)
  m_means a b ha hb =
      elim (eqb a k) as (λ c. eqb a k ≡ c → Means (cond c (cond (is_cleared k s.m b) (whole (pos 0)) (s.m a b)) (cond (eqb b k) (cond (is_cleared k s.m a) (whole (pos 0)) (s.m a b)) (cond (is_cleared k s.m b && is_met k s.m a) (minus (s.m a b) (times (s.m a k) (ratio (s.m k b) (s.m k k)))) (s.m a b)))) (new_m a b) (v *ℤ v *ℤ h.om)) [
        | true ↦ λ e.
            let at_a : a ≡ k = eqb-true a k e in
            elim (eqb b k) as (λ d. eqb b k ≡ d → Means (cond (is_cleared k s.m b) (whole (pos 0)) (s.m a b)) (new_m a b) (v *ℤ v *ℤ h.om)) [
              | true ↦ λ g. pivot_means a b ha hb at_a (eqb-true b k g)
              | false ↦ λ g. zero_or_kept a b ha hb (is_cleared k s.m b) (ap (λ x. new_m x b) at_a ∙ new_row b (eqb-false b k g)) (λ kept. ap (λ x. h.m x b) at_a ∙ entry_zero b hb kept (eqb-false b k g))
            ] refl
        | false ↦ λ e.
            let not_a : a ≢ k = eqb-false a k e in
            elim (eqb b k) as (λ d. eqb b k ≡ d → Means (cond d (cond (is_cleared k s.m a) (whole (pos 0)) (s.m a b)) (cond (is_cleared k s.m b && is_met k s.m a) (minus (s.m a b) (times (s.m a k) (ratio (s.m k b) (s.m k k)))) (s.m a b))) (new_m a b) (v *ℤ v *ℤ h.om)) [
              | true ↦ λ g.
                  let at_b : b ≡ k = eqb-true b k g in
                  zero_or_kept a b ha hb (is_cleared k s.m a) (ap (new_m a) at_b ∙ new_column a ha not_a) (λ kept. ap (h.m a) at_b ∙ h.moved.symmetric a k ha hk ∙ entry_zero a ha kept not_a)
              | false ↦ λ g. inner_means a b ha hb not_a (eqb-false b k g) (is_cleared k s.m b) (is_met k s.m a) refl refl
            ] refl
      ] refl

  pub Reached-clear : Reached n l (suc k) (clear n k s)
  Reached-clear = record {
    op = v *ℤ h.op;
    oq = v *ℤ h.oq;
    om = v *ℤ v *ℤ h.om;
    op_positive = both_positive v h.op v_positive h.op_positive;
    oq_positive = both_positive v h.oq v_positive h.oq_positive;
    om_positive = both_positive (v *ℤ v) h.om (both_positive v v v_positive v_positive) h.om_positive;
    p = new_p;
    q = new_q;
    m = new_m;
    p_means = p_means;
    q_means = q_means;
    m_means = m_means;
    moved = AreMoved-on n l h.op h.oq h.om h.p h.q h.m h.moved (shear k u v) (shear k (λ t. neg_ℤ (u t)) v) v (shear_inverse n k u v u_at hk) new_p new_q new_m
        (λ a b ha hb. sym (dot_shear n k u v (h.p a) b hk hb))
        (λ a b ha hb. sym (row_shear n k (λ t. neg_ℤ (u t)) v (λ t. h.q t b) a ha))
        (λ a b ha hb. sym (shear_dot n k u v (λ t. product n h.m (shear k u v) t b) a hk ha ∙ ap₂ (λ x y. v *ℤ x +ℤ u a *ℤ y) (dot_shear n k u v (h.m a) b hk hb) (dot_shear n k u v (h.m k) b hk hb)));
    cleared = λ a b before ha hb other.
        elim (eqb a k) as (λ c. eqb a k ≡ c → new_m a b ≡ pos 0) [
          | true ↦ λ e.
              let at_a : a ≡ k = eqb-true a k e in
              ap (λ x. new_m x b) at_a ∙ new_row b (λ same. other (same ∙ sym at_a))
          | false ↦ λ e.
              let not_a : a ≢ k = eqb-false a k e in
              let earlier : a < k = omega arith in
              elim (eqb b k) as (λ d. eqb b k ≡ d → new_m a b ≡ pos 0) [
                | true ↦ λ g. ap (new_m a) (eqb-true b k g) ∙ new_column a ha not_a
                | false ↦ λ g.
                    new_inner a b (eqb-false b k g)
                    ∙ ap₂ (λ x y. v *ℤ (v *ℤ x +ℤ u b *ℤ y)) (h.cleared a b earlier ha hb other) (h.cleared a k earlier ha hk (λ same. not_a (sym same)))
                    ∙ ap₂ (λ x y. v *ℤ (x +ℤ y)) (times_zero v) (times_zero (u b))
                    ∙ times_zero v
              ] refl
        ] refl;
  }
