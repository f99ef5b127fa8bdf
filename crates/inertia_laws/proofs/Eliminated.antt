-- The elimination always gives a certificate.
use Rattle.std.proofs.Common.{◌≡◌, ℕ, zero, suc, ◌+◌, ◌-◌, ◌<◌, ◌≤◌, ◌≢◌, [], ◌∷◌, ℤ, pos, ◌+ℤ◌, ◌*ℤ◌, Bool, true, false, not, cond, eqb, ltb, Option, Some, None, refl, sym, ap, ◌∙◌, arith}
use Rattle.std.proofs.lemmas.Int.{ints}
use Rattle.std.proofs.lemmas.Bool.{eqb-true, eqb-false, eq-eqb, true≢false, ltb-true, ltb-false, not-true, not-false}
use Rattle.ring_identities.proofs.Identities.{reads, by_ring}
use Rattle.ring_identities.proofs.Integers.{times_zero, times_comm}
use Rattle.inertia_laws.specs.Matrices.{product, is_zero, is_positive}
use Rattle.inertia_laws.specs.Fractions.{Fraction, whole}
use Rattle.inertia_laws.specs.Certificates.{IsCertificate}
use Rattle.inertia_laws.specs.Elimination.{State, start, exchanged, exchange, add_place, clear, first_from, or_added, or_exchanged, prepared, step, steps, eliminated}
use Rattle.inertia_laws.proofs.Signs.{is_zero_means, zero_of_times}
use Rattle.inertia_laws.proofs.Values.{Means, Means-whole, Means-scaled, Means-eq, Means-multiply, Means-zero, Means-total, zero_by_value, equal_by_value, both_positive}
use Rattle.inertia_laws.proofs.Moves.{single_flip}
use Rattle.inertia_laws.proofs.Steps.{Reached, Reached-start, Reached-exchange, Reached-add, added_pivot}
use Rattle.inertia_laws.proofs.Clear.{Reached-clear}
use Rattle.inertia_laws.proofs.Totals.{single_at}

first_cases : (count i : ℕ) (test : ℕ → Bool) (R : Option ℕ → Type 0) →
    ((j : ℕ) → i ≤ j → j < i + count → test j ≡ true → R (Some j)) → (((j : ℕ) → i ≤ j → j < i + count → test j ≡ false) → R None) → R (first_from count i test)
first_cases zero i test R found none = none (λ j a b. absurd (omega arith))
first_cases (suc c) i test R found none =
    elim (test i) as (λ v. test i ≡ v → R (cond v (Some i) (first_from c (suc i) test))) [
      | true ↦ λ e. found i (omega arith) (omega arith) e
      | false ↦ λ e. first_cases c (suc i) test R (λ j a b t. found j (omega arith) (omega arith) t)
          (λ none_after. none (λ j a b.
          elim (eqb j i) as (λ w. eqb j i ≡ w → test j ≡ false) [
            | true ↦ λ g. ap test (eqb-true j i g) ∙ e
            | false ↦ λ g. let other : j ≢ i = eqb-false j i g in none_after j (omega arith) (omega arith)
          ] refl))
    ] refl

-- where the entry at k is 0, so is the rest of its row
record Ready (n : ℕ) (l : ℕ → ℕ → ℤ) (k : ℕ) (s : State) : Type 0 where
  reached : Reached n l k s
  empty : is_zero (s.m k k).num ≡ true → (j : ℕ) → k < j → j < n → reached.m k j ≡ pos 0

twice : (x y z w : ℤ) → x ≡ pos 0 → w ≡ pos 0 → z ≡ y → pos 1 *ℤ (pos 1 *ℤ x +ℤ pos 1 *ℤ y) +ℤ pos 1 *ℤ (pos 1 *ℤ z +ℤ pos 1 *ℤ w) ≡ pos 2 *ℤ y
twice x y z w e f g = omega (arith, ints)

ready_exchange : (n : ℕ) (l : ℕ → ℕ → ℤ) (k : ℕ) (s : State) → Reached n l k s → (j : ℕ) → k < j → j < n → not (is_zero (s.m j j).num) ≡ true → Ready n l k (exchange k j s)
ready_exchange n l k s h j later within test = record {
  reached = Reached-exchange n l k s h j later within;
  empty = λ z i a b.
      let there : exchanged k j k ≡ j = ap (λ c. cond c j (cond (eqb k j) k k)) (eq-eqb k k refl) in
      absurd (true≢false (sym z ∙ ap (λ t. is_zero (s.m t t).num) there ∙ not-true (is_zero (s.m j j).num) test));
}

ready_add : (n : ℕ) (l : ℕ → ℕ → ℤ) (k : ℕ) (s : State) (h : Reached n l k s) → (j : ℕ) → k < j → j < n → is_zero (s.m k k).num ≡ true → is_zero (s.m j j).num ≡ true → not (is_zero (s.m k j).num) ≡ true → Ready n l k (add_place k j s)
ready_add n l k s h j later within first second test =
    let hk : k < n = omega arith in
    let at_k : h.m k k ≡ pos 0 = is_zero_means (h.m k k) (sym (zero_by_value (h.m_means k k hk hk)) ∙ first) in
    let at_j : h.m j j ≡ pos 0 = is_zero_means (h.m j j) (sym (zero_by_value (h.m_means j j within within)) ∙ second) in
    let apart : is_zero (h.m k j) ≡ false = sym (zero_by_value (h.m_means k j hk within)) ∙ not-true (is_zero (s.m k j).num) test in
    let next = Reached-add n l k s h j later within in
    let value : next.m k k ≡ pos 2 *ℤ h.m k j =
    added_pivot n l k s h j later within
    ∙ ap (λ c. pos 1 *ℤ (pos 1 *ℤ h.m k k +ℤ c *ℤ h.m k j) +ℤ c *ℤ (pos 1 *ℤ h.m j k +ℤ c *ℤ h.m j j)) (single_at k (pos 1))
    ∙ twice (h.m k k) (h.m k j) (h.m j k) (h.m j j) at_k at_j (h.moved.symmetric j k within hk) in
    record {
      reached = next;
      empty = λ z i a b. absurd (true≢false (sym z ∙ zero_by_value (next.m_means k k hk hk) ∙ ap is_zero value ∙ zero_of_times (pos 2) (h.m k j) refl ∙ apart));
    }

ready : (n : ℕ) (l : ℕ → ℕ → ℤ) (k : ℕ) (s : State) → Reached n l k s → k < n → Ready n l k (prepared n k s)
ready n l k s h hk =
    elim (is_zero (s.m k k).num) as (λ v. is_zero (s.m k k).num ≡ v → Ready n l k (cond v (or_exchanged n k s (first_from (n - suc k) (suc k) (λ j. not (is_zero (s.m j j).num)))) s)) [
      | false ↦ λ e. record { reached = h; empty = λ z j a b. absurd (true≢false (sym z ∙ e)) }
      | true ↦ λ e. first_cases (n - suc k) (suc k) (λ j. not (is_zero (s.m j j).num)) (λ r. Ready n l k (or_exchanged n k s r))
          (λ j a b test. ready_exchange n l k s h j (omega arith) (omega arith) test)
          (λ no_diagonal. first_cases (n - suc k) (suc k) (λ j. not (is_zero (s.m k j).num)) (λ r. Ready n l k (or_added k s r))
          (λ j a b test. ready_add n l k s h j (omega arith) (omega arith) e (not-false (is_zero (s.m j j).num) (no_diagonal j a b)) test)
          (λ no_row. record {
            reached = h;
            empty = λ z j a b.
                let hj : j < suc k + (n - suc k) = omega arith in
                is_zero_means (h.m k j) (sym (zero_by_value (h.m_means k j hk b)) ∙ not-false (is_zero (s.m k j).num) (no_row j (omega arith) hj));
          }))
    ] refl

pass_empty : (n : ℕ) (l : ℕ → ℕ → ℤ) (k : ℕ) (s : State) (r : Ready n l k s) → k < n → is_zero (s.m k k).num ≡ true → Reached n l (suc k) s
pass_empty n l k s r hk e =
    let h : Reached n l k s = r.reached in
    record {
      op = h.op;
      oq = h.oq;
      om = h.om;
      op_positive = h.op_positive;
      oq_positive = h.oq_positive;
      om_positive = h.om_positive;
      p = h.p;
      q = h.q;
      m = h.m;
      p_means = h.p_means;
      q_means = h.q_means;
      m_means = h.m_means;
      moved = h.moved;
      cleared = λ a b before ha hb other.
          elim (eqb a k) as (λ c. eqb a k ≡ c → h.m a b ≡ pos 0) [
            | false ↦ λ g. let not_k : a ≢ k = eqb-false a k g in h.cleared a b (omega arith) ha hb other
            | true ↦ λ g.
                let at_k : a ≡ k = eqb-true a k g in
                elim (ltb k b) as (λ c. ltb k b ≡ c → h.m a b ≡ pos 0) [
                  | true ↦ λ after. ap (λ x. h.m x b) at_k ∙ r.empty e b (ltb-true k b after) hb
                  | false ↦ λ not_after.
                      let le : b ≤ k = ltb-false k b not_after in
                      h.moved.symmetric a b ha hb ∙ h.cleared b a (omega arith) hb ha (λ same. other (sym same))
                ] refl
          ] refl;
    }

pub Reached-step : (n : ℕ) (l : ℕ → ℕ → ℤ) (k : ℕ) (s : State) → Reached n l k s → k < n → Reached n l (suc k) (step n k s)
Reached-step n l k s h hk =
    let t : State = prepared n k s in
    let r : Ready n l k t = ready n l k s h hk in
    elim (is_zero (t.m k k).num) as (λ v. is_zero (t.m k k).num ≡ v → Reached n l (suc k) (cond v t (clear n k t))) [
      | true ↦ λ e. pass_empty n l k t r hk e
      | false ↦ λ e. Reached-clear n l k t r.reached hk e
    ] refl

pub Reached-steps : (n : ℕ) (l : ℕ → ℕ → ℤ) → ((i j : ℕ) → i < n → j < n → l i j ≡ l j i) → (k : ℕ) → k ≤ n → Reached n l k (steps n k (start l))
Reached-steps n l symmetric zero h = Reached-start n l symmetric
Reached-steps n l symmetric (suc k) h = Reached-step n l k (steps n k (start l)) (Reached-steps n l symmetric k (omega arith)) (omega arith)

-- ---- the certificate in fractions
regroup : (a b : ℤ) → a *ℤ a *ℤ b ≡ b *ℤ (a *ℤ (pos 1 *ℤ a))
regroup a b = by_ring (a ∷ b ∷ []) (search reads depth 30) (search reads depth 30) refl

pub unit_over : (d : ℤ) → is_positive d ≡ true → (b : Bool) → Means (cond b (whole (pos 1)) (whole (pos 0))) (cond b d (pos 0)) d
unit_over d e true = record { den_positive = refl; over_positive = e; is = times_comm (pos 1) d }
unit_over d e false = Means-zero d e

pub diagonal_over : {x : Fraction} {a d : ℤ} → Means x a d → (b : Bool) (z : ℤ) → (b ≡ true → z ≡ a) → (b ≡ false → z ≡ pos 0) → Means (cond b x (whole (pos 0))) z d
diagonal_over {x} {a} {d} h true z e f = Means-eq (sym (e refl)) refl h
diagonal_over {x} {a} {d} h false z e f = Means-eq (sym (f refl)) refl (Means-zero d h.over_positive)

pub certificate : (n : ℕ) (l : ℕ → ℕ → ℤ) (s : State) → Reached n l n s → IsCertificate n l s.p s.q (λ i. s.m i i)
certificate n l s h =
    let over : ℤ = h.op *ℤ h.oq in
    let over_positive : is_positive over ≡ true = both_positive h.op h.oq h.op_positive h.oq_positive in
    let square : ℤ = h.op *ℤ (pos 1 *ℤ h.op) in
    let inner_positive : is_positive (pos 1 *ℤ h.op) ≡ true = both_positive (pos 1) h.op refl h.op_positive in
    let square_positive : is_positive square ≡ true = both_positive h.op (pos 1 *ℤ h.op) h.op_positive inner_positive in
    record {
      positive_p = λ i j hi hj. (h.p_means i j hi hj).den_positive;
      positive_q = λ i j hi hj. (h.q_means i j hi hj).den_positive;
      positive_diagonal = λ i hi. (h.m_means i i hi hi).den_positive;
      inverse = λ i j hi hj. equal_by_value
          (Means-eq (h.moved.inverse i j hi hj ∙ single_flip i over j) refl
          (Means-total n _ (λ k. h.p i k *ℤ h.q k j) over over_positive (λ k hk. Means-multiply (h.p_means i k hi hk) (h.q_means k j hk hj))))
          (unit_over over over_positive (eqb i j));
      congruence = λ i j hi hj. equal_by_value
          (Means-eq (h.moved.congruence i j hi hj) refl
          (Means-scaled h.om h.om_positive
          (Means-total n _ (λ a. h.p a i *ℤ product n l h.p a j) square square_positive
          (λ a ha. Means-multiply (h.p_means a i ha hi)
          (Means-total n _ (λ b. l a b *ℤ h.p b j) (pos 1 *ℤ h.op) inner_positive (λ b hb. Means-multiply (Means-whole (l a b)) (h.p_means b j hb hj)))))))
          (Means-eq refl (regroup h.op h.om)
          (diagonal_over (Means-scaled (h.op *ℤ h.op) (both_positive h.op h.op h.op_positive h.op_positive) (h.m_means i i hi hi)) (eqb i j) (h.op *ℤ h.op *ℤ h.m i j)
          (λ e. ap (λ t. h.op *ℤ h.op *ℤ h.m i t) (sym (eqb-true i j e)))
          (λ e. ap (λ w. h.op *ℤ h.op *ℤ w) (h.cleared i j hi hi hj (λ same. eqb-false i j e (sym same))) ∙ times_zero (h.op *ℤ h.op))));
    }

pub eliminated_certifies : (n : ℕ) (l : ℕ → ℕ → ℤ) → ((i j : ℕ) → i < n → j < n → l i j ≡ l j i) → IsCertificate n l (eliminated n l).p (eliminated n l).q (λ i. (eliminated n l).m i i)
eliminated_certifies n l symmetric = certificate n l (eliminated n l) (Reached-steps n l symmetric n (omega arith))
