-- A certificate in fractions, with its denominators multiplied out.
use Rattle.std.proofs.Common.{◌≡◌, ℕ, zero, suc, ◌+◌, ◌<◌, ◌≢◌, ℤ, pos, ◌*ℤ◌, true, false, cond, eqb, refl, sym, ap, subst, ◌∙◌, arith}
use Rattle.std.proofs.lemmas.Bool.{eqb-true, eqb-false}
use Rattle.ring_identities.proofs.Integers.{times_comm}
use Rattle.inertia_laws.specs.Matrices.{product, is_zero, is_positive, is_negative}
use Rattle.inertia_laws.specs.Fractions.{Fraction}
use Rattle.inertia_laws.specs.Inertia.{Diagonalises}
use Rattle.inertia_laws.specs.Certificates.{IsCertificate, positives, negatives, zeros, bordered}
use Rattle.inertia_laws.proofs.Values.{Means, Means-itself, Means-whole, Means-scaled, Means-eq, Means-multiply, Means-total, same_value, both_positive, not_zero, zero_by_value, positive_by_value, negative_by_value}
use Rattle.inertia_laws.proofs.Moves.{single_flip}
use Rattle.inertia_laws.proofs.Sylvester.{sylvester}
use Rattle.inertia_laws.proofs.Border.{border_counts}
use Rattle.inertia_laws.proofs.Eliminated.{unit_over, diagonal_over}
use Rattle.inertia_laws.proofs.Counts.{count_agree}

-- whole numbers over one denominator
record Common (n : ℕ) (f : ℕ → Fraction) : Type 0 where
  over : ℤ
  over_positive : is_positive over ≡ true
  a : ℕ → ℤ
  means : (i : ℕ) → i < n → Means (f i) (a i) over

common : (n : ℕ) (f : ℕ → Fraction) → ((i : ℕ) → i < n → is_positive (f i).den ≡ true) → Common n f
common zero f h = record { over = pos 1; over_positive = refl; a = λ i. pos 0; means = λ i below. absurd (omega arith) }
common (suc n) f h =
    let c : Common n f = common n f (λ i below. h i (omega arith)) in
    let last : n < suc n = omega arith in
    let den : is_positive (f n).den ≡ true = h n last in
    record {
      over = (f n).den *ℤ c.over;
      over_positive = both_positive (f n).den c.over den c.over_positive;
      a = λ i. cond (eqb i n) (c.over *ℤ (f n).num) ((f n).den *ℤ c.a i);
      means = λ i below.
          elim (eqb i n) as (λ b. eqb i n ≡ b → Means (f i) (cond b (c.over *ℤ (f n).num) ((f n).den *ℤ c.a i)) ((f n).den *ℤ c.over)) [
            | true ↦ λ e. subst (λ t. Means (f t) (c.over *ℤ (f n).num) ((f n).den *ℤ c.over)) (sym (eqb-true i n e))
                (Means-eq refl (times_comm c.over (f n).den) (Means-scaled c.over c.over_positive (Means-itself (f n) den)))
            | false ↦ λ e. let other : i ≢ n = eqb-false i n e in Means-scaled (f n).den den (c.means i (omega arith))
          ] refl;
    }

record CommonMatrix (k n : ℕ) (f : ℕ → ℕ → Fraction) : Type 0 where
  over : ℤ
  over_positive : is_positive over ≡ true
  a : ℕ → ℕ → ℤ
  means : (i j : ℕ) → i < k → j < n → Means (f i j) (a i j) over

common_matrix : (k n : ℕ) (f : ℕ → ℕ → Fraction) → ((i j : ℕ) → i < k → j < n → is_positive (f i j).den ≡ true) → CommonMatrix k n f
common_matrix zero n f h = record { over = pos 1; over_positive = refl; a = λ i j. pos 0; means = λ i j below within. absurd (omega arith) }
common_matrix (suc k) n f h =
    let c : CommonMatrix k n f = common_matrix k n f (λ i j below within. h i j (omega arith) within) in
    let last : k < suc k = omega arith in
    let r : Common n (f k) = common n (f k) (λ j within. h k j last within) in
    record {
      over = r.over *ℤ c.over;
      over_positive = both_positive r.over c.over r.over_positive c.over_positive;
      a = λ i j. cond (eqb i k) (c.over *ℤ r.a j) (r.over *ℤ c.a i j);
      means = λ i j below within.
          elim (eqb i k) as (λ b. eqb i k ≡ b → Means (f i j) (cond b (c.over *ℤ r.a j) (r.over *ℤ c.a i j)) (r.over *ℤ c.over)) [
            | true ↦ λ e. subst (λ t. Means (f t j) (c.over *ℤ r.a j) (r.over *ℤ c.over)) (sym (eqb-true i k e))
                (Means-eq refl (times_comm c.over r.over) (Means-scaled c.over c.over_positive (r.means j within)))
            | false ↦ λ e. let other : i ≢ k = eqb-false i k e in Means-scaled r.over r.over_positive (c.means i j (omega arith) within)
          ] refl;
    }

-- the whole numbers of a certificate
pub record Cleared (n : ℕ) (l : ℕ → ℕ → ℤ) (diagonal : ℕ → Fraction) : Type 0 where
  pub p : ℕ → ℕ → ℤ
  pub q : ℕ → ℕ → ℤ
  pub d : ℕ → ℤ
  pub over : ℤ
  pub means : (i : ℕ) → i < n → Means (diagonal i) (d i) over
  pub diagonalises : Diagonalises n l p q d

pub clear_denominators : (n : ℕ) (l : ℕ → ℕ → ℤ) (p q : ℕ → ℕ → Fraction) (diagonal : ℕ → Fraction) → IsCertificate n l p q diagonal → Cleared n l diagonal
clear_denominators n l p q diagonal h =
    let x : CommonMatrix n n p = common_matrix n n p h.positive_p in
    let y : CommonMatrix n n q = common_matrix n n q h.positive_q in
    let z : Common n diagonal = common n diagonal h.positive_diagonal in
    let over : ℤ = x.over *ℤ y.over in
    let over_positive : is_positive over ≡ true = both_positive x.over y.over x.over_positive y.over_positive in
    let square : ℤ = x.over *ℤ (pos 1 *ℤ x.over) in
    let inner_positive : is_positive (pos 1 *ℤ x.over) ≡ true = both_positive (pos 1) x.over refl x.over_positive in
    let square_positive : is_positive square ≡ true = both_positive x.over (pos 1 *ℤ x.over) x.over_positive inner_positive in
    record {
      p = x.a;
      q = y.a;
      d = z.a;
      over = z.over;
      means = z.means;
      diagonalises = record {
        side = over;
        side_not_zero = not_zero over over_positive;
        inverse = λ i j hi hj.
            same_value
            (Means-total n _ (λ k. x.a i k *ℤ y.a k j) over over_positive (λ k hk. Means-multiply (x.means i k hi hk) (y.means k j hk hj)))
            (unit_over over over_positive (eqb i j))
            (h.inverse i j hi hj)
            ∙ single_flip j over i;
        from = z.over;
        from_positive = z.over_positive;
        to = square;
        to_positive = square_positive;
        congruence = λ i j hi hj.
            same_value
            (Means-scaled z.over z.over_positive
            (Means-total n _ (λ a. x.a a i *ℤ product n l x.a a j) square square_positive
            (λ a ha. Means-multiply (x.means a i ha hi)
            (Means-total n _ (λ b. l a b *ℤ x.a b j) (pos 1 *ℤ x.over) inner_positive (λ b hb. Means-multiply (Means-whole (l a b)) (x.means b j hb hj))))))
            (Means-eq refl (times_comm square z.over)
            (diagonal_over (Means-scaled square square_positive (z.means i hi)) (eqb i j) (cond (eqb i j) (square *ℤ z.a i) (pos 0))
            (λ e. ap (λ b. cond b (square *ℤ z.a i) (pos 0)) e) (λ e. ap (λ b. cond b (square *ℤ z.a i) (pos 0)) e)))
            (h.congruence i j hi hj)
            ∙ single_flip j (square *ℤ z.a i) i;
      };
    }

-- Sylvester's law
pub same_inertia : (n : ℕ) (l : ℕ → ℕ → ℤ) (p q : ℕ → ℕ → Fraction) (d : ℕ → Fraction) (p' q' : ℕ → ℕ → Fraction) (d' : ℕ → Fraction) →
    IsCertificate n l p q d → IsCertificate n l p' q' d' → (positives n d ≡ positives n d') × (negatives n d ≡ negatives n d') × (zeros n d ≡ zeros n d')
same_inertia n l p q d p' q' d' h g =
    let c : Cleared n l d = clear_denominators n l p q d h in
    let e : Cleared n l d' = clear_denominators n l p' q' d' g in
    let same = sylvester n l c.p c.q c.d c.diagonalises e.p e.q e.d e.diagonalises in (
      count_agree n _ _ (λ i below. positive_by_value (c.means i below)) ∙ same.0 ∙ sym (count_agree n _ _ (λ i below. positive_by_value (e.means i below))),
      count_agree n _ _ (λ i below. negative_by_value (c.means i below)) ∙ same.1 ∙ sym (count_agree n _ _ (λ i below. negative_by_value (e.means i below))),
      count_agree n _ _ (λ i below. zero_by_value (c.means i below)) ∙ same.2 ∙ sym (count_agree n _ _ (λ i below. zero_by_value (e.means i below))),
    )

-- bordered by e alone: the count of e's sign rises by one, and the others stay
pub bordered_inertia : (n : ℕ) (l : ℕ → ℕ → ℤ) (e : ℤ) (p q : ℕ → ℕ → Fraction) (d : ℕ → Fraction) (p' q' : ℕ → ℕ → Fraction) (d' : ℕ → Fraction) →
    IsCertificate n l p q d → IsCertificate (suc n) (bordered n e l) p' q' d' →
    (positives (suc n) d' ≡ positives n d + cond (is_positive e) 1 0) × (negatives (suc n) d' ≡ negatives n d + cond (is_negative e) 1 0) × (zeros (suc n) d' ≡ zeros n d + cond (is_zero e) 1 0)
bordered_inertia n l e p q d p' q' d' h g =
    let c : Cleared n l d = clear_denominators n l p q d h in
    let f : Cleared (suc n) (bordered n e l) d' = clear_denominators (suc n) (bordered n e l) p' q' d' g in
    let counts = border_counts n l c.p c.q c.d c.diagonalises e f.p f.q f.d f.diagonalises in (
      count_agree (suc n) _ _ (λ i below. positive_by_value (f.means i below)) ∙ counts.0 ∙ ap (λ x. x + cond (is_positive e) 1 0) (sym (count_agree n _ _ (λ i below. positive_by_value (c.means i below)))),
      count_agree (suc n) _ _ (λ i below. negative_by_value (f.means i below)) ∙ counts.1 ∙ ap (λ x. x + cond (is_negative e) 1 0) (sym (count_agree n _ _ (λ i below. negative_by_value (c.means i below)))),
      count_agree (suc n) _ _ (λ i below. zero_by_value (f.means i below)) ∙ counts.2 ∙ ap (λ x. x + cond (is_zero e) 1 0) (sym (count_agree n _ _ (λ i below. zero_by_value (c.means i below)))),
    )
