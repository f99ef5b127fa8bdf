-- Sylvester's law: two certificates of one matrix have the same counts.
--
-- Let the first have more positive entries than the second. A vector x other than zero is wanted at which Q x is 0 wherever
-- the first diagonal isn't positive, and the second one's Q x is 0 wherever its diagonal is: these are fewer equations than
-- unknowns, so there is one (Equations). Then the form of L at x is above 0 by the first certificate, for it is a sum of squares
-- with positive factors, and not above 0 by the second. The negative entries follow with the sign exchanged, the zeros by counting.
use Rattle.std.proofs.Common.{◌≡◌, ℕ, zero, suc, ◌<◌, List, [], ◌∷◌, ◌++◌, length, ℤ, pos, negsuc, ◌*ℤ◌, true, false, not, refl, sym, ap, ap₂, ◌∙◌, arith}
use Rattle.std.proofs.lemmas.Int.{ints}
use Rattle.std.proofs.lemmas.Bool.{true≢false}
use Rattle.std.proofs.lemmas.List.{length-append}
use Rattle.ring_identities.proofs.Identities.{reads, by_ring}
use Rattle.ring_identities.proofs.Integers.{times_zero, zero_times, times_assoc}
use Rattle.inertia_laws.specs.Matrices.{total, count, is_positive, is_negative, is_zero, dot, apply, product, transpose}
use Rattle.inertia_laws.specs.Inertia.{Diagonalises, positive_count, negative_count, zero_count}
use Rattle.inertia_laws.proofs.Totals.{total_agree, total_none, total_times, apply_product, dot_apply}
use Rattle.inertia_laws.proofs.Signs.{is_zero_means, zero_of_times, positive_times, square_positive, total_not_positive, total_positive, positive_times_negative}
use Rattle.inertia_laws.specs.Equations.{Solution}
use Rattle.inertia_laws.proofs.Equations.{solve}
use Rattle.inertia_laws.proofs.Totals.{dot_single}
use Rattle.inertia_laws.proofs.Values.{swapped}
use Rattle.inertia_laws.proofs.Counts.{count_agree, count_not, three_counts}
use Rattle.inertia_laws.proofs.ChosenRows.{chosen, chosen_length, chosen_solves, solves_left, solves_right}

gathered : (y t d : ℤ) → y *ℤ (t *ℤ d *ℤ y) ≡ t *ℤ (y *ℤ y *ℤ d)
gathered y t d = by_ring (y ∷ t ∷ d ∷ []) (search reads depth 30) (search reads depth 30) refl

squared : (s x y : ℤ) → s *ℤ x *ℤ (s *ℤ y) ≡ s *ℤ s *ℤ (x *ℤ y)
squared s x y = by_ring (s ∷ x ∷ y ∷ []) (search reads depth 30) (search reads depth 30) refl

sorted : (f s e z : ℤ) → f *ℤ (s *ℤ s) *ℤ (e *ℤ z) ≡ e *ℤ (f *ℤ (s *ℤ s *ℤ z))
sorted f s e z = by_ring (f ∷ s ∷ e ∷ z ∷ []) (search reads depth 30) (search reads depth 30) refl

-- ---- the sign of one term
zero_term : (y d : ℤ) → y ≡ pos 0 → y *ℤ y *ℤ d ≡ pos 0
zero_term y d e = ap (λ u. u *ℤ u *ℤ d) e ∙ zero_times d

term_not_positive : (y d : ℤ) → (is_positive d ≡ true → y ≡ pos 0) → is_positive (y *ℤ y *ℤ d) ≡ false
term_not_positive y d h =
    elim (is_zero y) as (λ v. is_zero y ≡ v → is_positive (y *ℤ y *ℤ d) ≡ false) [
      | true ↦ λ e. ap is_positive (zero_term y d (is_zero_means y e))
      | false ↦ λ e. elim (is_positive d) as (λ v. is_positive d ≡ v → is_positive (y *ℤ y *ℤ d) ≡ false) [
        | true ↦ λ g. ap is_positive (zero_term y d (h g))
        | false ↦ λ g. positive_times (y *ℤ y) d (square_positive y e) ∙ g
      ] refl
    ] refl

positive_not_negative : (d : ℤ) → is_positive d ≡ true → is_negative d ≡ false
positive_not_negative (pos k) e = refl
positive_not_negative (negsuc k) e = cc

term_not_negative : (y d : ℤ) → (is_positive d ≡ false → y ≡ pos 0) → is_negative (y *ℤ y *ℤ d) ≡ false
term_not_negative y d h =
    elim (is_zero y) as (λ v. is_zero y ≡ v → is_negative (y *ℤ y *ℤ d) ≡ false) [
      | true ↦ λ e. ap is_negative (zero_term y d (is_zero_means y e))
      | false ↦ λ e. elim (is_positive d) as (λ v. is_positive d ≡ v → is_negative (y *ℤ y *ℤ d) ≡ false) [
        | true ↦ λ g. positive_times_negative (y *ℤ y) d (square_positive y e) ∙ positive_not_negative d g
        | false ↦ λ g. ap is_negative (zero_term y d (h g))
      ] refl
    ] refl

-- y is 0, unless its term is positive
zero_by : (y d : ℤ) → (is_positive d ≡ false → y ≡ pos 0) → (is_positive (y *ℤ y *ℤ d) ≡ true → ⊥) → y ≡ pos 0
zero_by y d h not_positive =
    elim (is_zero y) as (λ v. is_zero y ≡ v → y ≡ pos 0) [
      | true ↦ λ e. is_zero_means y e
      | false ↦ λ e. elim (is_positive d) as (λ v. is_positive d ≡ v → y ≡ pos 0) [
        | true ↦ λ g. absurd (not_positive (positive_times (y *ℤ y) d (square_positive y e) ∙ g))
        | false ↦ λ g. h g
      ] refl
    ] refl

module _ (n : ℕ) (l p q : ℕ → ℕ → ℤ) (d : ℕ → ℤ) (c : Diagonalises n l p q d) where
  -- P (Q x) is a multiple of x
  inverse_apply : (x : ℕ → ℤ) (i : ℕ) → i < n → apply n p (apply n q x) i ≡ c.side *ℤ x i
  inverse_apply x i h =
      sym (apply_product n p q x i)
      ∙ total_agree n _ _ (λ k below. ap (λ u. u *ℤ x k) (c.inverse i k h below))
      ∙ dot_single n i c.side x h

  -- the form of L at P y
  form_moved : (y : ℕ → ℤ) → c.from *ℤ dot n (apply n p y) (apply n l (apply n p y)) ≡ c.to *ℤ total n (λ i. y i *ℤ y i *ℤ d i)
  form_moved y =
      ap (λ u. c.from *ℤ u)
      (dot_apply n p y (apply n l (apply n p y))
      ∙ total_agree n _ _ (λ i below. ap (λ u. y i *ℤ u) (total_agree n _ _ (λ k within. ap (λ u. p k i *ℤ u) (sym (apply_product n l p y k))) ∙ sym (apply_product n (transpose p) (product n l p) y i))))
      ∙ sym (total_times n c.from (λ i. y i *ℤ apply n (product n (transpose p) (product n l p)) y i))
      ∙ total_agree n _ _ (λ i below.
      swapped c.from (y i) (apply n (product n (transpose p) (product n l p)) y i)
      ∙ ap (λ u. y i *ℤ u)
      (sym (total_times n c.from (λ j. product n (transpose p) (product n l p) i j *ℤ y j))
      ∙ total_agree n _ _ (λ j within. sym (times_assoc c.from (product n (transpose p) (product n l p) i j) (y j)) ∙ ap (λ u. u *ℤ y j) (c.congruence i j below within))
      ∙ dot_single n i (c.to *ℤ d i) y below)
      ∙ gathered (y i) c.to (d i))
      ∙ total_times n c.to (λ i. y i *ℤ y i *ℤ d i)

  form_scaled : (a x : ℕ → ℤ) (s : ℤ) → ((i : ℕ) → i < n → a i ≡ s *ℤ x i) → dot n a (apply n l a) ≡ s *ℤ s *ℤ dot n x (apply n l x)
  form_scaled a x s h =
      total_agree n _ _ (λ i below.
      ap₂ (λ u v. u *ℤ v) (h i below) (total_agree n _ _ (λ j within. ap (λ u. l i j *ℤ u) (h j within) ∙ swapped (l i j) s (x j)) ∙ total_times n s (λ j. l i j *ℤ x j))
      ∙ squared s (x i) (apply n l x i))
      ∙ total_times n (s *ℤ s) (λ i. x i *ℤ apply n l x i)

  -- the form of L at x has the sign of a sum of squares with the diagonal's factors; e is 1 or -1
  form_sign : (e : ℤ) (x : ℕ → ℤ) → is_positive (e *ℤ dot n x (apply n l x)) ≡ is_positive (total n (λ i. apply n q x i *ℤ apply n q x i *ℤ (e *ℤ d i)))
  form_sign e x =
      let y : ℕ → ℤ = apply n q x in
      let form : ℤ = dot n x (apply n l x) in
      let factor : is_positive (c.from *ℤ (c.side *ℤ c.side)) ≡ true = positive_times c.from (c.side *ℤ c.side) c.from_positive ∙ square_positive c.side c.side_not_zero in
      sym (positive_times (c.from *ℤ (c.side *ℤ c.side)) (e *ℤ form) factor)
      ∙ ap is_positive
      (sorted c.from c.side e form
      ∙ ap (λ u. e *ℤ u) (ap (λ u. c.from *ℤ u) (sym (form_scaled (apply n p y) x c.side (inverse_apply x))) ∙ form_moved y)
      ∙ swapped e c.to (total n (λ i. y i *ℤ y i *ℤ d i))
      ∙ ap (λ u. c.to *ℤ u) (sym (total_times n e (λ i. y i *ℤ y i *ℤ d i)) ∙ total_agree n _ _ (λ i below. swapped e (y i *ℤ y i) (d i))))
      ∙ positive_times c.to (total n (λ i. y i *ℤ y i *ℤ (e *ℤ d i))) c.to_positive

  -- where Q x is 0 at each positive place, the form is not above 0
  form_not_positive : (e : ℤ) (x : ℕ → ℤ) → ((i : ℕ) → i < n → is_positive (e *ℤ d i) ≡ true → apply n q x i ≡ pos 0) → is_positive (e *ℤ dot n x (apply n l x)) ≡ false
  form_not_positive e x h =
      form_sign e x
      ∙ total_not_positive n (λ i. apply n q x i *ℤ apply n q x i *ℤ (e *ℤ d i))
      (λ i below. term_not_positive (apply n q x i) (e *ℤ d i) (h i below))

  -- where Q x is 0 at each place that is not positive, the form is above 0, unless x is 0
  form_positive : (e : ℤ) (x : ℕ → ℤ) → ((i : ℕ) → i < n → is_positive (e *ℤ d i) ≡ false → apply n q x i ≡ pos 0) → is_positive (e *ℤ dot n x (apply n l x)) ≡ false → (i : ℕ) → i < n → is_zero (x i) ≡ true
  form_positive e x h none i below =
      let y : ℕ → ℤ = apply n q x in
      let nothing : is_positive (total n (λ i. y i *ℤ y i *ℤ (e *ℤ d i))) ≡ false = sym (form_sign e x) ∙ none in
      let zeros : (k : ℕ) → k < n → y k ≡ pos 0 = λ k within. zero_by (y k) (e *ℤ d k) (h k within)
      (λ term. true≢false (sym (total_positive n (λ i. y i *ℤ y i *ℤ (e *ℤ d i)) k (λ j small. term_not_negative (y j) (e *ℤ d j) (h j small)) within term) ∙ nothing)) in
      let image : c.side *ℤ x i ≡ pos 0 = sym (inverse_apply x i below) ∙ total_none n _ (λ k within. ap (λ u. p i k *ℤ u) (zeros k within) ∙ times_zero (p i k)) in
      sym (zero_of_times c.side (x i) c.side_not_zero) ∙ ap is_zero image

-- the first certificate has no more positive entries than the second
no_more : (n : ℕ) (l p q : ℕ → ℕ → ℤ) (d : ℕ → ℤ) → Diagonalises n l p q d → (p' q' : ℕ → ℕ → ℤ) (d' : ℕ → ℤ) → Diagonalises n l p' q' d' → (e : ℤ) →
    count n (λ i. is_positive (e *ℤ d' i)) < count n (λ i. is_positive (e *ℤ d i)) → ⊥
no_more n l p q d c p' q' d' c' e more =
    let first : List (ℕ → ℤ) = chosen (λ i. not (is_positive (e *ℤ d i))) q n in
    let second : List (ℕ → ℤ) = chosen (λ i. is_positive (e *ℤ d' i)) q' n in
    let fewer : length (first ++ second) < n =
    omega (arith, length-append first second, chosen_length (λ i. not (is_positive (e *ℤ d i))) q n, chosen_length (λ i. is_positive (e *ℤ d' i)) q' n, count_not n (λ i. is_positive (e *ℤ d i))) in
    let s : Solution n (first ++ second) = solve n (first ++ second) fewer in
    let low : is_positive (e *ℤ dot n s.x (apply n l s.x)) ≡ false =
    form_not_positive n l p' q' d' c' e s.x (chosen_solves n s.x (λ i. is_positive (e *ℤ d' i)) q' n (solves_right n s.x first second s.solves)) in
    let zero_there : is_zero (s.x s.place) ≡ true =
    form_positive n l p q d c e s.x
    (λ i below none. chosen_solves n s.x (λ i. not (is_positive (e *ℤ d i))) q n (solves_left n s.x first second s.solves) i below (ap not none))
    low s.place s.within in
    true≢false (sym zero_there ∙ s.not_zero)

one_sign : (z : ℤ) → is_positive (pos 1 *ℤ z) ≡ is_positive z
one_sign z = ap is_positive (let same : pos 1 *ℤ z ≡ z = omega (arith, ints) in same)

minus_sign : (z : ℤ) → is_positive (negsuc 0 *ℤ z) ≡ is_negative z
minus_sign (pos zero) = refl
minus_sign (pos (suc n)) = ap is_positive (let same : negsuc 0 *ℤ pos (suc n) ≡ negsuc n = omega (arith, ints) in same)
minus_sign (negsuc n) = ap is_positive (let same : negsuc 0 *ℤ negsuc n ≡ pos (suc n) = omega (arith, ints) in same)

same_counts : (n : ℕ) (l p q : ℕ → ℕ → ℤ) (d : ℕ → ℤ) → Diagonalises n l p q d → (p' q' : ℕ → ℕ → ℤ) (d' : ℕ → ℤ) → Diagonalises n l p' q' d' → (e : ℤ) →
    count n (λ i. is_positive (e *ℤ d i)) ≡ count n (λ i. is_positive (e *ℤ d' i))
same_counts n l p q d c p' q' d' c' e =
    let below = λ (h : count n (λ i. is_positive (e *ℤ d' i)) < count n (λ i. is_positive (e *ℤ d i))). no_more n l p q d c p' q' d' c' e h in
    let above = λ (h : count n (λ i. is_positive (e *ℤ d i)) < count n (λ i. is_positive (e *ℤ d' i))). no_more n l p' q' d' c' p q d c e h in
    omega (arith, below, above)

-- SYLVESTER'S LAW
pub sylvester : (n : ℕ) (l p q : ℕ → ℕ → ℤ) (d : ℕ → ℤ) → Diagonalises n l p q d → (p' q' : ℕ → ℕ → ℤ) (d' : ℕ → ℤ) → Diagonalises n l p' q' d' →
    (positive_count n d ≡ positive_count n d') × (negative_count n d ≡ negative_count n d') × (zero_count n d ≡ zero_count n d')
sylvester n l p q d c p' q' d' c' =
    let positive : positive_count n d ≡ positive_count n d' =
    sym (count_agree n _ _ (λ i below. one_sign (d i)))
    ∙ same_counts n l p q d c p' q' d' c' (pos 1)
    ∙ count_agree n _ _ (λ i below. one_sign (d' i)) in
    let negative : negative_count n d ≡ negative_count n d' =
    sym (count_agree n _ _ (λ i below. minus_sign (d i)))
    ∙ same_counts n l p q d c p' q' d' c' (negsuc 0)
    ∙ count_agree n _ _ (λ i below. minus_sign (d' i)) in
    (positive, negative, omega (arith, three_counts n d, three_counts n d', positive, negative))
