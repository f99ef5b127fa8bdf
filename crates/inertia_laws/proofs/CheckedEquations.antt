-- The entries that a check computes have the values of the certificate's equations.
use Rattle.std.proofs.Common.{◌≡◌, ℕ, zero, suc, ◌<◌, ◌≤◌, ℤ, pos, ◌+ℤ◌, ◌*ℤ◌, true, false, cond, eqb, unsigned_abs, refl, sym, subst, arith}
use Rattle.std.proofs.lemmas.Int.{ints}
use Rattle.std.proofs.lemmas.Nat.Gcd.{same_from_IsGcd}
use Rattle.ring_identities.proofs.Integers.{times_comm}
use Rattle.inertia_laws.specs.Matrices.{is_positive}
use Rattle.inertia_laws.specs.Fractions.{Fraction, whole, AreEqual, gcd, reduce, add, multiply, plus, times, total_fraction}
use Rattle.inertia_laws.specs.Certificates.{identity, IsCertificate}
use Rattle.inertia_laws.specs.Agreement.{Agree}
use Rattle.inertia_laws.specs.Checking.{summed, product_entry, image_entry, congruence_entry, diagonal_matrix}
use Rattle.inertia_laws.proofs.Values.{Means, Means-itself, Means-plus, Means-add, Means-times, Means-multiply, Means-scaled, Means-eq, Means-zero, equal_by_value, both_positive, gcd_is}
use Rattle.inertia_laws.proofs.Terms.{lowest_terms}
use Rattle.inertia_laws.proofs.Unique.{lowest_unique}

-- one value, and both denominators above 0
pub record Same (x y : Fraction) : Type 0 where
  pub x_positive : is_positive x.den ≡ true
  pub y_positive : is_positive y.den ≡ true
  pub equal : AreEqual x y

means : {x y : Fraction} → Same x y → Means x y.num y.den
means h = record { den_positive = h.x_positive; over_positive = h.y_positive; is = h.equal }

same_by_value : {x y : Fraction} {a d : ℤ} → Means x a d → Means y a d → Same x y
same_by_value h g = record { x_positive = h.den_positive; y_positive = g.den_positive; equal = equal_by_value h g }

pub Same-self : (x : Fraction) → is_positive x.den ≡ true → Same x x
Same-self x e = record { x_positive = e; y_positive = e; equal = refl }

pub Same-trans : {x y z : Fraction} → Same x y → Same z y → Same x z
Same-trans h g = same_by_value (means h) (means g)

pub Same-times : {x y z w : Fraction} → Same x y → Same z w → Same (times x z) (multiply y w)
Same-times {x} {y} {z} {w} h g = same_by_value (Means-times (means h) (means g)) (Means-multiply (Means-itself y h.y_positive) (Means-itself w g.y_positive))

pub Same-plus : {x y z w : Fraction} → Same x y → Same z w → Same (plus x z) (add y w)
Same-plus {x} {y} {z} {w} h g =
    let over : w.den *ℤ y.den ≡ y.den *ℤ w.den = times_comm w.den y.den in
    same_by_value
    (Means-plus (Means-eq refl over (Means-scaled w.den g.y_positive (means h))) (Means-scaled y.den h.y_positive (means g)))
    (Means-add (Means-eq refl over (Means-scaled w.den g.y_positive (Means-itself y h.y_positive))) (Means-scaled y.den h.y_positive (Means-itself w g.y_positive)))

zero_and : (a : ℤ) → a ≡ pos 0 +ℤ a
zero_and a = omega (arith, ints)

-- the first term, and 0 plus it
first_term : {x y : Fraction} → Same x y → Same x (add (whole (pos 0)) y)
first_term {x} {y} h = same_by_value (Means-eq (zero_and (y.num)) refl (means h)) (Means-add (Means-zero y.den h.y_positive) (Means-itself y h.y_positive))

pub Same-summed : (n : ℕ) (f g : ℕ → Fraction) → ((k : ℕ) → k ≤ n → Same (f k) (g k)) → Same (summed n f) (total_fraction (suc n) g)
Same-summed zero f g h = first_term (h 0 (omega arith))
Same-summed (suc n) f g h =
    let last : suc n ≤ suc n = omega arith in
    Same-plus (Same-summed n f g (λ k below. h k (omega arith))) (h (suc n) last)

pub Same-product : (n : ℕ) (a b c d : ℕ → ℕ → Fraction) (i j : ℕ) → ((k : ℕ) → k < n → Same (a i k) (c i k)) → ((k : ℕ) → k < n → Same (b k j) (d k j)) → 0 < n →
    Same (product_entry n a b i j) (total_fraction n (λ k. multiply (c i k) (d k j)))
Same-product zero a b c d i j h g positive = absurd (omega arith)
Same-product (suc n) a b c d i j h g positive = Same-summed n _ _ (λ k below. Same-times (h k (omega arith)) (g k (omega arith)))

module _ (n : ℕ) (l : ℕ → ℕ → ℤ) (p : ℕ → ℕ → Fraction) (positive : (i j : ℕ) → i < n → j < n → is_positive (p i j).den ≡ true) where
  pub Same-image : (i j : ℕ) → i < n → j < n → Same (image_entry n l p i j) (total_fraction n (λ k. multiply (whole (l i k)) (p k j)))
  Same-image i j hi hj = Same-product n (λ a b. whole (l a b)) p (λ a b. whole (l a b)) p i j (λ k hk. Same-self (whole (l i k)) refl) (λ k hk. Same-self (p k j) (positive k j hk hj)) (omega arith)

  pub Same-congruence : (i j : ℕ) → i < n → j < n → Same (congruence_entry n l p i j) (total_fraction n (λ a. multiply (p a i) (total_fraction n (λ b. multiply (whole (l a b)) (p b j)))))
  Same-congruence i j hi hj =
      Same-product n (λ a b. p b a) (image_entry n l p) (λ a b. p b a) (λ a b. total_fraction n (λ k. multiply (whole (l a k)) (p k b))) i j (λ k hk. Same-self (p k i) (positive k i hk hi)) (λ k hk. Same-image k j hk hj) (omega arith)

  pub Same-inverse : (q : ℕ → ℕ → Fraction) → ((i j : ℕ) → i < n → j < n → is_positive (q i j).den ≡ true) → (i j : ℕ) → i < n → j < n → Same (product_entry n p q i j) (total_fraction n (λ k. multiply (p i k) (q k j)))
  Same-inverse q q_positive i j hi hj = Same-product n p q p q i j (λ k hk. Same-self (p i k) (positive i k hi hk)) (λ k hk. Same-self (q k j) (q_positive k j hk hj)) (omega arith)

-- ---- lowest terms
abbrev pub IsLowest : Fraction → Type 0
IsLowest x = gcd (unsigned_abs x.num) (unsigned_abs x.den) ≡ 1

reduced_lowest : (x : Fraction) → is_positive x.den ≡ true → IsLowest (reduce x)
reduced_lowest x e =
    same_from_IsGcd (unsigned_abs (reduce x).num) (unsigned_abs (reduce x).den) (gcd (unsigned_abs (reduce x).num) (unsigned_abs (reduce x).den)) 1
    (gcd_is (unsigned_abs (reduce x).num) (unsigned_abs (reduce x).den)) (lowest_terms x e)

summed_lowest : (n : ℕ) (f g : ℕ → Fraction) → ((k : ℕ) → k ≤ n → Same (f k) (g k)) → IsLowest (f 0) → IsLowest (summed n f)
summed_lowest zero f g h e = e
summed_lowest (suc n) f g h e =
    let last : suc n ≤ suc n = omega arith in
    reduced_lowest (add (summed n f) (f (suc n)))
    (both_positive (summed n f).den (f (suc n)).den (Same-summed n f g (λ k below. h k (omega arith))).x_positive (h (suc n) last).x_positive)

product_lowest : (n : ℕ) (a b c d : ℕ → ℕ → Fraction) (i j : ℕ) → ((k : ℕ) → k < n → Same (a i k) (c i k)) → ((k : ℕ) → k < n → Same (b k j) (d k j)) → 0 < n → IsLowest (product_entry n a b i j)
product_lowest zero a b c d i j h g positive = absurd (omega arith)
product_lowest (suc n) a b c d i j h g positive =
    let first : 0 < suc n = omega arith in
    summed_lowest n (λ k. times (a i k) (b k j)) (λ k. multiply (c i k) (d k j)) (λ k below. Same-times (h k (omega arith)) (g k (omega arith)))
    (reduced_lowest (multiply (a i 0) (b 0 j)) (both_positive (a i 0).den (b 0 j).den (h 0 first).x_positive (g 0 first).x_positive))

-- a reduced entry is the wanted one exactly where the equation holds
module _ (x total wanted : Fraction) (h : Same x total) (x_lowest : IsLowest x) (positive : is_positive wanted.den ≡ true) (lowest : IsLowest wanted) where
  equation_from : x ≡ wanted → AreEqual total wanted
  equation_from e = subst (λ y. AreEqual total y) e (sym h.equal)

  equation_to : AreEqual total wanted → x ≡ wanted
  equation_to e =
      let other : Same wanted total = record { x_positive = positive; y_positive = h.y_positive; equal = sym e } in
      let same : Same x wanted = Same-trans h other in
      lowest_unique x wanted h.x_positive positive x_lowest lowest same.equal

lowest_whole : (z : ℤ) → IsLowest (whole z)
unfolding gcd
lowest_whole z = refl

module _ (n : ℕ) (l : ℕ → ℕ → ℤ) (p q : ℕ → ℕ → Fraction) (d : ℕ → Fraction) (p_positive : (i j : ℕ) → i < n → j < n → is_positive (p i j).den ≡ true)
    (q_positive : (i j : ℕ) → i < n → j < n → is_positive (q i j).den ≡ true) (d_positive : (i : ℕ) → i < n → is_positive (d i).den ≡ true) (d_lowest : (i : ℕ) → i < n → IsLowest (d i)) where
  inverse_lowest : (i j : ℕ) → i < n → j < n → IsLowest (product_entry n p q i j)
  inverse_lowest i j hi hj = product_lowest n p q p q i j (λ k hk. Same-self (p i k) (p_positive i k hi hk)) (λ k hk. Same-self (q k j) (q_positive k j hk hj)) (omega arith)

  congruence_lowest : (i j : ℕ) → i < n → j < n → IsLowest (congruence_entry n l p i j)
  congruence_lowest i j hi hj =
      product_lowest n (λ a b. p b a) (image_entry n l p) (λ a b. p b a) (λ a b. total_fraction n (λ k. multiply (whole (l a k)) (p k b))) i j
      (λ k hk. Same-self (p k i) (p_positive k i hk hi)) (λ k hk. Same-image n l p p_positive k j hk hj) (omega arith)

  identity_positive : (i j : ℕ) → is_positive (identity i j).den ≡ true
  identity_positive i j = elim (eqb i j) as (λ v. is_positive (cond v (whole (pos 1)) (whole (pos 0))).den ≡ true) [ true ↦ refl | false ↦ refl ]

  identity_lowest : (i j : ℕ) → IsLowest (identity i j)
  identity_lowest i j = elim (eqb i j) as (λ v. IsLowest (cond v (whole (pos 1)) (whole (pos 0)))) [ true ↦ lowest_whole (pos 1) | false ↦ lowest_whole (pos 0) ]

  diagonal_positive : (i j : ℕ) → i < n → is_positive (diagonal_matrix d i j).den ≡ true
  diagonal_positive i j hi = elim (eqb i j) as (λ v. is_positive (cond v (d i) (whole (pos 0))).den ≡ true) [ true ↦ d_positive i hi | false ↦ refl ]

  diagonal_lowest : (i j : ℕ) → i < n → IsLowest (diagonal_matrix d i j)
  diagonal_lowest i j hi = elim (eqb i j) as (λ v. IsLowest (cond v (d i) (whole (pos 0)))) [ true ↦ d_lowest i hi | false ↦ lowest_whole (pos 0) ]

  pub certificate_from : Agree n (product_entry n p q) identity → Agree n (congruence_entry n l p) (diagonal_matrix d) → IsCertificate n l p q d
  certificate_from inverse congruence = record {
    positive_p = p_positive;
    positive_q = q_positive;
    positive_diagonal = d_positive;
    inverse = λ i j hi hj. equation_from _ _ _ (Same-inverse n l p p_positive q q_positive i j hi hj) (inverse_lowest i j hi hj) (identity_positive i j) (identity_lowest i j) (inverse i j hi hj);
    congruence = λ i j hi hj. equation_from _ _ (diagonal_matrix d i j) (Same-congruence n l p p_positive i j hi hj) (congruence_lowest i j hi hj) (diagonal_positive i j hi) (diagonal_lowest i j hi) (congruence i j hi hj);
  }

  pub inverse_to : IsCertificate n l p q d → Agree n (product_entry n p q) identity
  inverse_to c i j hi hj = equation_to _ _ _ (Same-inverse n l p p_positive q q_positive i j hi hj) (inverse_lowest i j hi hj) (identity_positive i j) (identity_lowest i j) (c.inverse i j hi hj)

  pub congruence_to : IsCertificate n l p q d → Agree n (congruence_entry n l p) (diagonal_matrix d)
  congruence_to c i j hi hj = equation_to _ _ (diagonal_matrix d i j) (Same-congruence n l p p_positive i j hi hj) (congruence_lowest i j hi hj) (diagonal_positive i j hi) (diagonal_lowest i j hi) (c.congruence i j hi hj)
