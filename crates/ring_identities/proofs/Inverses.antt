-- Identities in which the first variables are pairs of inverses.
use Rattle.std.proofs.Common.{◌≡◌, ℕ, zero, suc, ℤ, pos, ◌+ℤ◌, ◌*ℤ◌, neg_ℤ, List, [], ◌∷◌, Bool, true, refl, sym, ap, ◌∙◌}
use Rattle.ring_identities.specs.Residues.{Congruent}
use Rattle.ring_identities.proofs.Polynomials.{Poly, constant, horner, poly_value, add, add_value, under, is_zero, is_zero_means, normal, normal_value, Expr, var, number, plus, times, negative, value, identity}
use Rattle.ring_identities.proofs.Congruences.{congruent_refl, congruent_eq, congruent_sym, congruent_trans, congruent_plus, congruent_times}

-- ---- a polynomial in a and b, where a * b is one, as a polynomial in which no monomial has both
abbrev pub low : Poly → Poly
low (constant c) = constant c
low (horner r s) = r

abbrev pub high : Poly → Poly
high (constant c) = constant (pos 0)
high (horner r s) = s

-- p + a * q, where q is reduced: a times q's multiples of b are free of both
abbrev pub reduce_step : Poly → Poly → Poly
reduce_step p (constant c) = horner p (constant c)
reduce_step p (horner q r) = horner (add p (high q)) (horner (horner (low q) (constant (pos 0))) r)

abbrev pub reduce : Poly → Poly
reduce (constant c) = constant c
reduce (horner p q) = reduce_step p (reduce q)

parts_value : (q : Poly) (b : ℤ) (env : List ℤ) → poly_value q (b ∷ env) ≡ poly_value (horner (low q) (constant (pos 0))) (b ∷ env) +ℤ b *ℤ poly_value (high q) (b ∷ env)
parts_value (constant c) b env = identity (var 0) (plus (plus (var 0) (times (var 1) (number (pos 0)))) (times (var 1) (number (pos 0)))) (c ∷ b ∷ []) refl
parts_value (horner r s) b env =
    identity (plus (var 0) (times (var 1) (var 2))) (plus (plus (var 0) (times (var 1) (number (pos 0)))) (times (var 1) (var 2))) (poly_value r env ∷ b ∷ poly_value s (b ∷ env) ∷ []) refl

module _ (m : ℕ) (a b : ℤ) (inverse : Congruent m (a *ℤ b) (pos 1)) (env : List ℤ) where
  reduce_step_value : (p q : Poly) → Congruent m (poly_value (reduce_step p q) (a ∷ b ∷ env)) (poly_value (horner p q) (a ∷ b ∷ env))
  reduce_step_value p (constant c) = congruent_refl m _
  reduce_step_value p (horner q r) =
      let P = poly_value p (b ∷ env) in
      let L = poly_value (horner (low q) (constant (pos 0))) (b ∷ env) in
      let H = poly_value (high q) (b ∷ env) in
      let R = poly_value r (a ∷ b ∷ env) in
      congruent_trans
      (congruent_eq (ap (λ k. k +ℤ a *ℤ (L +ℤ a *ℤ R)) (add_value p (high q) (b ∷ env)) ∙ identity (plus (plus (var 0) (var 1)) (times (var 2) (plus (var 3) (times (var 2) (var 4))))) (plus (plus (var 0) (times (number (pos 1)) (var 1))) (times (var 2) (plus (var 3) (times (var 2) (var 4))))) (P ∷ H ∷ a ∷ L ∷ R ∷ []) refl))
      (congruent_trans
      (congruent_plus (congruent_plus (congruent_refl m P) (congruent_times (congruent_sym inverse) (congruent_refl m H))) (congruent_refl m (a *ℤ (L +ℤ a *ℤ R))))
      (congruent_eq (identity (plus (plus (var 0) (times (times (var 2) (var 5)) (var 1))) (times (var 2) (plus (var 3) (times (var 2) (var 4))))) (plus (var 0) (times (var 2) (plus (plus (var 3) (times (var 5) (var 1))) (times (var 2) (var 4))))) (P ∷ H ∷ a ∷ L ∷ R ∷ b ∷ []) refl ∙ ap (λ k. P +ℤ a *ℤ (k +ℤ a *ℤ R)) (sym (parts_value q b env)))))

  reduce_value : (p : Poly) → Congruent m (poly_value (reduce p) (a ∷ b ∷ env)) (poly_value p (a ∷ b ∷ env))
  reduce_value (constant c) = congruent_refl m c
  reduce_value (horner p q) = congruent_trans (reduce_step_value p (reduce q)) (congruent_plus (congruent_refl m (poly_value p (b ∷ env))) (congruent_times (congruent_refl m a) (reduce_value q)))

-- f changes coefficients to congruent ones
under_congruent : (m : ℕ) (f : Poly → Poly) (x : ℤ) (env : List ℤ) → ((r : Poly) → Congruent m (poly_value (f r) env) (poly_value r env)) → (s : Poly) → Congruent m (poly_value (under f s) (x ∷ env)) (poly_value s (x ∷ env))
under_congruent m f x env h (constant d) =
    congruent_trans (congruent_plus (h (constant d)) (congruent_refl m (x *ℤ pos 0))) (congruent_eq (identity (plus (var 0) (times (var 1) (number (pos 0)))) (var 0) (d ∷ x ∷ []) refl))
under_congruent m f x env h (horner r s) = congruent_plus (h r) (congruent_times (congruent_refl m x) (under_congruent m f x env h s))

-- the same for n pairs, which begin the list of variables
abbrev pub reduce_pairs : ℕ → Poly → Poly
reduce_pairs zero p = p
reduce_pairs (suc n) p = under (under (reduce_pairs n)) (reduce p)

-- the list of variables begins with n pairs of inverses modulo m
abbrev pub Inverses : ℕ → ℕ → List ℤ → Type 0
Inverses m zero env = Unit {0}
Inverses m (suc n) [] = ⊥
Inverses m (suc n) (a ∷ []) = ⊥
Inverses m (suc n) (a ∷ b ∷ env) = Congruent m (a *ℤ b) (pos 1) × Inverses m n env

reduce_pairs_value : (m n : ℕ) (env : List ℤ) → Inverses m n env → (p : Poly) → Congruent m (poly_value (reduce_pairs n p) env) (poly_value p env)
reduce_pairs_value m zero env h p = congruent_refl m (poly_value p env)
reduce_pairs_value m (suc n) [] h p = absurd h
reduce_pairs_value m (suc n) (a ∷ []) h p = absurd h
reduce_pairs_value m (suc n) (a ∷ b ∷ env) h p =
    congruent_trans (under_congruent m (under (reduce_pairs n)) a (b ∷ env) (under_congruent m (reduce_pairs n) b env (reduce_pairs_value m n env h.1)) (reduce p)) (reduce_value m a b h.0 env p)

abbrev pub same_with_inverses : ℕ → Expr → Expr → Bool
same_with_inverses n x y = is_zero (reduce_pairs n (normal (plus x (negative y))))

no_difference_modulo : {m : ℕ} (x y : ℤ) → Congruent m (x +ℤ neg_ℤ y) (pos 0) → Congruent m x y
no_difference_modulo {m} x y h =
    congruent_trans (congruent_eq (identity (var 0) (plus (plus (var 0) (negative (var 1))) (var 1)) (x ∷ y ∷ []) refl)) (congruent_trans (congruent_plus h (congruent_refl m y)) (congruent_eq (identity (plus (number (pos 0)) (var 0)) (var 0) (y ∷ []) refl)))

-- two expressions that are one where the first variables are n pairs of inverses
pub identity_with_inverses : (n : ℕ) (x y : Expr) {m : ℕ} (env : List ℤ) → Inverses m n env → same_with_inverses n x y ≡ true → Congruent m (value x env) (value y env)
identity_with_inverses n x y {m} env inverses e =
    let d = plus x (negative y) in
    no_difference_modulo (value x env) (value y env) (congruent_trans (congruent_eq (sym (normal_value d env))) (congruent_trans (congruent_sym (reduce_pairs_value m n env inverses (normal d))) (congruent_eq (is_zero_means (reduce_pairs n (normal d)) env e))))
