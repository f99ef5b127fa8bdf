-- Congruences and residues by one call: `search modulos` reads the two sides, through `%`, residues and what calls returned.
use Rattle.std.proofs.Common.{◌≡◌, ℕ, zero, suc, ◌+◌, ◌-◌, ◌*◌, ◌%◌, ◌<◌, ◌≤◌, ℤ, pos, negsuc, ◌+ℤ◌, ◌-ℤ◌, ◌*ℤ◌, neg_ℤ, List, [], ◌∷◌, Bool, true, eqb, refl, sym, ap, ◌∙◌, arith, le_of_lt, mod-lt, mod-eq_of_lt}
use Rattle.std.proofs.lemmas.Int.{ints}
use Rattle.ring_identities.specs.Residues.{residue, Congruent}
use Rattle.ring_identities.proofs.Polynomials.{Expr, var, number, plus, times, negative, value}
use Rattle.ring_identities.proofs.Congruences.{congruent_refl, congruent_eq, congruent_sym, congruent_trans, congruent_plus, congruent_times, congruent_negative, same_residue, residue_congruent, natural_mod, natural_opposite, natural_difference, congruent_cancel}
use Rattle.ring_identities.proofs.Inverses.{Inverses, same_with_inverses, identity_with_inverses}

-- an expression that is z modulo m
pub record ReadsModulo (m : ℕ) (env : List ℤ) (z : ℤ) : Type 0 where
  pub expr : Expr
  pub is : Congruent m z (value expr env)

abbrev pub modulo_first : {m : ℕ} {x : ℤ} {env : List ℤ} → ReadsModulo m (x ∷ env) x
modulo_first = record { expr = var 0; is = congruent_refl _ _ }

abbrev pub modulo_second : {m : ℕ} {x y : ℤ} {env : List ℤ} → ReadsModulo m (x ∷ y ∷ env) y
modulo_second = record { expr = var 1; is = congruent_refl _ _ }

abbrev pub modulo_third : {m : ℕ} {x y z : ℤ} {env : List ℤ} → ReadsModulo m (x ∷ y ∷ z ∷ env) z
modulo_third = record { expr = var 2; is = congruent_refl _ _ }

abbrev pub modulo_fourth : {m : ℕ} {x y z w : ℤ} {env : List ℤ} → ReadsModulo m (x ∷ y ∷ z ∷ w ∷ env) w
modulo_fourth = record { expr = var 3; is = congruent_refl _ _ }

abbrev pub modulo_fifth : {m : ℕ} {x y z w p : ℤ} {env : List ℤ} → ReadsModulo m (x ∷ y ∷ z ∷ w ∷ p ∷ env) p
modulo_fifth = record { expr = var 4; is = congruent_refl _ _ }

abbrev pub modulo_sixth : {m : ℕ} {x y z w p q : ℤ} {env : List ℤ} → ReadsModulo m (x ∷ y ∷ z ∷ w ∷ p ∷ q ∷ env) q
modulo_sixth = record { expr = var 5; is = congruent_refl _ _ }

abbrev pub modulo_seventh : {m : ℕ} {x y z w p q r : ℤ} {env : List ℤ} → ReadsModulo m (x ∷ y ∷ z ∷ w ∷ p ∷ q ∷ r ∷ env) r
modulo_seventh = record { expr = var 6; is = congruent_refl _ _ }

abbrev pub modulo_eighth : {m : ℕ} {x y z w p q r s : ℤ} {env : List ℤ} → ReadsModulo m (x ∷ y ∷ z ∷ w ∷ p ∷ q ∷ r ∷ s ∷ env) s
modulo_eighth = record { expr = var 7; is = congruent_refl _ _ }

abbrev pub modulo_number : {m : ℕ} {env : List ℤ} (n : ℕ) → eqb n n ≡ true → ReadsModulo m env (pos n)
modulo_number n closed = record { expr = number (pos n); is = congruent_refl _ _ }

abbrev pub modulo_negsuc : {m : ℕ} {env : List ℤ} (n : ℕ) → eqb n n ≡ true → ReadsModulo m env (negsuc n)
modulo_negsuc n closed = record { expr = number (negsuc n); is = congruent_refl _ _ }

abbrev pub modulo_plus : {m : ℕ} {env : List ℤ} {u v : ℤ} → ReadsModulo m env u → ReadsModulo m env v → ReadsModulo m env (u +ℤ v)
modulo_plus x y = record { expr = plus x.expr y.expr; is = congruent_plus x.is y.is }

abbrev pub modulo_times : {m : ℕ} {env : List ℤ} {u v : ℤ} → ReadsModulo m env u → ReadsModulo m env v → ReadsModulo m env (u *ℤ v)
modulo_times x y = record { expr = times x.expr y.expr; is = congruent_times x.is y.is }

abbrev pub modulo_negative : {m : ℕ} {env : List ℤ} {u : ℤ} → ReadsModulo m env u → ReadsModulo m env (neg_ℤ u)
modulo_negative x = record { expr = negative x.expr; is = congruent_negative x.is }

-- sums and products of `pos n` and `pos k` compute to these
abbrev pub modulo_natural_plus : {m n k : ℕ} {env : List ℤ} → ReadsModulo m env (pos n) → ReadsModulo m env (pos k) → ReadsModulo m env (pos (n + k))
modulo_natural_plus x y = record { expr = plus x.expr y.expr; is = congruent_plus x.is y.is }

abbrev pub modulo_natural_times : {m n k : ℕ} {env : List ℤ} → ReadsModulo m env (pos n) → ReadsModulo m env (pos k) → ReadsModulo m env (pos (n * k))
modulo_natural_times x y = record { expr = times x.expr y.expr; is = congruent_times x.is y.is }

abbrev pub modulo_remainder : {m n : ℕ} {env : List ℤ} → 0 < m → ReadsModulo m env (pos n) → ReadsModulo m env (pos (n % m))
modulo_remainder h x = record { expr = x.expr; is = natural_mod h x.is }

abbrev pub modulo_opposite : {m n : ℕ} {env : List ℤ} → n ≤ m → ReadsModulo m env (pos n) → ReadsModulo m env (pos (m - n))
modulo_opposite h x = record { expr = negative x.expr; is = natural_opposite h x.is }

abbrev pub modulo_difference : {m n k : ℕ} {env : List ℤ} → k ≤ n → ReadsModulo m env (pos n) → ReadsModulo m env (pos k) → ReadsModulo m env (pos (n - k))
modulo_difference h x y = record { expr = plus x.expr (negative y.expr); is = natural_difference h x.is y.is }

abbrev pub modulo_modulus : {m : ℕ} {env : List ℤ} → ReadsModulo m env (pos m)
modulo_modulus {m} = record { expr = number (pos 0); is = record { factor = pos 1; is = omega (arith, ints) } }

-- a residue, and what a call returned
abbrev pub modulo_residue : {m : ℕ} {env : List ℤ} {z : ℤ} → 0 < m → ReadsModulo m env z → ReadsModulo m env (pos (residue m z))
modulo_residue h x = record { expr = x.expr; is = congruent_trans (congruent_sym (residue_congruent _ _ h)) x.is }

abbrev pub modulo_result : {m n k : ℕ} {env : List ℤ} → n ≡ k → ReadsModulo m env (pos k) → ReadsModulo m env (pos n)
modulo_result e x = record { expr = x.expr; is = congruent_trans (congruent_eq (ap pos e)) x.is }

-- the bounds that a subtraction asks for
pub remainder_within : {m : ℕ} (n : ℕ) → 0 < m → n % m ≤ m
remainder_within n h = le_of_lt (mod-lt n h)

pub within_sum : {m k : ℕ} (n : ℕ) → k ≤ m → k ≤ n + m
within_sum n h = omega arith

pub within_sum_left : {m k : ℕ} (n : ℕ) → k ≤ m → k ≤ m + n
within_sum_left n h = omega arith

pub ruleset modulos = (le_of_lt, remainder_within, within_sum, within_sum_left, modulo_first, modulo_second, modulo_third, modulo_fourth, modulo_fifth, modulo_sixth, modulo_seventh, modulo_eighth, modulo_plus, modulo_times, modulo_negative, modulo_natural_plus, modulo_natural_times, modulo_remainder, modulo_opposite, modulo_difference, modulo_modulus, modulo_residue, modulo_result, modulo_number, modulo_negsuc)

-- ---- goals. The list of variables begins with n pairs of inverses
pub by_congruences : (n : ℕ) {m : ℕ} {u v : ℤ} (env : List ℤ) (x : ReadsModulo m env u) (y : ReadsModulo m env v) → Inverses m n env → same_with_inverses n x.expr y.expr ≡ true → Congruent m u v
by_congruences n env x y i e = congruent_trans x.is (congruent_trans (identity_with_inverses n x.expr y.expr env i e) (congruent_sym y.is))

pub by_modulo : (n : ℕ) {m u v : ℕ} (env : List ℤ) (x : ReadsModulo m env (pos u)) (y : ReadsModulo m env (pos v)) → 0 < m → Inverses m n env → same_with_inverses n x.expr y.expr ≡ true → u % m ≡ v % m
unfolding residue
by_modulo n env x y h i e = same_residue h (by_congruences n env x y i e)

-- code on the left, an integer's residue on the right
pub by_residue : (n : ℕ) {m u : ℕ} {z : ℤ} (env : List ℤ) (x : ReadsModulo m env (pos u)) (y : ReadsModulo m env z) → 0 < m → Inverses m n env → same_with_inverses n x.expr y.expr ≡ true → u % m ≡ residue m z
unfolding residue
by_residue n env x y h i e = same_residue h (by_congruences n env x y i e)

-- a number below m on the left
pub by_residue_below : (n : ℕ) {m u : ℕ} {z : ℤ} (env : List ℤ) (x : ReadsModulo m env (pos u)) (y : ReadsModulo m env z) → 0 < m → u < m → Inverses m n env → same_with_inverses n x.expr y.expr ≡ true → u ≡ residue m z
by_residue_below n env x y h b i e = sym (mod-eq_of_lt b) ∙ by_residue n env x y h i e

-- residues on both sides
pub by_residues : (n : ℕ) {m : ℕ} {z w : ℤ} (env : List ℤ) (x : ReadsModulo m env z) (y : ReadsModulo m env w) → 0 < m → Inverses m n env → same_with_inverses n x.expr y.expr ≡ true → residue m z ≡ residue m w
by_residues n env x y h i e = same_residue h (by_congruences n env x y i e)

-- a congruence between r and s proves one between u and v, where u - v is r - s
pub by_consequence : (n : ℕ) {m : ℕ} {u v r s : ℤ} (env : List ℤ) (x : ReadsModulo m env u) (y : ReadsModulo m env v) (p : ReadsModulo m env r) (q : ReadsModulo m env s) → Congruent m r s → Inverses m n env → same_with_inverses n (plus x.expr q.expr) (plus y.expr p.expr) ≡ true → Congruent m u v
by_consequence n {m} {u} {v} {r} {s} env x y p q h i e =
    congruent_cancel s (congruent_trans (congruent_plus x.is q.is) (congruent_trans (identity_with_inverses n (plus x.expr q.expr) (plus y.expr p.expr) env i e) (congruent_sym (congruent_plus y.is (congruent_trans (congruent_sym h) p.is)))))
