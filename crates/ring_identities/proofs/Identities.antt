-- Identities with no expression written: `search` reads the two sides.
use Rattle.std.proofs.Common.{◌≡◌, ℕ, ◌+◌, ◌*◌, ℤ, pos, negsuc, ◌+ℤ◌, ◌*ℤ◌, neg_ℤ, List, ◌∷◌, eqb, true, refl, sym, ap, ap₂, ◌∙◌}
use Rattle.ring_identities.proofs.Polynomials.{Expr, var, number, plus, times, negative, value, same, identity}

-- an expression whose value is z
pub record Reads (env : List ℤ) (z : ℤ) : Type 0 where
  pub expr : Expr
  pub is : value expr env ≡ z

abbrev pub read_first : {x : ℤ} {env : List ℤ} → Reads (x ∷ env) x
read_first = record { expr = var 0; is = refl }

abbrev pub read_second : {x y : ℤ} {env : List ℤ} → Reads (x ∷ y ∷ env) y
read_second = record { expr = var 1; is = refl }

abbrev pub read_third : {x y z : ℤ} {env : List ℤ} → Reads (x ∷ y ∷ z ∷ env) z
read_third = record { expr = var 2; is = refl }

abbrev pub read_fourth : {x y z w : ℤ} {env : List ℤ} → Reads (x ∷ y ∷ z ∷ w ∷ env) w
read_fourth = record { expr = var 3; is = refl }

abbrev pub read_fifth : {x y z w p : ℤ} {env : List ℤ} → Reads (x ∷ y ∷ z ∷ w ∷ p ∷ env) p
read_fifth = record { expr = var 4; is = refl }

abbrev pub read_sixth : {x y z w p q : ℤ} {env : List ℤ} → Reads (x ∷ y ∷ z ∷ w ∷ p ∷ q ∷ env) q
read_sixth = record { expr = var 5; is = refl }

abbrev pub read_seventh : {x y z w p q r : ℤ} {env : List ℤ} → Reads (x ∷ y ∷ z ∷ w ∷ p ∷ q ∷ r ∷ env) r
read_seventh = record { expr = var 6; is = refl }

abbrev pub read_eighth : {x y z w p q r s : ℤ} {env : List ℤ} → Reads (x ∷ y ∷ z ∷ w ∷ p ∷ q ∷ r ∷ s ∷ env) s
read_eighth = record { expr = var 7; is = refl }

-- the premise holds by computing where n is a numeral, and is stuck otherwise
abbrev pub read_number : {env : List ℤ} (n : ℕ) → eqb n n ≡ true → Reads env (pos n)
read_number n closed = record { expr = number (pos n); is = refl }

abbrev pub read_plus : {env : List ℤ} {u v : ℤ} → Reads env u → Reads env v → Reads env (u +ℤ v)
read_plus x y = record { expr = plus x.expr y.expr; is = ap₂ (λ k l. k +ℤ l) x.is y.is }

abbrev pub read_times : {env : List ℤ} {u v : ℤ} → Reads env u → Reads env v → Reads env (u *ℤ v)
read_times x y = record { expr = times x.expr y.expr; is = ap₂ (λ k l. k *ℤ l) x.is y.is }

abbrev pub read_negative : {env : List ℤ} {u : ℤ} → Reads env u → Reads env (neg_ℤ u)
read_negative x = record { expr = negative x.expr; is = ap neg_ℤ x.is }

-- sums and products of `pos a` and `pos b` compute to these
abbrev pub read_natural_plus : {env : List ℤ} {n k : ℕ} → Reads env (pos n) → Reads env (pos k) → Reads env (pos (n + k))
read_natural_plus x y = record { expr = plus x.expr y.expr; is = ap₂ (λ k l. k +ℤ l) x.is y.is }

abbrev pub read_natural_times : {env : List ℤ} {n k : ℕ} → Reads env (pos n) → Reads env (pos k) → Reads env (pos (n * k))
read_natural_times x y = record { expr = times x.expr y.expr; is = ap₂ (λ k l. k *ℤ l) x.is y.is }

abbrev pub read_negsuc : {env : List ℤ} (n : ℕ) → eqb n n ≡ true → Reads env (negsuc n)
read_negsuc n closed = record { expr = number (negsuc n); is = refl }

pub ruleset reads = (read_first, read_second, read_third, read_fourth, read_fifth, read_sixth, read_seventh, read_eighth, read_plus, read_times, read_negative, read_natural_plus, read_natural_times, read_number, read_negsuc)

pub by_ring : {u v : ℤ} (env : List ℤ) (x : Reads env u) (y : Reads env v) → same x.expr y.expr ≡ true → u ≡ v
by_ring env x y e = sym x.is ∙ identity x.expr y.expr env e ∙ y.is
