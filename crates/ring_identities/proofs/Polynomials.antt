-- Polynomials in Horner's form, and a test of identities of commutative rings.
use Rattle.std.proofs.Common.{◌≡◌, ℕ, zero, suc, ℤ, pos, negsuc, ◌+ℤ◌, ◌*ℤ◌, neg_ℤ, List, [], ◌∷◌, Bool, true, false, ◌&&◌, refl, sym, ap, ap₂, ◌∙◌}
use Rattle.ring_identities.proofs.Integers.{no_difference, times_zero, times_one, zero_plus, plus_zero, plus_comm, add_step, add_constant_step, scale_step, negate_step, multiply_step}

-- `horner p q` is p + x * q, where x is the first variable, and p speaks of the others alone
pub data Poly : Type 0 where
  constant : ℤ → Poly
  horner : Poly → Poly → Poly

abbrev pub poly_value : Poly → List ℤ → ℤ
poly_value (constant c) env = c
poly_value (horner p q) [] = poly_value p []
poly_value (horner p q) (x ∷ env) = poly_value p env +ℤ x *ℤ poly_value q (x ∷ env)

abbrev pub add_constant : ℤ → Poly → Poly
add_constant c (constant d) = constant (c +ℤ d)
add_constant c (horner p q) = horner (add_constant c p) q

abbrev pub add : Poly → Poly → Poly
add (constant c) r = add_constant c r
add (horner p q) (constant d) = horner (add_constant d p) q
add (horner p q) (horner r s) = horner (add p r) (add q s)

abbrev pub negate : Poly → Poly
negate (constant c) = constant (neg_ℤ c)
negate (horner p q) = horner (negate p) (negate q)

abbrev pub scale : ℤ → Poly → Poly
scale c (constant d) = constant (c *ℤ d)
scale c (horner p q) = horner (scale c p) (scale c q)

-- f at each coefficient of the powers of the first variable
abbrev pub under : (Poly → Poly) → Poly → Poly
under f (constant d) = horner (f (constant d)) (constant (pos 0))
under f (horner r s) = horner (f r) (under f s)

abbrev pub multiply : Poly → Poly → Poly
multiply (constant c) r = scale c r
multiply (horner p q) r = add (under (multiply p) r) (horner (constant (pos 0)) (multiply q r))

abbrev pub variable : ℕ → Poly
variable zero = horner (constant (pos 0)) (constant (pos 1))
variable (suc i) = horner (variable i) (constant (pos 0))

abbrev pub is_zero_number : ℤ → Bool
is_zero_number (pos zero) = true
is_zero_number (pos (suc n)) = false
is_zero_number (negsuc n) = false

abbrev pub is_zero : Poly → Bool
is_zero (constant c) = is_zero_number c
is_zero (horner p q) = is_zero p && is_zero q

-- ---- what the operations mean
add_constant_value : (c : ℤ) (p : Poly) (env : List ℤ) → poly_value (add_constant c p) env ≡ c +ℤ poly_value p env
add_constant_value c (constant d) env = refl
add_constant_value c (horner p q) [] = add_constant_value c p []
add_constant_value c (horner p q) (x ∷ env) = ap (λ v. v +ℤ x *ℤ poly_value q (x ∷ env)) (add_constant_value c p env) ∙ add_constant_step c (poly_value p env) (poly_value q (x ∷ env)) x

pub add_value : (p q : Poly) (env : List ℤ) → poly_value (add p q) env ≡ poly_value p env +ℤ poly_value q env
add_value (constant c) r env = add_constant_value c r env
add_value (horner p q) (constant d) env = add_constant_value d (horner p q) env ∙ plus_comm d (poly_value (horner p q) env)
add_value (horner p q) (horner r s) [] = add_value p r []
add_value (horner p q) (horner r s) (x ∷ env) =
    ap₂ (λ u v. u +ℤ x *ℤ v) (add_value p r env) (add_value q s (x ∷ env)) ∙ add_step (poly_value p env) (poly_value q (x ∷ env)) (poly_value r env) (poly_value s (x ∷ env)) x

pub negate_value : (p : Poly) (env : List ℤ) → poly_value (negate p) env ≡ neg_ℤ (poly_value p env)
negate_value (constant c) env = refl
negate_value (horner p q) [] = negate_value p []
negate_value (horner p q) (x ∷ env) =
    ap₂ (λ u v. u +ℤ x *ℤ v) (negate_value p env) (negate_value q (x ∷ env)) ∙ negate_step (poly_value p env) (poly_value q (x ∷ env)) x

scale_value : (c : ℤ) (p : Poly) (env : List ℤ) → poly_value (scale c p) env ≡ c *ℤ poly_value p env
scale_value c (constant d) env = refl
scale_value c (horner p q) [] = scale_value c p []
scale_value c (horner p q) (x ∷ env) =
    ap₂ (λ u v. u +ℤ x *ℤ v) (scale_value c p env) (scale_value c q (x ∷ env)) ∙ scale_step c (poly_value p env) (poly_value q (x ∷ env)) x

-- f multiplies by v in the other variables
under_value : (f : Poly → Poly) (v x : ℤ) (env : List ℤ) → ((r : Poly) → poly_value (f r) env ≡ v *ℤ poly_value r env) → (s : Poly) → poly_value (under f s) (x ∷ env) ≡ v *ℤ poly_value s (x ∷ env)
under_value f v x env h (constant d) = ap (λ k. poly_value (f (constant d)) env +ℤ k) (times_zero x) ∙ plus_zero (poly_value (f (constant d)) env) ∙ h (constant d)
under_value f v x env h (horner r s) =
    ap₂ (λ u w. u +ℤ x *ℤ w) (h r) (under_value f v x env h s) ∙ scale_step v (poly_value r env) (poly_value s (x ∷ env)) x

under_value_none : (f : Poly → Poly) (v : ℤ) → ((r : Poly) → poly_value (f r) [] ≡ v *ℤ poly_value r []) → (s : Poly) → poly_value (under f s) [] ≡ v *ℤ poly_value s []
under_value_none f v h (constant d) = h (constant d)
under_value_none f v h (horner r s) = h r

pub multiply_value : (p q : Poly) (env : List ℤ) → poly_value (multiply p q) env ≡ poly_value p env *ℤ poly_value q env
multiply_value (constant c) r env = scale_value c r env
multiply_value (horner p q) r [] =
    add_value (under (multiply p) r) (horner (constant (pos 0)) (multiply q r)) [] ∙ plus_zero (poly_value (under (multiply p) r) []) ∙ under_value_none (multiply p) (poly_value p []) (λ s. multiply_value p s []) r
multiply_value (horner p q) r (x ∷ env) =
    add_value (under (multiply p) r) (horner (constant (pos 0)) (multiply q r)) (x ∷ env)
    ∙ ap₂ (λ u w. u +ℤ (pos 0 +ℤ x *ℤ w)) (under_value (multiply p) (poly_value p env) x env (λ s. multiply_value p s env) r) (multiply_value q r (x ∷ env))
    ∙ multiply_step (poly_value p env) (poly_value q (x ∷ env)) (poly_value r (x ∷ env)) x

abbrev pub lookup : List ℤ → ℕ → ℤ
lookup [] i = pos 0
lookup (x ∷ env) zero = x
lookup (x ∷ env) (suc i) = lookup env i

variable_value : (i : ℕ) (env : List ℤ) → poly_value (variable i) env ≡ lookup env i
variable_value zero [] = refl
variable_value zero (x ∷ env) = zero_plus (x *ℤ pos 1) ∙ times_one x
variable_value (suc i) [] = variable_value i []
variable_value (suc i) (x ∷ env) = ap (λ k. poly_value (variable i) env +ℤ k) (times_zero x) ∙ plus_zero (poly_value (variable i) env) ∙ variable_value i env

is_zero_number_means : (c : ℤ) → is_zero_number c ≡ true → c ≡ pos 0
is_zero_number_means (pos zero) e = refl
is_zero_number_means (pos (suc n)) e = cc
is_zero_number_means (negsuc n) e = cc

and_left : (a b : Bool) → a && b ≡ true → a ≡ true
and_left true b e = refl
and_left false b e = e

and_right : (a b : Bool) → a && b ≡ true → b ≡ true
and_right true b e = e
and_right false b e = cc

pub is_zero_means : (p : Poly) (env : List ℤ) → is_zero p ≡ true → poly_value p env ≡ pos 0
is_zero_means (constant c) env e = is_zero_number_means c e
is_zero_means (horner p q) [] e = is_zero_means p [] (and_left (is_zero p) (is_zero q) e)
is_zero_means (horner p q) (x ∷ env) e =
    ap₂ (λ u w. u +ℤ x *ℤ w) (is_zero_means p env (and_left (is_zero p) (is_zero q) e)) (is_zero_means q (x ∷ env) (and_right (is_zero p) (is_zero q) e)) ∙ zero_plus (x *ℤ pos 0) ∙ times_zero x

-- ---- expressions
pub data Expr : Type 0 where
  var : ℕ → Expr
  number : ℤ → Expr
  plus : Expr → Expr → Expr
  times : Expr → Expr → Expr
  negative : Expr → Expr

abbrev pub value : Expr → List ℤ → ℤ
value (var i) env = lookup env i
value (number c) env = c
value (plus a b) env = value a env +ℤ value b env
value (times a b) env = value a env *ℤ value b env
value (negative a) env = neg_ℤ (value a env)

abbrev pub normal : Expr → Poly
normal (var i) = variable i
normal (number c) = constant c
normal (plus a b) = add (normal a) (normal b)
normal (times a b) = multiply (normal a) (normal b)
normal (negative a) = negate (normal a)

pub normal_value : (e : Expr) (env : List ℤ) → poly_value (normal e) env ≡ value e env
normal_value (var i) env = variable_value i env
normal_value (number c) env = refl
normal_value (plus a b) env = add_value (normal a) (normal b) env ∙ ap₂ (λ u w. u +ℤ w) (normal_value a env) (normal_value b env)
normal_value (times a b) env = multiply_value (normal a) (normal b) env ∙ ap₂ (λ u w. u *ℤ w) (normal_value a env) (normal_value b env)
normal_value (negative a) env = negate_value (normal a) env ∙ ap neg_ℤ (normal_value a env)

abbrev pub same : Expr → Expr → Bool
same a b = is_zero (normal (plus a (negative b)))

pub identity : (a b : Expr) (env : List ℤ) → same a b ≡ true → value a env ≡ value b env
identity a b env e = no_difference (value a env) (value b env) (sym (normal_value (plus a (negative b)) env) ∙ is_zero_means (normal (plus a (negative b))) env e)
