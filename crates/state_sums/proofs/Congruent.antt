-- Equations between remainders, from a certificate: p and q differ by multiples of l - r and s - t, as one equation of
-- natural numbers says.
use Rattle.std.proofs.Common.{◌≡◌, ℕ, zero, suc, ◌+◌, ◌*◌, ◌^◌, ◌%◌, refl, sym, ap, ◌∙◌, arith}
use Rattle.std.proofs.Math.Nat.{pow-zero, pow-suc, add-mod, mod-zero, add-mul-mod_self_left}
use Rattle.std.proofs.lemmas.Nat.{mul-mod_second}

pub pow_0 : (d : ℕ) → d ^ 0 ≡ 1
pow_0 d = pow-zero d

pub pow_1 : (d : ℕ) → d ^ 1 ≡ d
pow_1 d = pow-suc d 0 ∙ (let e = pow_0 d in rw e (omega arith))

pub add_same_mod : (m a b c d : ℕ) → a % m ≡ b % m → c % m ≡ d % m → (a + c) % m ≡ (b + d) % m
add_same_mod m a b c d h k = add-mod a c m ∙ (rw (h, k)) ∙ sym (add-mod b d m)

pub mul_same_mod : (m u a b : ℕ) → a % m ≡ b % m → (u * a) % m ≡ (u * b) % m
mul_same_mod m u a b h = sym (mul-mod_second u a m) ∙ ap (λ n. (u * n) % m) h ∙ mul-mod_second u b m

pub cancel_mod : (m p q x : ℕ) → (p + x) % m ≡ (q + x) % m → p % m ≡ q % m
cancel_mod zero p q x h =
    let e : p + x ≡ q + x = sym (mod-zero (p + x)) ∙ h ∙ mod-zero (q + x) in
    mod-zero p ∙ (let f : p ≡ q = omega arith in f) ∙ sym (mod-zero q)
cancel_mod (suc n) p q x h =
    let e : (p + x) + n * x ≡ p + suc n * x = omega arith in
    let f : (q + x) + n * x ≡ q + suc n * x = omega arith in
    sym (ap (λ i. i % suc n) e ∙ add-mul-mod_self_left p (suc n) x)
    ∙ add_same_mod (suc n) (p + x) (q + x) (n * x) (n * x) h refl
    ∙ ap (λ i. i % suc n) f ∙ add-mul-mod_self_left q (suc n) x

-- THE CERTIFICATE
pub congruent_by : (m p q l r s t u v : ℕ) → l % m ≡ r % m → s % m ≡ t % m → p + (u * r + v * t) ≡ q + (u * l + v * s) → p % m ≡ q % m
congruent_by m p q l r s t u v h k e =
    cancel_mod m p q (u * r + v * t)
    (ap (λ i. i % m) e
    ∙ add_same_mod m q q (u * l + v * s) (u * r + v * t) refl
    (add_same_mod m (u * l) (u * r) (v * s) (v * t) (mul_same_mod m u l r h) (mul_same_mod m v s t k)))
