-- A test counted: 1 where it holds.
use Rattle.std.proofs.Common.{◌≡◌, ◌≢◌, ℕ, ◌≤◌, ◌==◌, Bool, true, false, cond, refl, arith}
use Rattle.std.proofs.lemmas.Bool.Decides.{nat_tests}

abbrev pub one_if : Bool → ℕ
one_if b = cond b 1 0

pub one_same : (x y : ℕ) → x ≡ y → one_if (x == y) ≡ 1
one_same x y e = grind (arith, nat_tests, e)

pub one_apart : (x y : ℕ) → x ≢ y → one_if (x == y) ≡ 0
one_apart x y d = grind (arith, nat_tests, d)

pub one_most : (b : Bool) → one_if b ≤ 1
one_most true = omega arith
one_most false = omega arith

pub one_shown : (b : Bool) (n : ℕ) → 1 ≤ n → n ≡ one_if b → b ≡ true
one_shown true n l e = refl
one_shown false n l e = absurd (omega (arith, l, e))

pub clash : (b : Bool) → b ≡ true → b ≡ false → ⊥
clash b s t = grind (arith, s, t)
