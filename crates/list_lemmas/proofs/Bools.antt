-- Truth values: what `&&` and `||` hold of their sides, and when two are one.
use Rattle.std.proofs.Common.{◌≡◌, ◌≢◌, ℕ, Bool, true, false, ◌&&◌, ◌==◌, refl, arith}
use Rattle.std.proofs.lemmas.Bool.Decides.{nat_tests}

-- Two that hold together are one.
pub same_bool : (a b : Bool) → (a ≡ true → b ≡ true) → (b ≡ true → a ≡ true) → a ≡ b
same_bool a b h k = grind (arith, h, k)

pub and_first : (a b : Bool) → a && b ≡ true → a ≡ true
and_first a b h = grind (arith, h)

pub and_second : (a b : Bool) → a && b ≡ true → b ≡ true
and_second a b h = grind (arith, h)

pub and_false : (b : Bool) → b && false ≡ false
and_false true = refl
and_false false = refl

-- A test of two numbers that fails tells them apart.
pub apart_from_test : (x y : ℕ) → (x == y) ≡ false → x ≢ y
apart_from_test x y f e = grind (arith, nat_tests, f, e)
