-- Fractions of whole numbers, of any size, with denominators above 0. (Standard.)
--
--     whole z                    z over 1
--     AreEqual x y               one value: the equation with the denominators multiplied out
--     add, subtract, multiply, divide    the operations as they are written, not reduced; 1/2 + 1/2 is 4/4
--     gcd a b                    the greatest common divisor, by Euclid's algorithm
--     reduce x                   the fraction in lowest terms
--     plus, minus, times, ratio  the operations, reduced; 1/2 plus 1/2 is 1/1
--     total_fraction n f         f 0 + f 1 + .. + f (n - 1), not reduced
use Rattle.std.specs.Prelude.{◌≡◌, ℕ, zero, suc, ◌%◌, ◌/◌, if◌then◌else◌, ℤ, pos, negsuc, ◌+ℤ◌, ◌-ℤ◌, ◌*ℤ◌, neg_ℤ}
use Rattle.std.specs.Int.RustNames.{unsigned_abs}
use Rattle.inertia_laws.specs.Matrices.{is_negative}

-- a numerator and a denominator
pub record Fraction : Type 0 where
  pub num : ℤ
  pub den : ℤ

-- z over 1
abbrev pub whole : ℤ → Fraction
whole z = record { num = z; den = pos 1 }

-- one value: the equation with the denominators multiplied out
abbrev pub AreEqual : Fraction → Fraction → Type 0
AreEqual x y = x.num *ℤ y.den ≡ y.num *ℤ x.den

-- ---- as they are written
abbrev pub add : Fraction → Fraction → Fraction
add x y = record { num = x.num *ℤ y.den +ℤ y.num *ℤ x.den; den = x.den *ℤ y.den }

abbrev pub subtract : Fraction → Fraction → Fraction
subtract x y = record { num = x.num *ℤ y.den -ℤ y.num *ℤ x.den; den = x.den *ℤ y.den }

abbrev pub multiply : Fraction → Fraction → Fraction
multiply x y = record { num = x.num *ℤ y.num; den = x.den *ℤ y.den }

-- with the sign brought to the numerator
abbrev pub divide : Fraction → Fraction → Fraction
divide x y =
    if is_negative y.num then record { num = neg_ℤ (x.num *ℤ y.den); den = neg_ℤ (x.den *ℤ y.num) } else record { num = x.num *ℤ y.den; den = x.den *ℤ y.num }

-- Euclid's algorithm; b rounds suffice
abbrev pub gcd_within : ℕ → ℕ → ℕ → ℕ
gcd_within zero a b = a
gcd_within (suc rounds) a zero = a
gcd_within (suc rounds) a (suc b) = gcd_within rounds (suc b) (a % suc b)

-- the greatest common divisor
unfoldable pub gcd : ℕ → ℕ → ℕ
gcd a b = gcd_within b a b

-- a number divided by one that divides it
abbrev pub quotient : ℤ → ℕ → ℤ
quotient (pos n) g = pos (n / g)
quotient (negsuc n) g = neg_ℤ (pos (suc n / g))

-- both divided by g
abbrev pub lowered : ℕ → Fraction → Fraction
lowered g x = record { num = quotient x.num g; den = quotient x.den g }

-- in lowest terms
unfoldable pub reduce : Fraction → Fraction
reduce x = lowered (gcd (unsigned_abs x.num) (unsigned_abs x.den)) x

-- ---- reduced
abbrev pub plus : Fraction → Fraction → Fraction
plus x y = reduce (add x y)

abbrev pub minus : Fraction → Fraction → Fraction
minus x y = reduce (subtract x y)

abbrev pub times : Fraction → Fraction → Fraction
times x y = reduce (multiply x y)

abbrev pub ratio : Fraction → Fraction → Fraction
ratio x y = reduce (divide x y)

-- f 0 + f 1 + .. + f (n - 1), with the denominators multiplied
abbrev pub total_fraction : ℕ → (ℕ → Fraction) → Fraction
total_fraction zero f = whole (pos 0)
total_fraction (suc n) f = add (total_fraction n f) (f n)
