-- What the fractions of a program stand for.
--
--     value x                  the fraction of whole numbers that x is
--     opposite x               the fraction with the other sign
--     reciprocal x             one over the fraction, with the sign in the numerator
--     FormsAs result fit x     the result is x where each number that it forms fits, and nothing otherwise
use Rattle.inertia_cert.specs.declared.fraction.Fraction.{Fraction}
use Rattle.std.specs.Prelude.{◌≡◌, Bool, true, false, ◌&&◌, if◌then◌else◌, ◌*ℤ◌, ◌+ℤ◌, neg_ℤ, Option, MatchOption}
use Rattle.inertia_laws.specs.Matrices.{is_negative}
use Rattle.inertia_laws.specs.Range.{fits}
use Rattle.inertia_laws.specs.Fractions as logic

-- the fraction of whole numbers
abbrev pub value : Fraction → logic.Fraction
value x = record { num = x.num; den = x.den }

-- the fraction with the other sign
abbrev pub opposite : logic.Fraction → logic.Fraction
opposite x = record { num = neg_ℤ x.num; den = x.den }

-- one over the fraction, with the sign in the numerator
abbrev pub reciprocal : logic.Fraction → logic.Fraction
reciprocal x = if is_negative x.num then record { num = neg_ℤ x.den; den = neg_ℤ x.num } else record { num = x.den; den = x.num }

-- whether the numbers that the numerator of a sum forms fit
abbrev pub crossed_fits : logic.Fraction → logic.Fraction → Bool
crossed_fits x y = fits (x.num *ℤ y.den) && (fits (y.num *ℤ x.den) && fits (x.num *ℤ y.den +ℤ y.num *ℤ x.den))

-- the result is x where each number that it forms fits, and nothing otherwise
abbrev pub FormsAs : Option Fraction → Bool → logic.Fraction → Type 0
FormsAs result fit x = MatchOption result (fit ≡ false) (λ r. (fit ≡ true) × (value r ≡ x))
