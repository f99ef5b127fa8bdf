-- Residues of whole numbers modulo a natural number m. Sums, products and negatives are taken over the
-- whole numbers, and the residue is taken once, at the end. (Standard; the words are this project's own.)
--
--     residue m z          the residue of z modulo m, from 0 to m - 1: residue 41 (negsuc 0) is 40
--     Congruent m x y      x and y differ by a multiple of m
use Rattle.std.specs.Prelude.{◌≡◌, ℕ, ◌-◌, ◌%◌, ℤ, pos, negsuc, ◌+ℤ◌, ◌*ℤ◌}

-- the residue of z modulo m: the natural number below m that differs from z by a multiple of m
unfoldable pub residue : ℕ → ℤ → ℕ
residue m (pos n) = n % m
residue m (negsuc n) = m - 1 - n % m

-- x is y plus a multiple of m
pub record Congruent (m : ℕ) (x y : ℤ) : Type 0 where
  pub factor : ℤ
  pub is : x ≡ y +ℤ factor *ℤ pos m
