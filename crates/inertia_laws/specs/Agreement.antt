-- Matrices of fractions that are the same in the places below n. A program's table is compared so with a definition's
-- matrix, which has entries at every place.
--
--     Agree n x y         the same entries below n
--     AgreeAll n s t      the same M, P and Q below n
use Rattle.std.specs.Prelude.{◌≡◌, ℕ, ◌<◌}
use Rattle.inertia_laws.specs.Fractions.{Fraction}
use Rattle.inertia_laws.specs.Elimination.{State}

-- the same entries below n
abbrev pub Agree : ℕ → (ℕ → ℕ → Fraction) → (ℕ → ℕ → Fraction) → Type 0
Agree n x y = (i j : ℕ) → i < n → j < n → x i j ≡ y i j

-- the same M, P and Q below n
pub record AgreeAll (n : ℕ) (s t : State) : Type 0 where
  pub m : Agree n s.m t.m
  pub p : Agree n s.p t.p
  pub q : Agree n s.q t.q
