-- The entries of a program's table are fractions in lowest terms, with denominators above 0.
use Rattle.std.proofs.Common.{◌≡◌, ℕ, zero, suc, ◌+◌, ◌*◌, ◌<◌, pos, true, List, [], ◌∷◌, length, get_or, arith}
use Rattle.inertia_laws.specs.Matrices.{is_positive}
use Rattle.inertia_laws.specs.Fractions as logic
use Rattle.inertia_laws.specs.Fractions.{whole}
use Rattle.inertia_laws.proofs.CheckedEquations.{IsLowest}
use Rattle.inertia_cert.specs.declared.fraction.Fraction.{Fraction}
use Rattle.inertia_cert.specs.declared.grid.Grid.{Grid}
use Rattle.inertia_cert.specs.Grids.{values, at}
use Rattle.inertia_cert.proofs.Tables.{row_before}

-- the denominator is above 0, and the fraction is in lowest terms
abbrev pub IsKept : logic.Fraction → Type 0
IsKept x = (is_positive x.den ≡ true) × IsLowest x

entry_kept : (entries : List Fraction) (i : ℕ) → i < length entries → IsKept (get_or (values entries) i (whole (pos 0)))
entry_kept [] i h = absurd (omega arith)
entry_kept (x ∷ entries) zero h = (x.above_zero, x.lowest)
entry_kept (x ∷ entries) (suc i) h = entry_kept entries i (omega arith)

pub at_kept : (grid : Grid) (i j : ℕ) → i < grid.size → j < grid.size → IsKept (at grid i j)
at_kept grid i j hi hj =
    let within : i * grid.size + j < length grid.entries.items = omega (arith, row_before grid.size i grid.size j hi hj, grid.full) in
    entry_kept grid.entries.items (i * grid.size + j) within
