-- How one row or column changes by another: what each entry becomes, and whether the numbers that it forms fit.
--
--     changed change to from m        the matrix m with column `from` added to column `to`, row `from` added to row `to`, or
--                                     row `to` taken from row `from`
--     change_fits change to from m    which of its entries fit
use Rattle.std.specs.Prelude.{ℕ, Bool}
use Rattle.inertia_laws.specs.Fractions.{Fraction}
use Rattle.inertia_laws.specs.Elimination.{add_column, add_row, take_row}
use Rattle.inertia_laws.specs.Range.{add_column_fits, add_row_fits, take_row_fits}
use Rattle.inertia_cert.specs.declared.rules.Change.{Change}
use Rattle.inertia_cert.specs.declared.rules.Change.TheVariants as changes

abbrev pub changed : Change → ℕ → ℕ → (ℕ → ℕ → Fraction) → ℕ → ℕ → Fraction
changed changes.ColumnAdded = add_column
changed changes.RowAdded = add_row
changed changes.RowTaken = take_row

abbrev pub change_fits : Change → ℕ → ℕ → (ℕ → ℕ → Fraction) → ℕ → ℕ → Bool
change_fits changes.ColumnAdded = add_column_fits
change_fits changes.RowAdded = add_row_fits
change_fits changes.RowTaken = take_row_fits
