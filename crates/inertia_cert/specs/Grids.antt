-- Square tables of fractions, as the functions of a row and a column that they stand for.
--
--     FractionTable, entry_in table i j    a table of fractions, and the one in row i and column j
--     table_of grid          the fractions of a program's table
--     listed_at entries k    the k-th fraction of a list, from 0
--     at grid i j            the fraction in row i and column j, from 0
--     listed n f             f 0, .., f (n - 1)
--     tabulated n rows f     so many rows of n entries f i j, one after the other
--     Decides answer fit P   the answer says whether P holds, and there is none where a number doesn't fit
--     CausedBy fault fit     memory ran out, or a number doesn't fit
use Rattle.std.specs.Prelude.{◌≡◌, ℕ, zero, suc, ◌+◌, ◌*◌, ◌↔◌, Bool, true, false, IsTrue, Option, MatchOption, pos, List, [], ◌∷◌, ◌++◌, map, slice_index_or}
use Rattle.inertia_laws.specs.Fractions as logic
use Rattle.inertia_laws.specs.Fractions.{whole}
use Rattle.inertia_cert.specs.declared.fraction.Fraction.{Fraction}
use Rattle.inertia_cert.specs.declared.grid.Grid.{Grid}
use Rattle.inertia_cert.specs.declared.fault.FormFault.{FormFault}
use Rattle.inertia_cert.specs.declared.fault.FormFault.TheVariants.{OutOfBits, Memory}
use Rattle.inertia_cert.specs.Values.{value}

-- the fractions that a list of a program's fractions stands for
abbrev pub values : List Fraction → List logic.Fraction
values entries = map value entries

-- the fraction in row i and column j
abbrev pub at : Grid → ℕ → ℕ → logic.Fraction
at grid i j = slice_index_or (values grid.entries.items) (i * grid.size + j) (whole (pos 0))

-- a square table of fractions: the size and the entries, rows one after the other
pub record FractionTable : Type 0 where
  pub size : ℕ
  pub entries : List logic.Fraction

-- the fraction in row i and column j of a table
abbrev pub entry_in : FractionTable → ℕ → ℕ → logic.Fraction
entry_in table i j = slice_index_or table.entries (i * table.size + j) (whole (pos 0))

abbrev pub table_of : Grid → FractionTable
table_of grid = record { size = grid.size; entries = values grid.entries.items }

-- the k-th fraction of a list
abbrev pub listed_at : List Fraction → ℕ → logic.Fraction
listed_at entries k = slice_index_or (values entries) k (whole (pos 0))

-- f 0, .., f (n - 1)
abbrev pub listed : ℕ → (ℕ → logic.Fraction) → List logic.Fraction
listed zero f = []
listed (suc n) f = listed n f ++ f n ∷ []

-- rows of n entries, one after the other
abbrev pub tabulated : ℕ → ℕ → (ℕ → ℕ → logic.Fraction) → List logic.Fraction
tabulated n zero f = []
tabulated n (suc row) f = tabulated n row f ++ listed n (f row)

-- memory ran out, or a number doesn't fit
abbrev pub CausedBy : FormFault → Bool → Type 0
CausedBy Memory fit = Unit {0}
CausedBy OutOfBits fit = fit ≡ false

-- the answer says whether P holds, and there is none where a number doesn't fit
abbrev pub Decides : Option Bool → Bool → Type 0 → Type 0
Decides answer fit P = MatchOption answer (fit ≡ false) (λ b. (fit ≡ true) × (IsTrue b ↔ P))
