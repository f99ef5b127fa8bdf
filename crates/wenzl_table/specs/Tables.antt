-- A table of projectors that threads share, and what its users know of it, as contracts see them. The table has one cell for
-- each colour from 2 on, and a cell is set once, for good. (This project's own.)
--
--     Table                    the parameters, the greatest colour, and the names of the cells
--     Notes                    for each cell its name, and the projector that it is known to hold
--     cells_of notes           the names
--     IsOf notes table         the notes are of that table
--     known notes n            what is known of the cell of colour n
--     Knows notes n            a projector is
--     Keeps before after       what was known is known still
--     Agree x y                where both are known they are one
--     IsFor f p n              f is a projector for these parameters and this colour
use Rattle.std.specs.Prelude.{◌≡◌, ℕ, ◌-◌, ◌≤◌, List, map, get_or, Option, Some, None, IfSome}
use Rattle.root_quantum.specs.Parameters.{Parameters, top_colour}
use Rattle.wenzl_table.specs.Projectors.{Projector}

-- The parameters, the greatest colour, and the names of the cells of the colours from 2 on.
pub record Table : Type 0 where
  pub params : Parameters
  pub top : ℕ
  pub cells : List ℕ

-- A colour at most the top colour, and a cell for each from 2 to it.
pub record IsTable (p : Parameters) (top cells : ℕ) : Type 0 where
  pub few : top ≤ top_colour p
  pub sized : cells ≡ top - 1

-- For each cell its name, and what it is known to hold.
abbrev pub Notes : Type 0
Notes = List (ℕ × Option Projector)

abbrev pub cells_of : Notes → List ℕ
cells_of notes = map (λ note. note.0) notes

abbrev pub IsOf : Notes → Table → Type 0
IsOf notes table = cells_of notes ≡ table.cells

-- What is known of the cell of colour n.
abbrev pub known : Notes → ℕ → Option Projector
known notes n = get_or (map (λ note. note.1) notes) (n - 2) None

abbrev pub Knows : Notes → ℕ → Type 0
Knows notes n = (f : Projector) × (known notes n ≡ Some f)

abbrev pub Keeps : Notes → Notes → Type 0
Keeps before after = (n : ℕ) → IfSome (known before n) (λ f. known after n ≡ Some f)

-- Two that are known are one.
abbrev pub Agree : Option Projector → Option Projector → Type 0
Agree x y = IfSome x (λ f. IfSome y (λ g. f ≡ g))

abbrev pub IsFor : Projector → Parameters → ℕ → Type 0
IsFor f p n = (f.params ≡ p) × (f.colour ≡ n)
