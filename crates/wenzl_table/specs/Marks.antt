-- Notes as `once_cell` has them, and as contracts of this crate see them.
--
--     said_of marks            for each note the name of its cell, and what it knows
use Rattle.std.specs.Prelude.{List, map}
use Rattle.once_cell.specs.declared.race.note.Note.{Note}
use Rattle.wenzl_table.specs.Projectors.{Projector}
use Rattle.wenzl_table.specs.Tables.{Notes}

abbrev pub Mark : Type 0
Mark = Note Projector

abbrev pub said_of : List Mark → Notes
said_of marks = map (λ m. (m.cell, m.known)) marks
