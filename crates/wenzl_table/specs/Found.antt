-- What a table answers: the projector that the cell holds, or where that one isn't for the parameters and the colour asked for,
-- one of the caller's own, which is.
--
--     Finds found p n notes       found is a projector for p and n, and the notes know which one the cell holds
use Rattle.std.specs.Prelude.{◌≡◌, ℕ, Some}
use Rattle.root_quantum.specs.Parameters.{Parameters}
use Rattle.wenzl_table.specs.Projectors.{Projector}
use Rattle.wenzl_table.specs.Tables.{Notes, known, IsFor}
use Rattle.wenzl_table.specs.declared.found.Found.{Found}
use Rattle.wenzl_table.specs.declared.found.Found.TheVariants.{Shared, Own}

-- The one that is known where that is for p and n, and else one that is.
abbrev pub Finds : Found → Parameters → ℕ → Notes → Type 0
Finds (Shared f) p n notes = (known notes n ≡ Some f.now) × IsFor f.now p n
Finds (Own g) p n notes = IsFor g p n × (f : Projector) × (known notes n ≡ Some f) × (¬ IsFor f p n)
