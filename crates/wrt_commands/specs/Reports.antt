-- Reports, as bytes. (This project's own.)
--
--     report_of residue turns    the report of a residue: its decimal digits and a line feed; and a line of the turns, where these
--                                are reported too
--     value_report turns value   the report of a value, with its turns or without
use Rattle.std.specs.Prelude.{ℕ, Bool, List, [], ◌∷◌, ◌++◌, codes, decimal, Option, Some, None, if◌then◌else◌}
use Rattle.wrt_values.specs.declared.value.Value.{Value}

-- The line of the turns, where they are reported.
abbrev pub turns_line : Option ℕ → List ℕ
turns_line None = []
turns_line (Some turns) = codes "turns " ++ decimal turns ++ 10 ∷ []

-- The report of a residue, and of the turns.
abbrev pub report_of : ℕ → Option ℕ → List ℕ
report_of residue turns = decimal residue ++ 10 ∷ turns_line turns

-- The report of a value.
abbrev pub value_report : Bool → Value → List ℕ
value_report with_turns value = report_of value.residue (if with_turns then Some value.turns else None)
