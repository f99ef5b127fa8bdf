use Rattle.std.proofs.Common.{◌≡◌, ◌++◌, drop, string_bytes}
use Rattle.wrt_commands.specs.MovesReports.{lines}
use Rattle.wrt_commands.proofs.moves_report.lines.Given as goal

-- the report so far stands before the lines of the other residues
abbrev pub invariant-loop-residue : goal.invariant-loop-residue
invariant-loop-residue l = lines l.residues ≡ string_bytes l.report ++ lines (drop l.residue-index l.residues)
