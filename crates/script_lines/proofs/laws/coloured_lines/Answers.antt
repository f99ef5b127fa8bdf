use Rattle.script_lines.proofs.ColouredLines.{coloured_lines_law}
use Rattle.script_lines.proofs.laws.coloured_lines.Goals as goal

pub returns : goal.returns
returns c = coloured_lines_law
