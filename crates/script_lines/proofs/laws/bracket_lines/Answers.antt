use Rattle.script_lines.proofs.BracketLines.{bracket_lines_law}
use Rattle.script_lines.proofs.laws.bracket_lines.Goals as goal

pub returns : goal.returns
returns c = bracket_lines_law
