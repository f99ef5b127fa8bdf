use Rattle.move_results.proofs.ScriptLines.{script_lines}
use Rattle.move_results.proofs.laws.script_lines.Goals as goal

pub returns : goal.returns
returns c = script_lines
