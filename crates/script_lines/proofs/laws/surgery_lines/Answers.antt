use Rattle.script_lines.proofs.SurgeryLines.{surgery_lines_law}
use Rattle.script_lines.proofs.laws.surgery_lines.Goals as goal

pub returns : goal.returns
returns c = surgery_lines_law
