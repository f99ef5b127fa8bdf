use Rattle.wrt_commands.proofs.ScriptReports.{reports_are_of_scripts_law}
use Rattle.wrt_commands.proofs.laws.reports_are_of_scripts.Goals as goal

pub returns : goal.returns
returns c = reports_are_of_scripts_law
