use Rattle.wrt_commands.proofs.ReportedValues.{reports_are_of_tetrahedra_law}
use Rattle.wrt_commands.proofs.laws.reports_are_of_tetrahedra.Goals as goal

pub returns : goal.returns
returns c = reports_are_of_tetrahedra_law
