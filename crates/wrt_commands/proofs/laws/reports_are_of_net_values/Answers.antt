use Rattle.wrt_commands.proofs.ReportedValues.{reports_are_of_net_values_law}
use Rattle.wrt_commands.proofs.laws.reports_are_of_net_values.Goals as goal

pub returns : goal.returns
returns c = reports_are_of_net_values_law
