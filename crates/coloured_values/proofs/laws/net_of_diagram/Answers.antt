use Rattle.coloured_values.proofs.NetsOfDiagrams.{net_of_diagram}
use Rattle.coloured_values.proofs.laws.net_of_diagram.Goals as goal

pub returns : goal.returns
returns c = net_of_diagram
