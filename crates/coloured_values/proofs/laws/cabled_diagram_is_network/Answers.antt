use Rattle.coloured_values.proofs.CabledDiagrams.{cabled_network}
use Rattle.coloured_values.proofs.laws.cabled_diagram_is_network.Goals as goal

pub returns : goal.returns
returns c = cabled_network
