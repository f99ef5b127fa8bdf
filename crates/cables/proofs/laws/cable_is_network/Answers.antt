use Rattle.cables.proofs.CableLaws.{cable_network}
use Rattle.cables.proofs.laws.cable_is_network.Goals as goal

pub returns : goal.returns
returns c = cable_network
