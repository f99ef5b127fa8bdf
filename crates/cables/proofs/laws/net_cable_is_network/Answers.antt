use Rattle.cables.proofs.NetCables.{net_network}
use Rattle.cables.proofs.laws.net_cable_is_network.Goals as goal

pub returns : goal.returns
returns c = net_network
