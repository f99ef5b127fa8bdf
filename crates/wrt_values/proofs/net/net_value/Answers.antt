use Rattle.cables.specs.Nets.{coloured_net}
use Rattle.wrt_values.proofs.net.net_value.Goals as goal

pub returns : goal.returns
unfolding coloured_net
returns c = rw c.in_ok-network.ensures.inverses (rw c.in_ok-network.ensures.network at c.network_value.ensures)
