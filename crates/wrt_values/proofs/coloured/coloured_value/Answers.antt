use Rattle.coloured_values.specs.Coloured.{coloured}
use Rattle.wrt_values.proofs.coloured.coloured_value.Goals as goal

pub returns : goal.returns
unfolding coloured
returns c = rw c.in_ok-network.ensures.inverses (rw c.in_ok-network.ensures.network at c.network_value.ensures)
