use Rattle.word_networks.proofs.NetworkLaws.{turned_grids}
use Rattle.word_networks.proofs.laws.turned_grids.Goals as goal

pub returns : goal.returns
returns c = turned_grids
