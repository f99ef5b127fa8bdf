use Rattle.word_networks.proofs.NetworkLaws.{grids_of_steps}
use Rattle.word_networks.proofs.laws.grids_of_steps.Goals as goal

pub returns : goal.returns
returns c = grids_of_steps
