use Rattle.word_networks.proofs.NetworkLaws.{box_steps}
use Rattle.word_networks.proofs.laws.box_steps.Goals as goal

pub returns : goal.returns
returns c = box_steps
