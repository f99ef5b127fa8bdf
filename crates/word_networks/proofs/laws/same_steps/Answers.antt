use Rattle.word_networks.proofs.NetworkLaws.{same_steps}
use Rattle.word_networks.proofs.laws.same_steps.Goals as goal

pub returns : goal.returns
returns c = same_steps
