use Rattle.word_networks.proofs.NetworkLaws.{step_sums}
use Rattle.word_networks.proofs.laws.step_sums.Goals as goal

pub returns : goal.returns
returns c = step_sums
