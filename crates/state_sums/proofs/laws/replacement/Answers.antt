use Rattle.state_sums.proofs.NetworkLaws.{replacement}
use Rattle.state_sums.proofs.laws.replacement.Goals as goal

pub returns : goal.returns
returns c = replacement
