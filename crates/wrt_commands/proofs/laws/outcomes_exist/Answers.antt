use Rattle.wrt_commands.proofs.UniqueOutcomes.{outcomes_exist_law}
use Rattle.wrt_commands.proofs.laws.outcomes_exist.Goals as goal

pub returns : goal.returns
returns c = outcomes_exist_law
