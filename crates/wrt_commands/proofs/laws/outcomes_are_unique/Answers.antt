use Rattle.wrt_commands.proofs.UniqueOutcomes.{outcomes_are_unique_law}
use Rattle.wrt_commands.proofs.laws.outcomes_are_unique.Goals as goal

pub returns : goal.returns
returns c = outcomes_are_unique_law
