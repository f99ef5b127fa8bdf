-- The law, as it is proved.
use Rattle.root_quantum.proofs.EqualParameters.{equal_parameters_law}
use Rattle.root_quantum.proofs.laws.equal_parameters.Goals as goal

pub returns : goal.returns
returns c = equal_parameters_law
