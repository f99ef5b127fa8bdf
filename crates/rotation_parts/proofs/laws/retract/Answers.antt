use Rattle.rotation_parts.proofs.Retracts.{retract}
use Rattle.rotation_parts.proofs.laws.retract.Goals as goal

pub returns : goal.returns
returns c = retract
