use Rattle.arc_pairing.proofs.CodeDigits.{same_code}
use Rattle.arc_pairing.proofs.laws.one_code.Goals as goal

pub returns : goal.returns
returns c = same_code
