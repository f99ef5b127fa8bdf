use Rattle.slide_laws.proofs.Congruence.{slide_congruence}
use Rattle.slide_laws.proofs.laws.slide_congruence.Goals as goal

pub returns : goal.returns
returns c = slide_congruence
