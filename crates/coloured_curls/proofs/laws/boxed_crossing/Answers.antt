use Rattle.coloured_curls.proofs.BoxedLetters.{boxed_crossing}
use Rattle.coloured_curls.proofs.laws.boxed_crossing.Goals as goal

pub returns : goal.returns
returns c = boxed_crossing
