use Rattle.coloured_curls.proofs.ClosedTwists.{closed_crossing}
use Rattle.coloured_curls.proofs.laws.closed_crossing.Goals as goal

pub returns : goal.returns
returns c = closed_crossing
