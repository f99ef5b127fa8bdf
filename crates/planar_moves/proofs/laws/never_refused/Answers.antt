use Rattle.planar_moves.proofs.AllMoves.{never_refused}
use Rattle.planar_moves.proofs.laws.never_refused.Goals as goal

pub returns : goal.returns
returns c = never_refused
