use Rattle.piece_laws.proofs.CrossingTurns.{any_corner}
use Rattle.piece_laws.proofs.laws.any_corner.Goals as goal

pub returns : goal.returns
returns c = any_corner
