use Rattle.piece_laws.proofs.CornerPieces.{triangle_corners}
use Rattle.piece_laws.proofs.laws.triangle_corners.Goals as goal

pub returns : goal.returns
returns c = triangle_corners
