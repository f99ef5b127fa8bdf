use Rattle.piece_laws.proofs.CornerPieces.{bigon_corners}
use Rattle.piece_laws.proofs.laws.bigon_corners.Goals as goal

pub returns : goal.returns
returns c = bigon_corners
