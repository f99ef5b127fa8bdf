use Rattle.piece_laws.proofs.CornerPieces.{curl_corner}
use Rattle.piece_laws.proofs.laws.curl_corner.Goals as goal

pub returns : goal.returns
returns c = curl_corner
