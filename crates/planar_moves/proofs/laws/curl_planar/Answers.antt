use Rattle.planar_moves.proofs.CurledPlanes.{curl_planar}
use Rattle.planar_moves.proofs.laws.curl_planar.Goals as goal

pub returns : goal.returns
returns c = curl_planar
