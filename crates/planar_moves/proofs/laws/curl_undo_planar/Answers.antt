use Rattle.planar_moves.proofs.UndonePlanes.{curl_undo_planar}
use Rattle.planar_moves.proofs.laws.curl_undo_planar.Goals as goal

pub returns : goal.returns
returns c = curl_undo_planar
