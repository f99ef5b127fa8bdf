use Rattle.planar_moves.proofs.CurledLoops.{curl_on_loop_planar}
use Rattle.planar_moves.proofs.laws.curl_on_loop_planar.Goals as goal

pub returns : goal.returns
returns c = curl_on_loop_planar
