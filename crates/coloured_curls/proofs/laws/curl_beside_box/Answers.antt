use Rattle.coloured_curls.proofs.CurlLaws.{curl_beside_box}
use Rattle.coloured_curls.proofs.laws.curl_beside_box.Goals as goal

pub returns : goal.returns
returns c = curl_beside_box
